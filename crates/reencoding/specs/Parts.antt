-- The parts of the re-encoded image: their lengths, the initial values, the operators. Assumes nothing.
use Rattle.std.specs.Prelude.{List, [], ◌∷◌, ◌++◌, map, ℕ, ◌+◌, ◌-◌, ◌*◌, min, length, get_or, set, take}
use Rattle.definitions.specs.Lists.{each}
use Rattle.definitions.specs.Image.{Operator, Task, operator_size}
use Rattle.writing.specs.Directory.{directory_of}
use Rattle.cover.specs.Domains.{cover_words}
use Rattle.reencoding.specs.Words.{literals_by, operator_by}

-- the number of words that an operator becomes: a block of L words becomes 2L - 2
unfoldable pub words_of : Operator → ℕ
words_of o = 2 * operator_size o - 2

-- the lengths of the parts, with n variables
unfoldable pub lengths_of : ℕ → Task → List ℕ
lengths_of n t = 2 * n ∷ 2 * t.atoms ∷ n ∷ 2 * length t.goal ∷ map words_of t.operators

-- a value is lowered to x
unfoldable pub lower : List ℕ → ℕ → ℕ → List ℕ
lower values v x = set values v (min (get_or values v 0) x)

-- the value of each variable is lowered to that of its true atoms
unfoldable pub lowered : List ℕ → List ℕ → List ℕ → List ℕ
lowered places [] values = values
lowered places (a ∷ trues) values =
    lowered places trues (lower values (get_or places (2 * a) 0) (get_or places (2 * a + 1) 0))

unfoldable pub operators_by : List ℕ → List Operator → List ℕ
operators_by places os = each (operator_by places) os

-- the initial values, the goal and the operators, by the places of the atoms and the sizes of the n groups
unfoldable pub task_by : Task → List ℕ → List ℕ → ℕ → List ℕ
task_by t places sizes n = lowered places t.initial (take n sizes) ++ (literals_by places t.goal ++ operators_by places t.operators)

-- the image, by these and by which groups have the value none
unfoldable pub image_by : Task → List ℕ → List ℕ → List ℕ → ℕ → List ℕ
image_by t places sizes none n =
    directory_of n (length t.operators) (lengths_of n t) ++ (cover_words places sizes none n ++ task_by t places sizes n)
