-- Two tasks joined (document 02 §6; questions 1-7 of the first image, 1-7 of the second, 27). Assumes nothing.
use Rattle.std.specs.Prelude.{Bool, not, ◌&&◌, cond, List, ◌++◌, map, ℕ, ◌+◌, ◌-◌, ◌*◌, eqb, ltb, leb, length}
use Rattle.definitions.specs.Lists.{keep}
use Rattle.definitions.specs.Answer.{Answer, finding, ask, ◌>>=◌}
use Rattle.definitions.specs.Literal.{most_atoms, fill}
use Rattle.definitions.specs.Image.{most_image, most_operators, Row, Operator, Task, read_task}
use Rattle.definitions.specs.Groups.{Written}
use Rattle.definitions.specs.TaskWords.{task_words}

-- every number of the list, higher by k
unfoldable pub shifted : ℕ → List ℕ → List ℕ
shifted k xs = map (λ x. k + x) xs

-- behind n atoms: a literal is higher by 2n
unfoldable pub shifted_row : ℕ → Row → Row
shifted_row n r = record { effect = 2 * n + r.effect; conditions = shifted (2 * n) r.conditions }

unfoldable pub shifted_operator : ℕ → Operator → Operator
shifted_operator n o = record { precondition = shifted (2 * n) o.precondition; rows = map (shifted_row n) o.rows }

unfoldable pub shifted_clauses : ℕ → List (List ℕ) → List (List ℕ)
shifted_clauses n C = map (shifted (2 * n)) C

-- "the second's atoms follow the first's, so do its operators; initial states and goals are put together"
unfoldable pub joined : Task → Task → Task
joined t u =
    let n = t.atoms in
    record {
      atoms = n + u.atoms;
      initial = t.initial ++ shifted n u.initial;
      goal = t.goal ++ shifted (2 * n) u.goal;
      operators = t.operators ++ map (shifted_operator n) u.operators;
    }

-- question 27: atoms, operators and image do not pass the limits of questions 1 and 2, and the image fits its buffer
unfoldable pub join_fits : Task → ℕ → Bool
join_fits t target =
    leb t.atoms most_atoms && leb (length t.operators) most_operators && leb (length (task_words t)) most_image
    && leb (length (task_words t)) target

-- two tasks that were read: 27; the finding gives the length written
unfoldable pub join_answer : Task → Task → ℕ → Answer Written
join_answer t u target = do
  let ws = task_words (joined t u)
  _ ← ask 27 (join_fits (joined t u) target)
  finding (record { count = length ws; words = ws })

-- join: 1-7 of the first image, 1-7 of the second, 27
unfoldable pub join_call : List ℕ → List ℕ → ℕ → Answer Written
join_call w v target = do
  t ← read_task w
  u ← read_task v
  join_answer t u target

-- "their union, the second shifted"
unfoldable pub union : ℕ → List (List ℕ) → List (List ℕ) → List (List ℕ)
union n C D = C ++ shifted_clauses n D

-- a word of a clause row: a literal is higher by k, the fill stays
unfoldable pub shifted_word : ℕ → ℕ → ℕ
shifted_word k x = cond (eqb x fill) fill (k + x)

-- its words: the first's rows, then the second's
unfoldable pub union_words : ℕ → List ℕ → List ℕ → List ℕ
union_words n c d = c ++ map (shifted_word (2 * n)) d

-- "each task's own part" of a list of numbers, M operators being the first's
unfoldable pub first_part : ℕ → List ℕ → List ℕ
first_part M is = keep (λ i. ltb i M) is

unfoldable pub second_part : ℕ → List ℕ → List ℕ
second_part M is = map (λ i. i - M) (keep (λ i. not (ltb i M)) is)
