-- A task as the words of its image ("Task image"), and which tasks are read from their words. Assumes nothing.
use Rattle.std.specs.Prelude.{Bool, ◌&&◌, List, ◌∷◌, ◌++◌, map, ℕ, ◌+◌, ◌*◌, leb, length}
use Rattle.definitions.specs.Lists.{all, each, ascending}
use Rattle.definitions.specs.Literal.{most_atoms, all_below, literal_list}
use Rattle.definitions.specs.Image.{most_image, most_operators, Row, Operator, Task, operator_right}
use Rattle.definitions.specs.Fdr.{pair_words}

-- literals with their count before them
unfoldable pub counted_literals : List ℕ → List ℕ
counted_literals ls = length ls ∷ ls

-- a row: effect literal, count, condition literals
unfoldable pub row_words : Row → List ℕ
row_words r = r.effect ∷ counted_literals r.conditions

-- an operator block: count, precondition literals; count, effect rows
unfoldable pub operator_words : Operator → List ℕ
operator_words o = counted_literals o.precondition ++ (length o.rows ∷ each row_words o.rows)

-- the parts: initial state, goal, operators
unfoldable pub task_parts : Task → List (List ℕ)
task_parts t = t.initial ∷ t.goal ∷ map operator_words t.operators

-- the image: N, M, M+2 pairs, the parts
unfoldable pub task_words : Task → List ℕ
task_words t =
    let ps = task_parts t in
    t.atoms ∷ length t.operators ∷ pair_words (2 + 2 * length ps) ps ++ each (λ p. p) ps

-- its lists are as questions 4, 5 and 7 ask
unfoldable pub task_right : Task → Bool
task_right t =
    ascending t.initial && all_below t.atoms t.initial && literal_list t.atoms t.goal
    && all (operator_right t.atoms) t.operators

-- its counts and its image are within the limits of questions 1 and 2 (no image of a task has under 6 words)
unfoldable pub within_limits : Task → Bool
within_limits t =
    leb 1 t.atoms && leb t.atoms most_atoms && leb (length t.operators) most_operators
    && leb (length (task_words t)) most_image
