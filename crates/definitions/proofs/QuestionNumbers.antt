-- Questions 1 to 7 refuse with a number up to 7, 8 and 9 with one up to 9. Assumes nothing.
use mathlib.Core.Bool.{◌&&◌}
use mathlib.Core.List.{List, [], ◌∷◌}
use mathlib.Core.Option.{Option, none, some}
use mathlib.Core.Path.{◌≡◌, refl, ap}
use Prim.Native.Nat.{ℕ, zero, suc, ◌+◌, ◌*◌, ◌/◌, ◌%◌, ◌≤◌}
use native.Mathlib.Omega.{arith}
use lib.Dec.{eqb, leb}
use lib.ListN.{length, get_or}
use Rattle.definitions.specs.Lists.{ascending}
use Rattle.definitions.specs.Answer.{Refusal, finding, refuse, ask, ask_at}
use Rattle.definitions.specs.Literal.{most_atoms, all_below, literal_list}
use Rattle.definitions.specs.Image.{most_image, most_operators, Operator, part, directory, operator_of, operator_right}
use Rattle.definitions.specs.Image.{read_operator, read_operators, read_task}
use Rattle.definitions.specs.Clauses.{width, most_rows, clause_of, clause_right, row_at, above_last, read_rows, read_clauses}
use Rattle.definitions.proofs.AnswerLaws.{same_refusal_lem, UpTo, up_finding, up_ask, up_bind}

operator_numbers : (N i : ℕ) (b : List ℕ) → UpTo 7 (read_operator N i b)
unfolding read_operator refuse
operator_numbers N i b r e = go (operator_of b) refl
  where
    go : (x : Option Operator) → operator_of b ≡ x → r.number ≤ 7
    go none p =
        let six = ap (λ (r : Refusal). r.number) (same_refusal_lem _ r (rw (p, read_operator) at e)) in
        omega arith
    go (some o) p =
        up_bind 7 (ask_at 7 i (operator_right N o)) (λ _. finding o) (up_ask 7 7 i (operator_right N o) (omega arith)) (λ _. up_finding 7 o) r
        (rw (p, read_operator) at e)

operators_numbers : (N : ℕ) (w : List ℕ) (k i : ℕ) → UpTo 7 (read_operators N w i k)
unfolding read_operators
operators_numbers N w zero i = up_finding 7 []
operators_numbers N w (suc k) i =
    up_bind 7 (read_operator N i (part w (i + 2))) _ (operator_numbers N i (part w (i + 2)))
    (λ o. up_bind 7 (read_operators N w (suc i) k) _ (operators_numbers N w k (suc i)) (λ os. up_finding 7 (o ∷ os)))

pub task_numbers : (w : List ℕ) → UpTo 7 (read_task w)
unfolding read_task ask
task_numbers w =
    let N = get_or w 0 0 in
    let M = get_or w 1 0 in
    up_bind 7 _ _ (up_ask 7 1 0 (leb 6 (length w) && leb (length w) most_image) (omega arith)) (λ _.
    up_bind 7 _ _ (up_ask 7 2 0 (leb 1 N && leb N most_atoms && leb M most_operators) (omega arith)) (λ _.
    up_bind 7 _ _ (up_ask 7 3 0 (directory w (M + 2)) (omega arith)) (λ _.
    up_bind 7 _ _ (up_ask 7 4 0 (ascending (part w 0) && all_below N (part w 0)) (omega arith)) (λ _.
    up_bind 7 _ _ (up_ask 7 5 0 (literal_list N (part w 1)) (omega arith)) (λ _.
    up_bind 7 _ _ (operators_numbers N w M 0) (λ os. up_finding 7 _))))))

rows_numbers : (N : ℕ) (c : List ℕ) (k i : ℕ) → UpTo 9 (read_rows N c i k)
unfolding read_rows
rows_numbers N c zero i = up_finding 9 []
rows_numbers N c (suc k) i =
    up_bind 9 _ _ (up_ask 9 9 i (clause_right N (row_at c i) && above_last c i) (omega arith))
    (λ _. up_bind 9 _ _ (rows_numbers N c k (suc i)) (λ C. up_finding 9 (clause_of (row_at c i) ∷ C)))

pub clauses_numbers : (N : ℕ) (c : List ℕ) → UpTo 9 (read_clauses N c)
unfolding read_clauses ask
clauses_numbers N c =
    up_bind 9 _ _ (up_ask 9 8 0 (eqb (length c % width) 0 && leb (length c) (width * most_rows)) (omega arith))
    (λ _. rows_numbers N c (length c / width) 0)
