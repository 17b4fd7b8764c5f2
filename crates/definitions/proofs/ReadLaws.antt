-- What the finding of the reader says of a task. Assumes nothing.
use mathlib.Core.Bool.{true, ◌&&◌}
use mathlib.Core.Logic.{◌⊎◌, inl, inr}
use mathlib.Core.Option.{Option, none, some}
use mathlib.Core.Path.{◌≡◌, refl, sym, subst}
use mathlib.Core.List.Memᴰ
use mathlib.Core.List.{List, [], ◌∷◌, Memᴰ}
use Prim.Native.Nat.{ℕ, zero, suc, ◌+◌, ◌*◌, ◌≤◌, ◌<◌}
use borrow.Author.Tests.{leb-true, ltb-true}
use lib.Dec.{leb, ltb}
use lib.ListN.{length, get_or}
use Rattle.definitions.specs.Lists.{all, ascending}
use Rattle.definitions.specs.Answer.{finding, refuse, ask, ask_at, ◌>>=◌}
use Rattle.definitions.specs.Literal.{most_atoms, all_below, literal_list}
use Rattle.definitions.specs.Image.{most_image, most_operators, Row, Operator, Task, part, directory, row_right, operator_of, operator_right}
use Rattle.definitions.specs.Image.{read_operator, read_operators, read_task}
use Rattle.definitions.proofs.AnswerLaws.{not_finding, same_finding, bind_of, ask_of}
use Rattle.definitions.proofs.ListLaws.{and_left, and_right, all_at, all_of}
use Rattle.definitions.proofs.LiteralLaws.{list_low}

-- the operators are as question 7 asks
abbrev pub Right : Task → Type 0
Right t = (o : Operator) → Memᴰ o t.operators → operator_right t.atoms o ≡ true

-- a row is right: its effect and its conditions are over the atoms
module _ (N : ℕ) (r : Row) (right : row_right N r ≡ true) where
  pub row_effect : r.effect < 2 * N
  unfolding row_right
  row_effect = ltb-true r.effect (2 * N) (and_left (ltb r.effect (2 * N)) (literal_list N r.conditions) right)

  pub row_list : literal_list N r.conditions ≡ true
  unfolding row_right
  row_list = and_right (ltb r.effect (2 * N)) (literal_list N r.conditions) right

  pub row_conditions : all_below (2 * N) r.conditions ≡ true
  row_conditions = list_low N r.conditions row_list

-- an operator is right: its precondition and its rows are
module _ (N : ℕ) (o : Operator) (right : operator_right N o ≡ true) where
  pub pre_list : literal_list N o.precondition ≡ true
  unfolding operator_right
  pre_list = and_left (literal_list N o.precondition) (all (row_right N) o.rows) right

  pub pre_low : all_below (2 * N) o.precondition ≡ true
  pre_low = list_low N o.precondition pre_list

  pub rows_right_lem : all (row_right N) o.rows ≡ true
  unfolding operator_right
  rows_right_lem = and_right (literal_list N o.precondition) (all (row_right N) o.rows) right

  pub effect_low : (r : Row) → Memᴰ r o.rows → r.effect < 2 * N
  effect_low r m = row_effect N r (all_at (row_right N) rows_right_lem m)

  pub conditions_low : all (λ r. all_below (2 * N) r.conditions) o.rows ≡ true
  conditions_low =
      all_of (λ r. all_below (2 * N) r.conditions) o.rows (λ r m. row_conditions N r (all_at (row_right N) rows_right_lem m))

read_operator_right : (N i : ℕ) (b : List ℕ) (o : Operator) → read_operator N i b ≡ finding o → operator_right N o ≡ true
unfolding read_operator refuse
read_operator_right N i b o e = go (operator_of b) refl
  where
    go : (x : Option Operator) → operator_of b ≡ x → operator_right N o ≡ true
    go none p = absurd (not_finding (rw (p, read_operator) at e))
    go (some q) p =
        let m = bind_of (ask_at 7 i (operator_right N q)) (λ _. finding q) o (rw (p, read_operator) at e) in
        subst (λ (z : Operator). operator_right N z ≡ true) (same_finding q o m.2) (ask_of 7 i (operator_right N q) m.0 m.1)

pub read_operators_right :
    (N : ℕ) (w : List ℕ) (k i : ℕ) (os : List Operator) → read_operators N w i k ≡ finding os → (o : Operator) → Memᴰ o os
    → operator_right N o ≡ true
unfolding read_operators
read_operators_right N w zero i os e o m =
    absurd (Memᴰ.not-nil (subst (λ (z : List Operator). Memᴰ o z) (sym (same_finding [] os e)) m))
read_operators_right N w (suc k) i os e o m =
    let p = bind_of (read_operator N i (part w (i + 2))) (λ o. read_operators N w (suc i) k >>= λ os. finding (o ∷ os)) os e in
    let q = bind_of (read_operators N w (suc i) k) (λ os. finding (p.0 ∷ os)) os p.2 in
    go p.0 q.0 (read_operator_right N i (part w (i + 2)) p.0 p.1) (λ o m. read_operators_right N w k (suc i) q.0 q.1 o m)
    (Memᴰ.cases_cons (subst (λ (z : List Operator). Memᴰ o z) (sym (same_finding (p.0 ∷ q.0) os q.2)) m))
  where
    go :
        (x : Operator) (xs : List Operator) → operator_right N x ≡ true → ((o : Operator) → Memᴰ o xs → operator_right N o ≡ true)
        → (o ≡ x) ⊎ Memᴰ o xs → operator_right N o ≡ true
    go x xs h rec (inl j) = subst (λ (z : Operator). operator_right N z ≡ true) (sym j) h
    go x xs h rec (inr j) = rec o j

-- what reading says of the task
pub record ReadRight (w : List ℕ) (t : Task) : Type 0 where
  pub atoms : t.atoms ≡ get_or w 0 0
  pub few : t.atoms ≤ most_atoms
  pub goal : literal_list t.atoms t.goal ≡ true
  pub operators : Right t

pub read_right : (w : List ℕ) (t : Task) → read_task w ≡ finding t → ReadRight w t
unfolding read_task ask
read_right w t e =
    let N = get_or w 0 0 in
    let M = get_or w 1 0 in
    let q1 = bind_of (ask_at 1 0 (leb 6 (length w) && leb (length w) most_image)) _ t e in
    let q2 = bind_of (ask_at 2 0 (leb 1 N && leb N most_atoms && leb M most_operators)) _ t q1.2 in
    let q3 = bind_of (ask_at 3 0 (directory w (M + 2))) _ t q2.2 in
    let q4 = bind_of (ask_at 4 0 (ascending (part w 0) && all_below N (part w 0))) _ t q3.2 in
    let q5 = bind_of (ask_at 5 0 (literal_list N (part w 1))) _ t q4.2 in
    let q6 = bind_of (read_operators N w 0 M) (λ os. finding (record { atoms = N; initial = part w 0; goal = part w 1; operators = os })) t q5.2 in
    let x : Task = record { atoms = N; initial = part w 0; goal = part w 1; operators = q6.0 } in
    subst (λ (z : Task). ReadRight w z) (same_finding x t q6.2)
    (record {
      atoms = refl;
      few = leb-true N most_atoms (and_right (leb 1 N) (leb N most_atoms)
          (and_left (leb 1 N && leb N most_atoms) (leb M most_operators) (ask_of 2 0 (leb 1 N && leb N most_atoms && leb M most_operators) q2.0 q2.1)));
      goal = ask_of 5 0 (literal_list N (part w 1)) q5.0 q5.1;
      operators = read_operators_right N w M 0 q6.0 q6.1;
    })
