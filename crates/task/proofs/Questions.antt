-- Laws of reading: questions 1 to 7 in order, and what is known of an image that reads as a task. Assumes nothing.
use mathlib.Core.Path.{◌≡◌, refl, sym, ap, ◌∙◌, subst}
use mathlib.Core.List.{List, [], ◌∷◌}
use mathlib.Core.Bool.{Bool, true, false, ◌&&◌}
use mathlib.Core.Option.{some}
use Prim.Native.Nat.{ℕ, zero, suc, ◌+◌, ◌≤◌, ◌<◌}
use native.Mathlib.Numerals.{add-one}
use native.Mathlib.Omega.{arith}
use lib.ListN.{length, get_or}
use lib.Dec.{leb}
use borrow.Author.Tests.{leb-true}
use Rattle.definitions.specs.Lists.{ascending}
use Rattle.definitions.specs.Answer.{Refusal, Answer, finding, refused, verdict, ask, ask_at, ◌>>=◌}
use Rattle.definitions.specs.Literal.{most_atoms, all_below, literal_list}
use Rattle.definitions.specs.Image.{most_image, most_operators, Operator, Task, part, directory, operator_of, operator_right, read_operator}
use Rattle.definitions.specs.Image.{read_operators, read_task}
use Rattle.definitions.specs.Step.{no_operator, operator_at}
use Rattle.definitions.proofs.ListLaws.{and_left, and_right}
use Rattle.definitions.proofs.AnswerLaws.{not_finding, same_finding, bind_of, ask_of}
use Rattle.definitions.proofs.ReadLaws.{read_right}
use Rattle.definitions.proofs.ListLaws.{get_or_mem}
use Rattle.answer.proofs.Laws.{verdict_bind}
use Rattle.task.specs.Reads.{task_in, task_of, Reads}
use Rattle.task.specs.Walk.{some_operator, operator_or, block_parses, operator_in, size_right, counts_right, lists_answer, parts_answer}
use Rattle.task.specs.Post.{BlockGiven}
use Rattle.task.proofs.Blocks.{operator_found}

-- ---- questions 1 and 2
pub size_room : (w : List ℕ) → size_right w ≡ true → 6 ≤ length w
unfolding size_right
size_room w h = leb-true 6 (length w) (and_left (leb 6 (length w)) (leb (length w) most_image) h)

module _ (w : List ℕ) where
  N : ℕ
  N = get_or w 0 0

  M : ℕ
  M = get_or w 1 0

  module _ (h : counts_right w ≡ true) where
    pub counts_atoms : get_or w 0 0 ≤ most_atoms
    unfolding counts_right N M
    counts_atoms = leb-true N most_atoms (and_right (leb 1 N) (leb N most_atoms) (and_left (leb 1 N && leb N most_atoms) (leb M most_operators) h))

    pub counts_operators : get_or w 1 0 ≤ most_operators
    unfolding counts_right N M
    counts_operators = leb-true M most_operators (and_right (leb 1 N && leb N most_atoms) (leb M most_operators) h)

-- ---- the operators, one before the next
verdict_then :
    {A B D : Type 0} (m : Answer A) (k : Answer B) (f : A → B → D) → verdict m ≡ finding tt
    → verdict (m >>= λ a. k >>= λ b. finding (f a b)) ≡ verdict k
unfolding verdict ◌>>=◌
verdict_then (finding a) k f e = verdict_bind k (f a)
verdict_then (refused r) k f e = absurd (not_finding e)

verdict_stop : {A B : Type 0} (m : Answer A) (k : A → Answer B) (r : Refusal) → verdict m ≡ refused r → verdict (m >>= k) ≡ refused r
unfolding verdict ◌>>=◌
verdict_stop (finding a) k r e = absurd (not_finding (sym e))
verdict_stop (refused q) k r e = e

module _ (atoms : ℕ) (w b : List ℕ) (i k k' : ℕ) (more : k ≡ suc k') (eb : b ≡ part w (i + 2)) where
  pub operators_refused : (r : Refusal) → refused r ≡ verdict (read_operator atoms i b) → refused r ≡ verdict (read_operators atoms w i k)
  unfolding read_operators
  operators_refused r e = rw more (sym (verdict_stop (read_operator atoms i (part w (i + 2))) _ r (rw eb at (sym e))))

  pub operators_on : finding tt ≡ verdict (read_operator atoms i b) → verdict (read_operators atoms w i k) ≡ verdict (read_operators atoms w (i + 1) k')
  unfolding read_operators
  operators_on e = rw (more, add-one) (verdict_then (read_operator atoms i (part w (i + 2))) (read_operators atoms w (suc i) k') _ (rw eb at (sym e)))

pub operators_end : (atoms : ℕ) (w : List ℕ) (i k : ℕ) → k ≡ 0 → finding tt ≡ verdict (read_operators atoms w i k)
unfolding read_operators verdict
operators_end atoms w i k e = rw e

-- ---- the questions in order
verdict_asked : {A : Type 0} (q : ℕ) (b : Bool) (k : Answer A) → verdict (ask q b >>= λ _. k) ≡ (ask q b >>= λ _. verdict k)
unfolding ask ask_at verdict ◌>>=◌
verdict_asked q true k = refl
verdict_asked q false k = refl

pub read_asks : (w : List ℕ) → (ask 1 (size_right w) >>= λ _. ask 2 (counts_right w) >>= λ _. parts_answer w) ≡ verdict (read_task w)
unfolding read_task size_right counts_right parts_answer lists_answer
read_asks w =
    sym
    (verdict_asked 1 (size_right w) _
    ∙ ap (λ (a : Answer (Unit {0})). ask 1 (size_right w) >>= λ _. a)
    (verdict_asked 2 (counts_right w) _
    ∙ ap (λ (a : Answer (Unit {0})). ask 2 (counts_right w) >>= λ _. a)
    (verdict_asked 3 (directory w (get_or w 1 0 + 2)) _
    ∙ ap (λ (a : Answer (Unit {0})). ask 3 (directory w (get_or w 1 0 + 2)) >>= λ _. a)
    (verdict_asked 4 (ascending (part w 0) && all_below (get_or w 0 0) (part w 0)) _
    ∙ ap (λ (a : Answer (Unit {0})). ask 4 (ascending (part w 0) && all_below (get_or w 0 0) (part w 0)) >>= λ _. a)
    (verdict_asked 5 (literal_list (get_or w 0 0) (part w 1)) _
    ∙ ap (λ (a : Answer (Unit {0})). ask 5 (literal_list (get_or w 0 0) (part w 1)) >>= λ _. a)
    (verdict_bind (read_operators (get_or w 0 0) w 0 (get_or w 1 0))
    (λ os. record { atoms = get_or w 0 0; initial = part w 0; goal = part w 1; operators = os })))))))

-- ---- an image that reads as a task
found_is : (a : Answer Task) → verdict a ≡ finding tt → a ≡ finding (task_in a)
unfolding verdict task_in
found_is (finding t) e = refl
found_is (refused r) e = absurd (not_finding e)

pub reads : (w : List ℕ) → finding tt ≡ verdict (read_task w) → Reads w
unfolding task_of
reads w e = record { found = found_is (read_task w) (sym e) }

-- operators from operator i on, as they were read
operators_read :
    (atoms : ℕ) (w : List ℕ) (k i : ℕ) (os : List Operator) → read_operators atoms w i k ≡ finding os
    → (length os ≡ k) × ((j : ℕ) → j < k → read_operator atoms (i + j) (part w (i + j + 2)) ≡ finding (get_or os j no_operator))
unfolding read_operators
operators_read atoms w zero i os e = (ap length (sym (same_finding [] os e)), λ j h. absurd (omega arith))
operators_read atoms w (suc k) i os e =
    let p = bind_of (read_operator atoms i (part w (i + 2))) (λ o. read_operators atoms w (suc i) k >>= λ os. finding (o ∷ os)) os e in
    let q = bind_of (read_operators atoms w (suc i) k) (λ os. finding (p.0 ∷ os)) os p.2 in
    let rest = operators_read atoms w k (suc i) q.0 q.1 in
    subst (λ (z : List Operator). (length z ≡ suc k) × ((j : ℕ) → j < suc k
    → read_operator atoms (i + j) (part w (i + j + 2)) ≡ finding (get_or z j no_operator)))
    (same_finding (p.0 ∷ q.0) os q.2)
    (ap suc rest.0, at p.0 q.0 p.1 rest.1)
  where
    at :
        (o : Operator) (rs : List Operator) → read_operator atoms i (part w (i + 2)) ≡ finding o
        → ((j : ℕ) → j < k → read_operator atoms (suc i + j) (part w (suc i + j + 2)) ≡ finding (get_or rs j no_operator)) → (j : ℕ) → j < suc k
        → read_operator atoms (i + j) (part w (i + j + 2)) ≡ finding (get_or (o ∷ rs) j no_operator)
    at o rs h t zero l = let z : i + 0 ≡ i = omega arith in rw z h
    at o rs h t (suc j) l = let z : i + suc j ≡ suc i + j = omega arith in rw z (t j (omega arith))

-- what is known of it, by the words of the image
pub record TaskRead (w : List ℕ) (t : Task) : Type 0 where
  pub room : 6 ≤ length w
  pub atoms : t.atoms ≡ get_or w 0 0
  pub few : t.atoms ≤ most_atoms
  pub count : length t.operators ≡ get_or w 1 0
  pub few_operators : length t.operators ≤ most_operators
  pub directory : directory w (get_or w 1 0 + 2) ≡ true
  pub initial : t.initial ≡ part w 0
  pub initial_right : (ascending t.initial && all_below t.atoms t.initial) ≡ true
  pub goal : t.goal ≡ part w 1
  pub goal_right_lem : literal_list t.atoms t.goal ≡ true
  pub operator : (i : ℕ) → i < length t.operators → read_operator t.atoms i (part w (i + 2)) ≡ finding (operator_at t i)

pub task_read : (w : List ℕ) → Reads w → TaskRead w (task_of w)
unfolding read_task size_right counts_right ask operator_at
task_read w r =
    let atoms = get_or w 0 0 in
    let operators = get_or w 1 0 in
    let t = task_of w in
    let q1 = bind_of (ask_at 1 0 (size_right w)) _ t r.found in
    let q2 = bind_of (ask_at 2 0 (counts_right w)) _ t q1.2 in
    let q3 = bind_of (ask_at 3 0 (directory w (operators + 2))) _ t q2.2 in
    let q4 = bind_of (ask_at 4 0 (ascending (part w 0) && all_below atoms (part w 0))) _ t q3.2 in
    let q5 = bind_of (ask_at 5 0 (literal_list atoms (part w 1))) _ t q4.2 in
    let q6 =
    bind_of (read_operators atoms w 0 operators) (λ os. finding (record { atoms = atoms; initial = part w 0; goal = part w 1; operators = os })) t
    q5.2 in
    let x : Task = record { atoms = atoms; initial = part w 0; goal = part w 1; operators = q6.0 } in
    let ops = operators_read atoms w operators 0 q6.0 q6.1 in
    let c = ask_of 2 0 (counts_right w) q2.0 q2.1 in
    subst (λ (z : Task). TaskRead w z) (same_finding x t q6.2)
    (record {
      room = size_room w (ask_of 1 0 (size_right w) q1.0 q1.1);
      atoms = refl;
      few = counts_atoms w c;
      count = ops.0;
      few_operators = let z = counts_operators w c in let y : length q6.0 ≡ operators = ops.0 in omega arith;
      directory = ask_of 3 0 (directory w (operators + 2)) q3.0 q3.1;
      initial = refl;
      initial_right = ask_of 4 0 (ascending (part w 0) && all_below atoms (part w 0)) q4.0 q4.1;
      goal = refl;
      goal_right_lem = ask_of 5 0 (literal_list atoms (part w 1)) q5.0 q5.1;
      operator = λ i h.
          let z : 0 + i ≡ i = omega arith in
          let y : length q6.0 ≡ operators = ops.0 in
          rw z at (ops.1 i (omega arith));
    })

-- the block of an operator, and that its lists are right
module _ (w : List ℕ) (r : Reads w) (i : ℕ) (below : i < length (task_of w).operators) where
  block_parses_lem : operator_of (part w (i + 2)) ≡ some (operator_at (task_of w) i)
  block_parses_lem = operator_found (task_of w).atoms i (part w (i + 2)) (operator_at (task_of w) i) ((task_read w r).operator i below)

  pub block_given : BlockGiven (part w (i + 2)) (task_of w) i
  unfolding block_parses operator_in some_operator operator_or
  block_given = record { parses = ap some_operator block_parses_lem; operator = ap operator_or block_parses_lem }

  pub operator_right_lem : operator_right (task_of w).atoms (operator_at (task_of w) i) ≡ true
  unfolding operator_at
  operator_right_lem = (read_right w (task_of w) r.found).operators (operator_at (task_of w) i) (get_or_mem (task_of w).operators i no_operator below)
