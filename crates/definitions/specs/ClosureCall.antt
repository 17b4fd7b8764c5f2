-- The closure shown ("what a set says about one operator", document 02 §7; questions 1-9, 19, 13). Assumes nothing.
use Rattle.std.specs.Prelude.{◌≡◌, List, ℕ, ◌*◌, ◌≤◌, ◌<◌, ltb, leb, length, drop}
use Rattle.definitions.specs.Lists.{keep, below}
use Rattle.definitions.specs.Answer.{Answer, finding, ask, ◌>>=◌}
use Rattle.definitions.specs.Image.{Task, read_task}
use Rattle.definitions.specs.Step.{operator_at}
use Rattle.definitions.specs.Clauses.{read_clauses}
use Rattle.definitions.specs.Closure.{has, closure}
use Rattle.definitions.specs.Groups.{Written, written}
use Rattle.definitions.specs.Marks.{mark_bytes, marked, marks_of, marked_literals}

-- "the closure of the clauses and that operator's precondition"
unfoldable pub operator_closure : Task → List (List ℕ) → ℕ → List ℕ
operator_closure t C i = closure t.atoms C (operator_at t i).precondition

-- "leaves exactly it in the 2N marks (bits and bytes beyond stay), and reports how many literals that closure holds, counted from the marks"
unfoldable pub shown : Task → List (List ℕ) → ℕ → List ℕ → Written
shown t C i ms =
    let new = marks_of t.atoms (operator_closure t C i) ms in
    record { count = length (marked_literals t.atoms new); words = new }

-- image, clause words, operator number and the marks: 1-9, 19, 13
unfoldable pub closure_call : List ℕ → List ℕ → ℕ → List ℕ → Answer Written
closure_call w c i ms = do
  t ← read_task w
  C ← read_clauses t.atoms c
  _ ← ask 19 (ltb i (length t.operators))
  _ ← ask 13 (leb (mark_bytes t.atoms) (length ms))
  finding (shown t C i ms)

-- what a finding x says, where the marks were ms: K is the closure, whether it is contradictory or not, and ms' the marks then
pub record Shows (N : ℕ) (K ms : List ℕ) (x : Written) (ms' : List ℕ) : Type 0 where
  pub exactly : (l : ℕ) → l < 2 * N → marked ms' l ≡ has K l
  pub bits_beyond : (l : ℕ) → 2 * N ≤ l → marked ms' l ≡ marked ms l
  pub bytes_beyond : drop (mark_bytes N) ms' ≡ drop (mark_bytes N) ms
  pub same_length : length ms' ≡ length ms
  pub number : x.count ≡ length (keep (has K) (below (2 * N)))

-- of every finding
abbrev pub ClosureShown : Type 0
ClosureShown =
    (w c : List ℕ) (i : ℕ) (ms : List ℕ) (t : Task) (C : List (List ℕ)) (x : Written)
    → read_task w ≡ finding t → read_clauses t.atoms c ≡ finding C
    → closure_call w c i ms ≡ finding x → Shows t.atoms (operator_closure t C i) ms x (written ms (finding x)).lent
