-- Marks of a closure that is not contradictory. Assumes nothing.
use mathlib.Core.Path.{◌≡◌, sym, subst}
use mathlib.Core.Bool.{true, false}
use mathlib.Core.List.{List, ◌++◌, Memᴰ}
use Prim.Native.Nat.{ℕ, ◌*◌, ◌<◌}
use Rattle.definitions.specs.Closure.{closure, contradictory}
use Rattle.definitions.specs.Kept.{all_in}
use Rattle.clause.specs.Rows.{clauses_of, ClausesRead}
use Rattle.clause.proofs.ReadLaws.{read_right}
use Rattle.clause.proofs.ClauseLaws.{clause_below}
use Rattle.propagation.specs.Marks.{Marked, ConsistentMarks}
use Rattle.propagation.proofs.MarkedSets.{consistent_by}
use Rattle.judge.specs.Judging.{can_fire}
use Rattle.judge.specs.Promise.{ConsistentClosure}
use Rattle.judge.proofs.Firing.{closure_held, held_fires}

-- the literals of clauses that are read
pub within_rows :
    {atoms : ℕ} {ws : List ℕ} → ClausesRead atoms ws → (f : List ℕ) → Memᴰ f (clauses_of ws) → (l : ℕ)
    → Memᴰ l f → l < 2 * atoms
within_rows {atoms} {ws} read = clause_below atoms ws (read_right atoms ws read)

module _ (atoms : ℕ) (ws ls ms : List ℕ) where
  pub closure_consistent : ConsistentClosure atoms ws ls ms → ConsistentMarks atoms ms
  closure_consistent c = consistent_by atoms ms (closure atoms (clauses_of ws) ls) c.marked c.consistent

  -- by propagation's answer
  pub closure_says :
      (contradictory atoms (closure atoms (clauses_of ws) ls) ≡ false) × Marked atoms ms (closure atoms (clauses_of ws) ls)
      → ConsistentClosure atoms ws ls ms
  closure_says k = record { consistent = k.0; marked = k.1 }

  -- the same marks
  pub closure_copied :
      (ms' :
      List ℕ) → ConsistentClosure atoms ws ls ms → ((S : List ℕ) → Marked atoms ms S
      → Marked atoms ms' S) → ConsistentClosure atoms ws ls ms'
  closure_copied ms' c copied = record { consistent = c.consistent; marked = copied (closure atoms (clauses_of ws) ls) c.marked }

  -- an equal list
  pub closure_start : (ls' : List ℕ) → ls ≡ ls' → ConsistentClosure atoms ws ls ms → ConsistentClosure atoms ws ls' ms
  closure_start ls' e c = subst (λ (x : List ℕ). ConsistentClosure atoms ws x ms) e c

  -- literals that lie in the closure
  module _ (read : ClausesRead atoms ws) (cs : List ℕ) (held : all_in (closure atoms (clauses_of ws) ls) cs ≡ true) where
    pub closure_with : ConsistentClosure atoms ws ls ms → ConsistentClosure atoms ws (ls ++ cs) ms
    closure_with c =
        let e = sym (closure_held atoms (clauses_of ws) (within_rows read) ls cs held) in
        record {
          consistent = subst (λ (K : List ℕ). contradictory atoms K ≡ false) e c.consistent;
          marked = subst (λ (K : List ℕ). Marked atoms ms K) e c.marked;
        }

    pub closure_fires : ConsistentClosure atoms ws ls ms → true ≡ can_fire atoms (clauses_of ws) ls cs
    closure_fires c = held_fires atoms (clauses_of ws) (within_rows read) ls cs held c.consistent

pub contradictory_start :
    (N : ℕ) (C : List (List ℕ)) (ls ls' : List ℕ) → ls ≡ ls' → contradictory N (closure N C ls) ≡ true
    → contradictory N (closure N C ls') ≡ true
contradictory_start N C ls ls' e h = subst (λ (x : List ℕ). contradictory N (closure N C x) ≡ true) e h

pub consistent_copied :
    (atoms :
    ℕ) (ms ms' : List ℕ) → ConsistentMarks atoms ms → ((S : List ℕ) → Marked atoms ms S
    → Marked atoms ms' S) → ConsistentMarks atoms ms'
consistent_copied atoms ms ms' c copied = consistent_by atoms ms' c.set (copied c.set c.marked) c.consistent
