-- A loop that puts in clauses: those of W are left. Assumes nothing.
use mathlib.Core.Path.{◌≡◌, refl, ◌∙◌, ap, subst}
use mathlib.Core.Option.{Option, none, some}
use mathlib.Core.List.{List, [], ◌++◌}
use Prim.Native.Nat.{ℕ}
use Rattle.clause_set.specs.Put.{put_all}
use Rattle.clause_set.specs.Held.{held, Room, Holds}
use Rattle.std.specs.Prelude as std
use Rattle.clause_set.proofs.Insertion.{puts_append, puts_none}

-- the buffer w holds k rows, and putting in the clauses of W as well gives the goal
pub record Pending (rows : ℕ) (W : List (List ℕ)) (goal : Option (List (List ℕ))) (k : ℕ) (w : List ℕ) : Type 0 where
  pub room : Room rows k w
  pub rest : goal ≡ put_all rows W (some (held k w))

pub pending_start : (rows : ℕ) (W : List (List ℕ)) (k : ℕ) (w : List ℕ) → Room rows k w → Pending rows W (put_all rows W (some (held k w))) k w
pending_start rows W k w r = record { room = r; rest = refl }

-- where what is left at the start is written otherwise
pub pending_same : (rows : ℕ) (W W' : List (List ℕ)) (k : ℕ) (w : List ℕ) → Room rows k w → W ≡ W' → Pending rows W' (put_all rows W (some (held k w))) k w
pending_same rows W W' k w r e = record { room = r; rest = ap (λ (z : List (List ℕ)). put_all rows z (some (held k w))) e }

module _ (rows : ℕ) (W : List (List ℕ)) (goal : Option (List (List ℕ))) (k : ℕ) (w : List ℕ) (p : Pending rows W goal k w) where
  module _ (A B : List (List ℕ)) (split : W ≡ A ++ B) (w' : List ℕ) (r : std.Option ℕ) (built : Holds rows r w' (put_all rows A (some (held k w)))) where
    after : goal ≡ put_all rows B (put_all rows A (some (held k w)))
    after = p.rest ∙ rw (split, puts_append rows A B (some (held k w)))

    -- the clauses of A are put in
    pub pending_on : (k' : ℕ) → r ≡ std.Some k' → Pending rows B goal k' w'
    pending_on k' e =
        let h = subst (λ (z : std.Option ℕ). Holds rows z w' (put_all rows A (some (held k w)))) e built in
        record { room = h.0; rest = after ∙ ap (put_all rows B) h.1 }

    -- one of A does not fit
    pub pending_full : r ≡ std.None → goal ≡ none
    pending_full e = after ∙ ap (put_all rows B) (subst (λ (z : std.Option ℕ). Holds rows z w' (put_all rows A (some (held k w)))) e built) ∙ puts_none rows B

  pub pending_end : W ≡ [] → goal ≡ some (held k w)
  unfolding put_all
  pending_end e = p.rest ∙ rw e
