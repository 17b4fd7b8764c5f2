-- Judging in bulk: the literals that an operator guarantees as one set, and all judged clauses for one row after the other. Assumes nothing.
use Rattle.std.specs.Prelude.{Bool, true, false, not, ◌&&◌, cond, ◌≡◌, List, [], ◌∷◌, ◌++◌, map, ℕ, ◌*◌}
use Rattle.definitions.specs.Lists.{any, below, member}
use Rattle.definitions.specs.Literal.{complement}
use Rattle.definitions.specs.Image.{Row, Operator}
use Rattle.definitions.specs.Closure.{has, bit, closure, contradictory}
use Rattle.literal.specs.Literal.{has_sign}
use Rattle.literal.specs.Mark.{put_where}
use Rattle.definitions.specs.Kept.{all_in, guaranteed, kept_case, kept}

-- a flag for each literal: whether the set holds it
unfoldable pub flags_of : ℕ → List ℕ → List ℕ
flags_of N K = map (λ l. bit (has K l)) (below (2 * N))

-- the flags with those of the effects of the adds, or of the deletes, whose conditions lie in K
abbrev pub flag_effects : Bool → List ℕ → List Row → List ℕ → List ℕ
flag_effects adds K = put_where 1 (λ q. q.effect) (λ q. has_sign adds q.effect && all_in K q.conditions)

module _ (N : ℕ) (C : List (List ℕ)) where
  -- a row with conditions cs can fire where C and ls hold, as far as the closure says
  unfoldable pub can_fire : List ℕ → List ℕ → Bool
  can_fire ls cs = not (contradictory N (closure N C (ls ++ cs)))

  -- the flags without those of the complements of the effects of the rows that can fire
  abbrev pub drop_changed : List ℕ → List Row → List ℕ → List ℕ
  drop_changed ls = put_where 0 (λ q. complement q.effect) (λ q. can_fire ls q.conditions)

  -- a flag for each literal: whether the operator guarantees it
  unfoldable pub guaranteed_flags : Operator → List ℕ → List ℕ
  guaranteed_flags o ls = map (λ m. bit (guaranteed N C o ls (closure N C ls) m)) (below (2 * N))

  -- the row falsifies a literal of f, and its case does not pass
  unfoldable pub violates : Operator → Row → List ℕ → Bool
  violates o r f =
      let l = complement r.effect in
      let c = kept_case N C o f l r in
      member l f && not c

  -- some of these rows violates f
  unfoldable pub some_violates : Operator → List Row → List ℕ → Bool
  some_violates o rs f = any (λ r. violates o r f) rs

  -- a flag for each clause: whether it is not kept under the operator
  unfoldable pub fail_flags : Operator → List (List ℕ) → List ℕ
  fail_flags o D = map (λ f. bit (not (kept N C o f))) D

-- f holds l, and no literal of f has its flag in G
unfoldable pub lacks_flag : ℕ → List ℕ → List ℕ → Bool
lacks_flag l G f =
    let flagged = any (has G) f in
    member l f && not flagged

-- the flags of the clauses with those that pass the test
unfoldable pub flag_more : (List ℕ → Bool) → List (List ℕ) → List ℕ → List ℕ
flag_more t [] s = s
flag_more t (f ∷ D) [] = []
flag_more t (f ∷ D) (x ∷ s) = cond (t f) 1 x ∷ flag_more t D s

-- an answer, and the flags of the literals that the operator guarantees: none where the closure of C and the precondition is contradictory
abbrev pub Guarantees : ℕ → List (List ℕ) → Operator → List ℕ → Bool → Type 0
Guarantees N C o F true = (contradictory N (closure N C o.precondition) ≡ false) × (F ≡ guaranteed_flags N C o o.precondition)
Guarantees N C o F false = contradictory N (closure N C o.precondition) ≡ true
