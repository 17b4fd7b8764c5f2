-- A clause put into a set, unless it or a part of it is there. Assumes nothing.
use Rattle.std.specs.Prelude.{Bool, true, false, ◌||◌, cond, List, [], ◌∷◌, map, ℕ, zero, suc, ◌-◌, ◌*◌, ◌/◌, ◌%◌, eqb, ltb, length}
use Rattle.std.proofs.Math.Option.{Option, none, some}
use Rattle.definitions.specs.Lists.{any, range, member}
use Rattle.definitions.specs.Literal.{atom}
use Rattle.definitions.specs.Groups.{has_clause}
use Rattle.definitions.specs.Synthesis.{insert_literal, insert_clause}

-- the part of a clause that a mask names: its first literal if the mask is odd, and of the rest what half the mask names
unfoldable pub part_of : ℕ → List ℕ → List ℕ
part_of m [] = []
part_of m (l ∷ f) = elim (eqb (m % 2) 1) [ true ↦ l ∷ part_of (m / 2) f | false ↦ part_of (m / 2) f ]

-- the number of masks of k literals
unfoldable pub masks : ℕ → ℕ
masks zero = 1
masks (suc k) = 2 * masks k

-- some proper non-empty part of the clause is in the set
unfoldable pub part_there : List (List ℕ) → List ℕ → Bool
part_there D f = any (λ m. has_clause D (part_of m f)) (range 1 (masks (length f) - 2))

-- the clause or a part of it is in the set
unfoldable pub blocked : List (List ℕ) → List ℕ → Bool
blocked D f = let p = part_there D f in has_clause D f || p

-- a clause put in, unless it or a part of it is there; none if it does not fit
unfoldable pub put : ℕ → List ℕ → Option (List (List ℕ)) → Option (List (List ℕ))
put rows f none = none
put rows f (some D) =
    cond (blocked D f) (some D) (cond (ltb (length D) rows) (some (insert_clause f D)) none)

unfoldable pub put_all : ℕ → List (List ℕ) → Option (List (List ℕ)) → Option (List (List ℕ))
put_all rows [] s = s
put_all rows (f ∷ W) s = put_all rows W (put rows f s)

-- the clause with a literal of a new atom
unfoldable pub extended : List ℕ → ℕ → List (List ℕ)
extended f l = cond (member (atom l) (map atom f)) [] (insert_literal l f ∷ [])
