-- Flags of literals, and the state that they make: what the walks of a step work out. Assumes nothing.
use Rattle.std.specs.Prelude.{ℕ, List, [], ◌∷◌, Bool, true, false, cond, ◌&&◌, set}
use Rattle.definitions.specs.Literal.{atom, positive}
use Rattle.definitions.specs.Image.{Row}
use Rattle.definitions.specs.Step.{fires}
use Rattle.definitions.specs.Closure.{has}
use Rattle.literal.specs.Literal.{has_sign}
use Rattle.literal.specs.Mark.{put_where}

-- a state with the atoms of a list made true
abbrev pub set_true : List ℕ → List ℕ → List ℕ
set_true = put_where 1 (λ a. a) (λ a. true)

-- flags with those of the effects of the rows that fire in s
abbrev pub flag_fired : List ℕ → List Row → List ℕ → List ℕ
flag_fired s = put_where 1 (λ r. r.effect) (fires s)

-- literal l made true in s, if the test holds
abbrev pub make_true : Bool → List ℕ → ℕ → List ℕ
make_true true s l = set s (atom l) (cond (positive l) 1 0)
make_true false s l = s

-- the flags without the effects of the adds, or of the deletes
abbrev pub unflagged : Bool → List Row → List ℕ → List ℕ
unflagged adds = put_where 0 (λ r. r.effect) (λ r. has_sign adds r.effect)

-- the state with the flagged effects of the adds, or of the deletes, made true, one after the other, each flag cleared then
abbrev pub changed : Bool → List Row → List ℕ → List ℕ → List ℕ
changed adds [] m s = s
changed adds (r ∷ rs) m s =
    changed adds rs (cond (has_sign adds r.effect) (set m r.effect 0) m)
    (make_true (has_sign adds r.effect && has m r.effect) s r.effect)
