-- A flag that is set, and bytes at places. Assumes nothing.
use Rattle.std.specs.Prelude.{ℕ, List, [], ◌∷◌, Bool, true, false, cond, set}

abbrev pub mark_if : Bool → List ℕ → ℕ → List ℕ
mark_if true m l = set m l 1
mark_if false m l = m

-- the byte v at the place of each element that passes a test, one after the other
abbrev pub put_where : {A : Type 0} → ℕ → (A → ℕ) → (A → Bool) → List A → List ℕ → List ℕ
put_where v place test [] m = m
put_where v place test (x ∷ xs) m = put_where v place test xs (cond (test x) (set m (place x) v) m)
