-- Groups in which a clause of positive literals lies: one clause, then all of them. Assumes nothing.
use mathlib.Core.Bool.{Bool, true, false, ◌&&◌, ◌||◌, cond}
use mathlib.Core.Path.{◌≡◌, refl, sym, ◌∙◌, ap}
use mathlib.Core.List.{List, [], ◌∷◌}
use Prim.Native.Nat.{ℕ, ◌+◌, ◌≤◌, ◌<◌}
use native.Mathlib.Decide.{ℕ_discrete}
use native.Mathlib.Omega.{arith}
use lib.Dec.{eqb}
use lib.ListN.{length, get_or, drop, set}
use lib.Seq.{get_or-set_same, get_or-set_other}
use borrow.Author.Tests.{ne_eqb}
use Rattle.definitions.specs.Lists.{any, all}
use Rattle.definitions.specs.Literal.{positive}
use Rattle.definitions.specs.Clauses.{clause_of, row_at}
use Rattle.clause.specs.Rows.{row_count, clauses_of}
use Rattle.clause.proofs.RowLaws.{clauses_left, clauses_done}
use Rattle.cover.specs.None.{in_group, lies_in}

-- ---- one literal
module _ (places : List ℕ) (v l : ℕ) where
  pub in_positive : (x : ℕ) → positive l ≡ true → x ≡ get_or places l 0 → eqb x v ≡ in_group places v l
  unfolding in_group
  in_positive x h e = rw (h, e)

  pub in_negative : positive l ≡ false → false ≡ in_group places v l
  unfolding in_group
  in_negative h = rw h

-- ---- one clause, whose first literal's variable is g
module _ (places f : List ℕ) (x g : ℕ) (some : 1 ≤ length f) (ex : x ≡ get_or f 0 0) (eg : g ≡ get_or places x 0) where
  other_group : (v : ℕ) → (v ≡ g → ⊥) → lies_in places v f ≡ false
  unfolding lies_in all in_group
  other_group v ne = go f some ex
    where
      go : (f : List ℕ) → 1 ≤ length f → x ≡ get_or f 0 0 → all (in_group places v) f ≡ false
      go [] h e = absurd (omega arith)
      go (y ∷ f) h e =
          let q : eqb (get_or places y 0) v ≡ false = ne_eqb (get_or places y 0) v (λ z. ne (sym z ∙ ap (λ (k : ℕ). get_or places k 0) (sym e) ∙ sym eg)) in
          rw q (nor (positive y) (all (in_group places v) f))
        where
          nor : (a b : Bool) → ((a && false) && b) ≡ false
          nor true b = refl
          nor false b = refl

  module _ (none : List ℕ) (v : ℕ) where
    pub omit_lies : g < length none → lies_in places g f ≡ true → get_or (set none g 0) v 0 ≡ cond (lies_in places v f) 0 (get_or none v 0)
    omit_lies inside h = go (ℕ_discrete v g)
      where
        go : Dec (v ≡ g) → get_or (set none g 0) v 0 ≡ cond (lies_in places v f) 0 (get_or none v 0)
        go (yes e) = rw (e, h) (get_or-set_same none g 0 0 inside)
        go (no e) = rw (other_group v e) (get_or-set_other none g v 0 0 e)

    pub omit_not : lies_in places g f ≡ false → get_or none v 0 ≡ cond (lies_in places v f) 0 (get_or none v 0)
    omit_not h = go (ℕ_discrete v g)
      where
        go : Dec (v ≡ g) → get_or none v 0 ≡ cond (lies_in places v f) 0 (get_or none v 0)
        go (yes e) = rw (e, h)
        go (no e) = rw (other_group v e)

-- ---- all clauses: what is left at row i
module _ (w places : List ℕ) (i v : ℕ) where
  abbrev pub flag_after : ℕ → ℕ
  flag_after x = cond (any (lies_in places v) (drop i (clauses_of w))) 0 x

  pub omit_on :
      i < row_count w → (f : List ℕ) (x y : ℕ) → f ≡ clause_of (row_at w i) → y ≡ cond (lies_in places v f) 0 x
      → flag_after x ≡ cond (any (lies_in places v) (drop (i + 1) (clauses_of w))) 0 y
  unfolding any
  omit_on h f x y ef ey =
      rw (clauses_left w i h, ey, ef) (go (lies_in places v (clause_of (row_at w i))) (any (lies_in places v) (drop (i + 1) (clauses_of w))))
    where
      go : (a b : Bool) → cond (a || b) 0 x ≡ cond b 0 (cond a 0 x)
      go true true = refl
      go true false = refl
      go false b = refl

  pub omit_end : row_count w ≤ i → (x : ℕ) → flag_after x ≡ x
  unfolding any
  omit_end h x = rw (clauses_done w i h)
