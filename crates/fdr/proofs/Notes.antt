-- Noting one row, by the code's own tests, and the walk over the rows. Assumes nothing.
use mathlib.Core.Path.{◌≡◌, refl, sym, ap, ◌∙◌}
use mathlib.Core.List.{List, [], ◌∷◌}
use mathlib.Core.Bool.{Bool, true, false, not, cond, and-false}
use mathlib.Core.Option.{Option, some}
use Prim.Native.Nat.{ℕ, ◌+◌, ◌/◌, ◌%◌, ◌≤◌, ◌<◌}
use native.Mathlib.Omega.{arith}
use lib.Dec.{eqb, ltb}
use lib.ListN.{get_or, set}
use borrow.Author.Tests.{eq-eqb, ne_eqb, lt-ltb, le-ltb, ltb-true}
use Rattle.std.specs.Prelude as std
use Rattle.definitions.specs.Lists.{all, keep}
use Rattle.definitions.specs.Fdr.{FdrRow, fdr_true_in, fdr_all_true}
use Rattle.definitions.proofs.ListLaws.{none_some, same_some, and_left, and_right}
use Rattle.fdr_image.specs.Walk.{literal}
use Rattle.fdr_image.specs.declared.block.Kind.{Kind}
use Rattle.fdr_image.specs.declared.block.Kind.TheVariants.{Set, Clear}
use Rattle.fdr.specs.Change.{noted, note_set, note_clear, note_kind, note_if, note_row, note_fired}

-- ---- the truth of a literal
module _ (s : List ℕ) (v c x : ℕ) (e : x ≡ get_or s v 0) where
  pub true_plain : c % 2 ≡ 0 → eqb x (c / 2) ≡ fdr_true_in s (literal v c)
  unfolding fdr_true_in
  true_plain h = rw (h, fdr_true_in, ← e)

  pub true_negated : (c % 2 ≡ 0 → ⊥) → not (eqb x (c / 2)) ≡ fdr_true_in s (literal v c)
  unfolding fdr_true_in
  true_negated h = let z : c % 2 ≡ 1 = omega arith in rw (z, fdr_true_in, ← e)

-- ---- a set
module _ (v x : ℕ) (m : List ℕ) where
  pub set_first : get_or m v 0 < 2 → noted true (set m v (x + 2)) ≡ note_set v x m
  unfolding noted note_set
  set_first h = rw (lt-ltb (get_or m v 0) 2 h, note_set)

  pub set_again : 2 ≤ get_or m v 0 → noted (eqb (get_or m v 0) (x + 2)) m ≡ note_set v x m
  unfolding note_set
  set_again h = rw (le-ltb (get_or m v 0) 2 h, note_set)

-- ---- a clear
module _ (s : List ℕ) (v x : ℕ) (m : List ℕ) where
  pub clear_late : (get_or m v 0 ≡ 0 → ⊥) → m ≡ note_clear s v x m
  unfolding note_clear
  clear_late h = rw (ne_eqb (get_or m v 0) 0 h, note_clear)

  module _ (y : ℕ) (ey : y ≡ get_or s v 0) where
    pub clear_absent : (y ≡ x → ⊥) → m ≡ note_clear s v x m
    unfolding note_clear
    clear_absent f = rw (← ey, ne_eqb x y (λ e. f (sym e)), and-false (eqb (get_or m v 0) 0))

    pub clear_present : get_or m v 0 ≡ 0 → y ≡ x → set m v 1 ≡ note_clear s v x m
    unfolding note_clear
    clear_present h e = rw (← ey, eq-eqb (get_or m v 0) 0 h, eq-eqb x y (sym e))

-- ---- by the kind
module _ (s : List ℕ) (k : std.Option Kind) (v x : ℕ) (m : List ℕ) where
  pub kind_set : k ≡ std.Some Set → note_set v x m ≡ note_kind s k v x m
  unfolding note_kind
  kind_set e = rw e

  pub kind_clear : k ≡ std.Some Clear → (m' : List ℕ) → m' ≡ note_clear s v x m → noted true m' ≡ note_kind s k v x m
  unfolding note_kind noted
  kind_clear e m' em = rw (e, em)

  pub kind_other : k ≡ std.None → noted true m ≡ note_kind s k v x m
  unfolding note_kind noted
  kind_other e = rw e

-- ---- by the conditions
module _ (fires : Bool) (o : Option (List ℕ)) (m : List ℕ) where
  pub row_idle : fires ≡ false → noted true m ≡ note_if fires o m
  unfolding note_if noted
  row_idle e = rw e

  pub row_fires : fires ≡ true → o ≡ note_if fires o m
  unfolding note_if
  row_fires e = rw e

-- ---- the walk: one row of those that are left, and the end
noted_false : (m m' : List ℕ) → noted false m' ≡ some m → ⊥
unfolding noted
noted_false m m' e = none_some e

noted_true : (m m' : List ℕ) → noted true m' ≡ some m → m' ≡ m
unfolding noted
noted_true m m' e = same_some e

module _
    (s : List ℕ) (rows rest : List FdrRow) (r : FdrRow) (er : rows ≡ r ∷ rest) (fires : Bool) (ef : fires ≡ fdr_all_true s r.conditions)
    (m m' : List ℕ) where
  abbrev fired : List FdrRow → List FdrRow
  fired rs = keep (λ r. fdr_all_true s r.conditions) rs

  kept : (b : Bool) → fires ≡ b → fired rows ≡ cond b (r ∷ fired rest) (fired rest)
  unfolding keep
  kept true e = rw (er, ← ef, e, keep)
  kept false e = rw (er, ← ef, e, keep)

  pub rows_stop : noted false m' ≡ note_if fires (note_row s r m) m → note_fired s (fired rows) m ≡ noted false m'
  unfolding note_fired note_if noted
  rows_stop en = go fires refl
    where
      go : (b : Bool) → fires ≡ b → note_fired s (fired rows) m ≡ noted false m'
      go true e = ap (λ l. note_fired s l m) (kept true e) ∙ rw (← (rw (e, note_if) at en), note_fired)
      go false e = absurd (noted_false m m' (rw (e, note_if) at en))

  pub rows_next : noted true m' ≡ note_if fires (note_row s r m) m → note_fired s (fired rows) m ≡ note_fired s (fired rest) m'
  unfolding note_fired note_if noted
  rows_next en = go fires refl
    where
      go : (b : Bool) → fires ≡ b → note_fired s (fired rows) m ≡ note_fired s (fired rest) m'
      go true e = ap (λ l. note_fired s l m) (kept true e) ∙ rw (← (rw (e, note_if) at en), note_fired)
      go false e = ap (λ l. note_fired s l m) (kept false e) ∙ rw (noted_true m m' (rw (e, note_if) at en))

pub rows_end :
    (s : List ℕ) (rows : List FdrRow) (m : List ℕ) → rows ≡ []
    → note_fired s (keep (λ r. fdr_all_true s r.conditions) rows) m ≡ noted true m
unfolding note_fired keep noted
rows_end s rows m e = rw e

pub low_row :
    (n : ℕ) (rows rest : List FdrRow) (r : FdrRow) → rows ≡ r ∷ rest → all (λ r. ltb r.variable n) rows ≡ true
    → (r.variable < n) × (all (λ r. ltb r.variable n) rest ≡ true)
unfolding all
low_row n rows rest r e h =
    let h' = rw e at h in
    let more = all (λ r. ltb r.variable n) rest in
    (ltb-true r.variable n (and_left (ltb r.variable n) more h'), and_right (ltb r.variable n) more h')
