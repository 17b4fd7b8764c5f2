-- Laws of the fired rows of a re-encoded step: sets, clears and conflict. Assumes nothing.
use mathlib.Core.Bool.{Bool, true, false, not, ◌&&◌}
use mathlib.Core.Logic.{◌⊎◌, inl, inr}
use mathlib.Core.Option.{Option, none, some}
use mathlib.Core.Path.{◌≡◌, refl, sym, ◌∙◌, ap, subst}
use mathlib.Core.List.Memᴰ
use mathlib.Core.List.{List, [], ◌∷◌, Memᴰ}
use Prim.Native.Nat.{ℕ}
use native.Mathlib.Omega.{arith}
use lib.Dec.{eqb}
use borrow.Author.Tests.{eqb-true, eqb-false, eq-eqb, ne_eqb, not-true}
use Rattle.definitions.specs.Lists.{any}
use Rattle.definitions.specs.Fdr.{FdrRow}
use Rattle.definitions.specs.FdrStep.{is_set, clash, fdr_conflict, set_value, cleared}
use Rattle.definitions.proofs.ListLaws.{none_some, refuted, never, and_left, and_right, and_both, any_of, any_in}

pub set_kind : (r : FdrRow) → r.kind ≡ 0 → is_set r ≡ true
unfolding is_set
set_kind r e = eq-eqb r.kind 0 e

pub clear_kind : (r : FdrRow) → r.kind ≡ 1 → is_set r ≡ false
unfolding is_set
clear_kind r e = ne_eqb r.kind 0 (let h = e in omega arith)

-- ---- the first set of a variable, and the clears of a value
pub set_some :
    (rs : List FdrRow) (w x : ℕ) → set_value rs w ≡ some x
    → (r : FdrRow) × Memᴰ r rs × (is_set r ≡ true) × (r.variable ≡ w) × (r.value ≡ x)
unfolding set_value
set_some [] w x e = none_some e
set_some (r ∷ rs) w x e = go (is_set r && eqb r.variable w) refl (λ h. set_some rs w x h)
  where
    Goal : List FdrRow → Type 0
    Goal l = (r : FdrRow) × Memᴰ r l × (is_set r ≡ true) × (r.variable ≡ w) × (r.value ≡ x)

    back : ℕ → Option ℕ → ℕ
    back d none = d
    back d (some y) = y

    go : (b : Bool) → (is_set r && eqb r.variable w) ≡ b → (set_value rs w ≡ some x → Goal rs) → Goal (r ∷ rs)
    go true h rec = (
      r,
      Memᴰ.head refl,
      and_left (is_set r) (eqb r.variable w) h,
      eqb-true r.variable w (and_right (is_set r) (eqb r.variable w) h),
      ap (back 0) (rw (h, set_value) at e),
    )
    go false h rec =
        let g = rec (rw (h, set_value) at e) in
        (g.0, Memᴰ.tail g.1, g.2, g.3, g.4)

pub set_none : (rs : List FdrRow) (w : ℕ) → set_value rs w ≡ none → (r : FdrRow) → Memᴰ r rs → is_set r ≡ true → r.variable ≡ w → ⊥
unfolding set_value
set_none [] w e r m h k = Memᴰ.not-nil m
set_none (q ∷ rs) w e r m h k = go (is_set q && eqb q.variable w) refl (Memᴰ.cases_cons m) (λ x j. set_none rs w x r j h k)
  where
    is_some : Option ℕ → Type 0
    is_some none = ⊥
    is_some (some y) = Unit {0}

    go :
        (b : Bool) → (is_set q && eqb q.variable w) ≡ b → (r ≡ q) ⊎ Memᴰ r rs → (set_value rs w ≡ none → Memᴰ r rs → ⊥)
        → ⊥
    go true x c rec = subst is_some (rw (x, set_value) at e) tt
    go false x (inl j) rec =
        never {A = ⊥} (and_both (subst (λ (z : FdrRow). is_set z ≡ true) j h) (eq-eqb q.variable w (sym (ap (λ z. z.variable) j) ∙ k))) x
    go false x (inr j) rec = rec (rw (x, set_value) at e) j

pub cleared_of :
    (rs : List FdrRow) (w x : ℕ) → cleared rs w x ≡ true
    → (r : FdrRow) × Memᴰ r rs × (is_set r ≡ false) × (r.variable ≡ w) × (r.value ≡ x)
unfolding cleared
cleared_of rs w x h =
    let u = any_of (λ r. not (is_set r) && eqb r.variable w && eqb r.value x) rs h in
    let r = u.it in
    let p = u.passes in
    let q = and_left (not (is_set r) && eqb r.variable w) (eqb r.value x) p in (
      r,
      u.mem,
      not-true (is_set r) (and_left (not (is_set r)) (eqb r.variable w) q),
      eqb-true r.variable w (and_right (not (is_set r)) (eqb r.variable w) q),
      eqb-true r.value x (and_right (not (is_set r) && eqb r.variable w) (eqb r.value x) p),
    )

pub cleared_in :
    (rs : List FdrRow) (w x : ℕ) (r : FdrRow) → Memᴰ r rs → is_set r ≡ false → r.variable ≡ w → r.value ≡ x
    → cleared rs w x ≡ true
unfolding cleared
cleared_in rs w x r m k e f =
    any_in (λ r. not (is_set r) && eqb r.variable w && eqb r.value x) m
    (and_both (and_both (ap not k) (eq-eqb r.variable w e)) (eq-eqb r.value x f))

-- ---- conflict
-- rows whose sets of one variable have one value are not in conflict
pub one_value :
    (rs : List FdrRow)
    → ((r q : FdrRow) → Memᴰ r rs → Memᴰ q rs → is_set r ≡ true → is_set q ≡ true → r.variable ≡ q.variable
    → r.value ≡ q.value)
    → fdr_conflict rs ≡ false
unfolding fdr_conflict clash
one_value rs same =
    refuted
    (λ h.
    let u = any_of (λ r. any (clash r) rs) rs h in
    let w = any_of (clash u.it) rs u.passes in
    no_clash u.it w.it u.mem w.mem w.passes)
  where
    no_clash : (r q : FdrRow) → Memᴰ r rs → Memᴰ q rs → clash r q ≡ true → ⊥
    no_clash r q mr mq h =
        let sets = is_set r && is_set q in
        let vars = eqb r.variable q.variable in
        let differ = not (eqb r.value q.value) in
        let p = and_left (sets && vars) differ h in
        let both = and_left sets vars p in
        eqb-false r.value q.value (not-true (eqb r.value q.value) (and_right (sets && vars) differ h))
        (same r q mr mq (and_left (is_set r) (is_set q) both) (and_right (is_set r) (is_set q) both)
        (eqb-true r.variable q.variable (and_right sets vars p)))
