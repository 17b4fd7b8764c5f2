-- The parts of a clause, by their masks. Assumes nothing.
use mathlib.Core.Bool.{true, false}
use mathlib.Core.Logic.{◌⊎◌, inl, inr}
use mathlib.Core.Path.{◌≡◌, refl, sym, ◌∙◌, ap, subst}
use mathlib.Core.List.Memᴰ
use mathlib.Core.List.{List, [], ◌∷◌, Memᴰ}
use Prim.Native.Nat.{ℕ, zero, suc, ◌+◌, ◌-◌, ◌*◌, ◌/◌, ◌%◌, ◌≤◌, ◌<◌}
use native.Mathlib.Decide.{ℕ_discrete}
use native.Mathlib.Omega.{arith}
use lib.Dec.{eqb}
use lib.ListN.{length}
use borrow.Author.Tests.{eqb-true, eq-eqb, ne_eqb}
use Rattle.definitions.specs.Lists.{range, ascending, compare_words, is_same}
use Rattle.definitions.specs.Groups.{has_clause}
use Rattle.definitions.proofs.ListLaws.{decide, never, or_cases, or_left, or_right, any_in, any_of, later_ascends, above_low}
use Rattle.definitions.proofs.PlaceLaws.{same_words}
use Rattle.definitions.proofs.SetLaws.{range_of}
use Rattle.definitions.proofs.OrderLaws.{same_self}
use Rattle.definitions.proofs.Walks.{range_in}
use Rattle.clause_set.specs.Put.{part_of, masks, part_there, blocked}
use Rattle.definitions.proofs.Counting.{Part}

pub part_odd : (m l : ℕ) (f : List ℕ) → m % 2 ≡ 1 → part_of m (l ∷ f) ≡ l ∷ part_of (m / 2) f
unfolding part_of
part_odd m l f h = rw (eq-eqb (m % 2) 1 h, part_of)

pub part_even : (m l : ℕ) (f : List ℕ) → m % 2 ≡ 0 → part_of m (l ∷ f) ≡ part_of (m / 2) f
unfolding part_of
part_even m l f h = rw (ne_eqb (m % 2) 1 (λ e. omega arith), part_of)

pub masks_some : (k : ℕ) → 1 ≤ masks k
unfolding masks
masks_some zero = omega arith
masks_some (suc k) = let h = masks_some k in omega arith

-- mask 0 names no literal
pub part_none : (f : List ℕ) → part_of 0 f ≡ []
unfolding part_of
part_none [] = refl
part_none (l ∷ f) = part_even 0 l f refl ∙ part_none f

-- the highest mask names all
part_whole : (f : List ℕ) (m : ℕ) → m + 1 ≡ masks (length f) → part_of m f ≡ f
unfolding part_of masks
part_whole [] m h = refl
part_whole (l ∷ f) m h =
    let k = masks_some (length f) in
    part_odd m l f (omega arith) ∙ ap (λ (g : List ℕ). l ∷ g) (part_whole f (m / 2) (omega arith))

-- the literals of a part are literals of the clause
pub part_of_lem : (m : ℕ) (f : List ℕ) → Part (part_of m f) f
unfolding part_of
part_of_lem m [] x k = k
part_of_lem m (l ∷ f) x k = go (decide (eqb (m % 2) 1)) (λ j. part_of_lem (m / 2) f x j)
  where
    go : (eqb (m % 2) 1 ≡ true) ⊎ (eqb (m % 2) 1 ≡ false) → (Memᴰ x (part_of (m / 2) f) → Memᴰ x f) → Memᴰ x (l ∷ f)
    go (inl h) rec = deeper (Memᴰ.cases_cons (rw (h, part_of) at k))
      where
        deeper : (x ≡ l) ⊎ Memᴰ x (part_of (m / 2) f) → Memᴰ x (l ∷ f)
        deeper (inl e) = Memᴰ.head e
        deeper (inr j) = Memᴰ.tail (rec j)
    go (inr h) rec = Memᴰ.tail (rec (rw (h, part_of) at k))

-- a part that a mask below the highest names is shorter
pub part_shorter : (m : ℕ) (f : List ℕ) → m + 1 < masks (length f) → length (part_of m f) < length f
unfolding part_of masks
part_shorter m [] h = absurd (omega arith)
part_shorter m (l ∷ f) h = go (decide (eqb (m % 2) 1)) (λ j. part_shorter (m / 2) f j) (part_most (m / 2) f)
  where
    part_most : (m : ℕ) (f : List ℕ) → length (part_of m f) ≤ length f
    part_most m [] = omega arith
    part_most m (l ∷ f) = pick (decide (eqb (m % 2) 1)) (part_most (m / 2) f)
      where
        pick :
            (eqb (m % 2) 1 ≡ true) ⊎ (eqb (m % 2) 1 ≡ false) → length (part_of (m / 2) f) ≤ length f
            → length (part_of m (l ∷ f)) ≤ suc (length f)
        pick (inl h) rec = rw (h, part_of) (omega arith)
        pick (inr h) rec = rw (h, part_of) (omega arith)

    go :
        (eqb (m % 2) 1 ≡ true) ⊎ (eqb (m % 2) 1 ≡ false) → (m / 2 + 1 < masks (length f) → length (part_of (m / 2) f) < length f)
        → length (part_of (m / 2) f) ≤ length f → length (part_of m (l ∷ f)) < suc (length f)
    go (inl e) rec most =
        let o = eqb-true (m % 2) 1 e in
        let r = rec (omega arith) in
        rw (e, part_of) (omega arith)
    go (inr e) rec most = rw (e, part_of) (omega arith)

-- ---- every ascending list of literals of an ascending clause is a part of it
-- the mask of a part
pub record Mask (d f : List ℕ) : Type 0 where
  pub mask : ℕ
  pub low : mask < masks (length f)
  pub names : part_of mask f ≡ d

pub mask_of : (f d : List ℕ) → ascending f ≡ true → ascending d ≡ true → Part d f → Mask d f
unfolding masks ascending
mask_of [] [] fu du p = record { mask = 0; low = omega arith; names = part_none [] }
mask_of [] (x ∷ d) fu du p = absurd (Memᴰ.not-nil (p x (Memᴰ.head refl)))
mask_of (l ∷ f) [] fu du p =
    record { mask = 0; low = (let h = masks_some (length f) in omega arith); names = part_none (l ∷ f) }
mask_of (l ∷ f) (x ∷ d) fu du p =
    go (ℕ_discrete x l) (λ q. mask_of f d (later_ascends l f fu) (later_ascends x d du) q) (λ q. mask_of f (x ∷ d) (later_ascends l f fu) du q)
  where
    drop_first : (y : ℕ) → (y ≡ l → ⊥) → Memᴰ y (l ∷ f) → Memᴰ y f
    drop_first y ne m = pick (Memᴰ.cases_cons m)
      where
        pick : (y ≡ l) ⊎ Memᴰ y f → Memᴰ y f
        pick (inl e) = absurd (ne e)
        pick (inr k) = k

    higher : (x ≡ l → ⊥) → l < x
    higher ne = above_low l f fu x (drop_first x ne (p x (Memᴰ.head refl)))

    apart : (x ≡ l → ⊥) → (y : ℕ) → (y ≡ x) ⊎ Memᴰ y d → y ≡ l → ⊥
    apart ne y (inl e) h = ne (sym e ∙ h)
    apart ne y (inr k) h =
        let a = above_low x d du y k in
        let b = higher ne in
        omega arith

    go : Dec (x ≡ l) → (Part d f → Mask d f) → (Part (x ∷ d) f → Mask (x ∷ d) f) → Mask (x ∷ d) (l ∷ f)
    go (yes e) rec other =
        let w = rec (λ y m. drop_first y (λ h. let a = above_low x d du y m in omega arith) (p y (Memᴰ.tail m))) in
        let b = w.low in
        let half : (2 * w.mask + 1) / 2 ≡ w.mask = omega arith in
        record {
          mask = 2 * w.mask + 1;
          low = omega arith;
          names = part_odd (2 * w.mask + 1) l f (omega arith) ∙ rw (half, w.names, e);
        }
    go (no ne) rec other =
        let w = other (λ y m. drop_first y (apart ne y (Memᴰ.cases_cons m)) (p y m)) in
        let b = w.low in
        let half : 2 * w.mask / 2 ≡ w.mask = omega arith in
        record {
          mask = 2 * w.mask;
          low = omega arith;
          names = part_even (2 * w.mask) l f (omega arith) ∙ rw (half, w.names);
        }

-- ---- sets
pub clause_there : (D : List (List ℕ)) (f : List ℕ) → has_clause D f ≡ true → Memᴰ f D
unfolding has_clause
clause_there D f h =
    let w = any_of (λ g. is_same (compare_words f g)) D h in
    subst (λ (g : List ℕ). Memᴰ g D) (sym (same_words f w.it w.passes)) w.mem

pub there_clause : (D : List (List ℕ)) (f : List ℕ) → Memᴰ f D → has_clause D f ≡ true
unfolding has_clause
there_clause D f m = any_in (λ g. is_same (compare_words f g)) m (same_self f)

-- the clause is there, or a shorter part of it
pub record Blocking (D : List (List ℕ)) (f : List ℕ) : Type 0 where
  pub it : List ℕ
  pub mem : Memᴰ it D
  pub part : Part it f
  pub which : (it ≡ f) ⊎ (length it < length f)

pub blocked_of : (D : List (List ℕ)) (f : List ℕ) → blocked D f ≡ true → Blocking D f
unfolding blocked part_there
blocked_of D f h = go (or_cases (has_clause D f) (part_there D f) h)
  where
    go : (has_clause D f ≡ true) ⊎ (part_there D f ≡ true) → Blocking D f
    go (inl e) = record { it = f; mem = clause_there D f e; part = λ x m. m; which = inl refl }
    go (inr e) =
        let w = any_of (λ m. has_clause D (part_of m f)) (range 1 (masks (length f) - 2)) e in
        let b = range_of 1 (masks (length f) - 2) w.mem in
        record {
          it = part_of w.it f;
          mem = clause_there D (part_of w.it f) w.passes;
          part = part_of_lem w.it f;
          which = inr (part_shorter w.it f (omega arith));
        }

-- no non-empty part of the clause is there, if it is not blocked
pub blocked_not :
    (D : List (List ℕ)) (f d : List ℕ) → ascending f ≡ true → ascending d ≡ true → 1 ≤ length d → blocked D f ≡ false
    → Memᴰ d D → Part d f → ⊥
unfolding blocked part_there
blocked_not D f d fu du some h m p = go (mask_of f d fu du p)
  where
    no_self : Memᴰ f D → ⊥
    no_self k = never {A = ⊥} (or_left (part_there D f) (there_clause D f k)) h

    no_part : (m : ℕ) → 1 ≤ m → m < 1 + (masks (length f) - 2) → Memᴰ (part_of m f) D → ⊥
    no_part m a b k =
        never {A = ⊥}
        (or_right (has_clause D f) (any_in (λ m. has_clause D (part_of m f)) (range_in 1 (masks (length f) - 2) m a b) (there_clause D (part_of m f) k)))
        h

    first : (w : Mask d f) → w.mask ≡ 0 → ⊥
    first w e =
        let z : d ≡ [] = sym w.names ∙ ap (λ (m : ℕ). part_of m f) e ∙ part_none f in
        let y : length d ≡ 0 = ap length z in
        omega arith

    last : (w : Mask d f) → w.mask + 1 ≡ masks (length f) → ⊥
    last w e = no_self (subst (λ (g : List ℕ). Memᴰ g D) (sym w.names ∙ part_whole f w.mask e) m)

    middle : (w : Mask d f) → 1 ≤ w.mask → w.mask < 1 + (masks (length f) - 2) → ⊥
    middle w a b = no_part w.mask a b (subst (λ (g : List ℕ). Memᴰ g D) (sym w.names) m)

    go : Mask d f → ⊥
    go w = pick (ℕ_discrete w.mask 0) (ℕ_discrete (w.mask + 1) (masks (length f)))
      where
        pick : Dec (w.mask ≡ 0) → Dec (w.mask + 1 ≡ masks (length f)) → ⊥
        pick (yes e) q = first w e
        pick (no e) (yes q) = last w q
        pick (no e) (no q) = let b = w.low in middle w (omega arith) (omega arith)
