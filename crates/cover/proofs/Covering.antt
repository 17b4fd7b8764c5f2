-- The groups of all atoms: what the walks leave, in the definitions' words. Assumes nothing.
use mathlib.Core.Bool.{Bool, true, false, ◌&&◌, cond}
use mathlib.Core.Path.{◌≡◌, refl, sym, ◌∙◌, ap, ap₂}
use mathlib.Core.List.{List, [], ◌∷◌, ◌++◌, Memᴰ}
use Prim.Native.Nat.{ℕ, zero, suc, ◌+◌, ◌*◌, ◌/◌, ◌%◌, ◌≤◌, ◌<◌}
use native.Mathlib.Decide.{dec_lt, ℕ_discrete}
use native.Mathlib.Omega.{arith}
use lib.Dec.{eqb}
use lib.Seq.{length-take-le}
use lib.ListN.{length, get_or, take, replicate, get_or-replicate, length-replicate, get_or-eq_default}
use borrow.Author.Tests.{eqb-true, eq-eqb}
use Rattle.definitions.specs.Lists.{any, each, range, below, member}
use Rattle.definitions.specs.Literal.{most_atoms, most_literals, atom, positive}
use Rattle.definitions.specs.Clauses.{clause_of, row_at}
use Rattle.definitions.specs.Groups.{groups_below, groups, covers, none_omitted, domain_of, domain_words, place_of, place_words, group_words}
use Rattle.definitions.proofs.LiteralLaws.{Shape, is, isnt, shape, list_low}
use Rattle.definitions.proofs.EncodeLaws.{same_bool_lem}
use Rattle.definitions.proofs.ListLaws.{any_agree, all_agree, member_in, member_of}
use Rattle.definitions.proofs.GroupLaws.{in_mem, mem_in}
use Rattle.definitions.proofs.PlaceLaws as places
use Rattle.clause.specs.Rows.{clauses_of, ClausesRead, RightRows}
use Rattle.clause.proofs.ReadLaws.{read_right}
use Rattle.definitions.proofs.RowsRead.{right_some, right_list}
use Rattle.clause.proofs.ClauseLaws.{clause_below}
use Rattle.cover.specs.Join.{Placed, Grouped}
use Rattle.cover.specs.None.{in_group, lies_in, Within}
use Rattle.cover.specs.Cover.{Room, Covered}
use Rattle.cover.specs.Domains.{domain_by, cover_words, Domained}
use Rattle.cover.proofs.Lookups.{rows_wider}
use Rattle.cover.proofs.Joining.{at_variable, variable_at, variable_low}
use Rattle.cover.proofs.DomainLaws.{cover_length}

-- ---- the rows
module _ (N : ℕ) (w : List ℕ) (read : ClausesRead N w) where
  pub wide_rows : N ≤ most_atoms → RightRows most_atoms w
  wide_rows few = rows_wider N most_atoms few w (read_right N w read)

  pub within : (ps : List ℕ) → length ps ≡ 2 * N → Within w ps
  within ps e =
      let r = read_right N w read in
      record {
        some_literal = λ i h. right_some N (row_at w i) (r.right i h);
        low = λ i h. rw e (list_low N (clause_of (row_at w i)) (right_list N (row_at w i) (r.right i h)));
      }

  pub literals_low : (f : List ℕ) → Memᴰ f (clauses_of w) → (l : ℕ) → Memᴰ l f → l < 2 * N
  literals_low = clause_below N w (read_right N w read)

-- ---- variables and values are below the most atoms
module _ (C : List (List ℕ)) (N : ℕ) (ps ss : List ℕ) (n : ℕ) (grouped : Grouped C N ps ss n) where
  value_low : (x : ℕ) → x < N → get_or ps (2 * x + 1) 0 < N
  unfolding groups places.var places.val
  value_low x h =
      let p = (places.placed N C x h).low in
      let e = grouped.placed.value x h in
      let s = grouped.size (place_of x 0 (groups_below C N)).variable in
      let t = grouped.small (place_of x 0 (groups_below C N)).variable in
      omega arith

  pub places_low : length ps ≡ 2 * N → N ≤ most_atoms → (i : ℕ) → get_or ps i 0 < most_atoms
  places_low room few i = go (dec_lt i (2 * N)) (ℕ_discrete (i % 2) 0)
    where
      go : Dec (i < 2 * N) → Dec (i % 2 ≡ 0) → get_or ps i 0 < most_atoms
      go (no h) d =
          let e = get_or-eq_default ps 0 {n = i} (omega arith) in
          omega arith
      go (yes h) (yes d) =
          let e : 2 * (i / 2) ≡ i = omega arith in
          let v : get_or ps (2 * (i / 2)) 0 < length (groups_below C N) = variable_low C N ps grouped.placed (i / 2) (omega arith) in
          let f : get_or ps (2 * (i / 2)) 0 ≡ get_or ps i 0 = ap (λ (k : ℕ). get_or ps k 0) e in
          let c = grouped.count in
          let q = grouped.few in
          omega arith
      go (yes h) (no d) =
          let e : 2 * (i / 2) + 1 ≡ i = omega arith in
          let v = value_low (i / 2) (omega arith) in
          let f : get_or ps (2 * (i / 2) + 1) 0 ≡ get_or ps i 0 = ap (λ (k : ℕ). get_or ps k 0) e in
          omega arith

-- ---- omitted none
module _ (C : List (List ℕ)) (N : ℕ) (ps : List ℕ) (placed : Placed C N ps) (v : ℕ) where
  G : List (List ℕ)
  G = groups_below C N

  in_member : (a : ℕ) → a < N → eqb (get_or ps (2 * a) 0) v ≡ member a (get_or G v [])
  unfolding G
  in_member a low =
      same_bool_lem (eqb (get_or ps (2 * a) 0) v) (member a (get_or G v []))
      (λ h. member_in (in_mem G v a (rw (eqb-true (get_or ps (2 * a) 0) v h) at (at_variable C N ps placed a low))))
      (λ h. eq-eqb (get_or ps (2 * a) 0) v (variable_at C N ps placed v a (mem_in G v a (member_of a (get_or G v []) h))).1)

  literal_in : (l : ℕ) → l < 2 * N → in_group ps v l ≡ (positive l && member (atom l) (get_or G v []))
  unfolding in_group
  literal_in l low = go (shape l)
    where
      go : Shape l → (positive l && eqb (get_or ps l 0) v) ≡ (positive l && member (atom l) (get_or G v []))
      go (is k a e x y z) = rw (y, x) (ap (λ (j : ℕ). eqb (get_or ps j 0) v) e ∙ in_member a (omega arith))
      go (isnt k a e x y z) = rw y

  pub omitted_is :
      ((f : List ℕ) → Memᴰ f C → (l : ℕ) → Memᴰ l f → l < 2 * N)
      → any (lies_in ps v) C ≡ none_omitted C (get_or (groups_below C N) v [])
  unfolding none_omitted covers lies_in G
  omitted_is lows =
      any_agree (lies_in ps v) (covers (get_or G v [])) C
      (λ f mf. all_agree (in_group ps v) (λ l. positive l && member (atom l) (get_or G v [])) f (λ l ml. literal_in l (lows f mf l ml)))

one_low : (n v : ℕ) → get_or (replicate n 1) v 0 ≤ 1
one_low zero v = omega arith
one_low (suc n) zero = omega arith
one_low (suc n) (suc v) = one_low n v

cond_low : (b : Bool) (x : ℕ) → x ≤ 1 → cond b 0 x ≤ 1
cond_low true x h = omega arith
cond_low false x h = h

pub covered :
    (N : ℕ) (w ps ss ns ns' : List ℕ) (n : ℕ) → ClausesRead N w → N ≤ most_atoms → Grouped (clauses_of w) N ps ss n → length ps ≡ 2 * N
    → length ss ≡ most_atoms → length ns' ≡ most_atoms → ns ≡ replicate most_atoms 1
    → ((v : ℕ) → get_or ns' v 0 ≡ cond (any (lies_in ps v) (clauses_of w)) 0 (get_or ns v 0)) → Covered N (clauses_of w) ps ss ns' n
covered N w ps ss ns ns' n read few grouped ep es en ei omits =
    record {
      grouped = grouped;
      none = λ v h.
          omits v
          ∙ rw (omitted_is (clauses_of w) N ps grouped.placed v (literals_low N w read))
          (ap (λ (x : ℕ). cond (none_omitted (clauses_of w) (get_or (groups_below (clauses_of w) N) v [])) 0 x)
          (rw ei (get_or-replicate most_atoms v 1 0 (let f = grouped.few in omega arith))));
      flags = λ v. rw (omits v) (cond_low (any (lies_in ps v) (clauses_of w)) (get_or ns v 0) (rw ei (one_low most_atoms v)));
      low = places_low (clauses_of w) N ps ss n grouped ep few;
      places = ep;
      sizes = es;
      nones = en;
      few = few;
    }

-- ---- the words
-- the lists that f gives for a list, by index
pub each_by :
    {A : Type 0} (d : A) (f : A → List ℕ) (h : ℕ → List ℕ) (xs : List A) (i : ℕ) → ((v : ℕ) → v < length xs → f (get_or xs v d) ≡ h (i + v))
    → each f xs ≡ each h (range i (length xs))
unfolding each range
each_by d f h [] i e = refl
each_by d f h (x ∷ xs) i e =
    let z : i + 0 ≡ i = omega arith in
    ap₂ ◌++◌ (e 0 (omega arith) ∙ ap h z)
    (each_by d f h xs (suc i) (λ v l. let s : i + suc v ≡ suc i + v = omega arith in e (suc v) (omega arith) ∙ ap h s))

-- words that are the pairs of k numbers from i on
pairs_are :
    (p q : ℕ → ℕ) (k i : ℕ) (ws : List ℕ) → length ws ≡ 2 * k → ((x : ℕ) → x < k → get_or ws (2 * x) 0 ≡ p (i + x))
    → ((x : ℕ) → x < k → get_or ws (2 * x + 1) 0 ≡ q (i + x)) → each (λ a. p a ∷ q a ∷ []) (range i k) ≡ ws
unfolding each range
pairs_are p q zero i [] e f g = refl
pairs_are p q zero i (a ∷ ws) e f g = absurd (omega arith)
pairs_are p q (suc k) i [] e f g = absurd (omega arith)
pairs_are p q (suc k) i (a ∷ []) e f g = absurd (omega arith)
pairs_are p q (suc k) i (a ∷ (b ∷ ws)) e f g =
    let z : i + 0 ≡ i = omega arith in
    let ea : a ≡ p i = f 0 (omega arith) ∙ ap p z in
    let eb : b ≡ q i = g 0 (omega arith) ∙ ap q z in
    let rest : each (λ a. p a ∷ q a ∷ []) (range (suc i) k) ≡ ws =
    pairs_are p q k (suc i) ws (omega arith) (λ x h. later_f x h) (λ x h. later_g x h) in
    cc
  where
    later_f : (x : ℕ) → x < k → get_or ws (2 * x) 0 ≡ p (suc i + x)
    later_f x h =
        let s : 2 * suc x ≡ suc (suc (2 * x)) = omega arith in
        let t : i + suc x ≡ suc i + x = omega arith in
        rw s at (f (suc x) (omega arith)) ∙ ap p t

    later_g : (x : ℕ) → x < k → get_or ws (2 * x + 1) 0 ≡ q (suc i + x)
    later_g x h =
        let s : 2 * suc x + 1 ≡ suc (suc (2 * x + 1)) = omega arith in
        let t : i + suc x ≡ suc i + x = omega arith in
        rw s at (g (suc x) (omega arith)) ∙ ap q t

module _ (N : ℕ) (C : List (List ℕ)) (ps ss ns : List ℕ) (n : ℕ) (cov : Covered N C ps ss ns n) where
  pub domains_are : each (λ g. domain_words (domain_of C g)) (groups N C) ≡ each (domain_by ss ns) (below n)
  unfolding groups below domain_words domain_of domain_by
  domains_are = rw cov.grouped.count (each_by [] (λ g. domain_words (domain_of C g)) (domain_by ss ns) (groups_below C N) 0 one)
    where
      one : (v : ℕ) → v < length (groups_below C N) → domain_words (domain_of C (get_or (groups_below C N) v [])) ≡ domain_by ss ns (0 + v)
      one v h =
          let z : 0 + v ≡ v = omega arith in
          let c = cov.grouped.count in
          rw (z, cov.grouped.size v, cov.none v (omega arith))

  pub places_are : each (λ a. place_words (place_of a 0 (groups N C))) (below N) ≡ ps
  unfolding groups below place_words
  places_are =
      pairs_are (λ a. (place_of a 0 (groups_below C N)).variable) (λ a. (place_of a 0 (groups_below C N)).value) N 0 ps cov.places
      (λ x h. let z : 0 + x ≡ x = omega arith in cov.grouped.placed.variable x h ∙ ap (λ (a : ℕ). (place_of a 0 (groups_below C N)).variable) (sym z))
      (λ x h. let z : 0 + x ≡ x = omega arith in cov.grouped.placed.value x h ∙ ap (λ (a : ℕ). (place_of a 0 (groups_below C N)).value) (sym z))

  pub domained : Domained ss ns n
  domained =
      let few = cov.few in
      let count = cov.grouped.few in
      let sizes = cov.sizes in
      let nones = cov.nones in
      record {
        sizes = omega arith;
        nones = omega arith;
        small = λ v. (let s = cov.grouped.small v in omega arith);
        flags = cov.flags;
      }

  pub words_are : group_words N C ≡ cover_words ps ss ns n
  unfolding group_words cover_words
  words_are = ap₂ ◌++◌ domains_are places_are

  pub words_length : length (group_words N C) ≡ 2 * n + 2 * N
  words_length =
      let b = cover_length ps ss ns n in
      let c = cov.places in
      ap length words_are ∙ omega arith

-- ---- the arrays that the calls make
unfoldable pub no_places : List ℕ
no_places = replicate most_literals 0

unfoldable pub no_sizes : List ℕ
no_sizes = replicate most_atoms 0

unfoldable pub all_none : List ℕ
all_none = replicate most_atoms 1

pub places_taken : (N : ℕ) → N ≤ most_atoms → length (take (2 * N) no_places) ≡ 2 * N
unfolding no_places
places_taken N h = length-take-le (2 * N) (replicate most_literals 0) (omega (arith, length-replicate {A = ℕ} most_literals 0))

pub room_start : (N : ℕ) → N ≤ most_atoms → Room N (take (2 * N) no_places) no_sizes all_none
unfolding no_sizes all_none
room_start N h = record { few = h; places = places_taken N h; sizes = refl; none = refl }
