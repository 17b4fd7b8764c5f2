-- The scan of a row for its open literals, and what it says of the row's clause. Assumes nothing.
use mathlib.Core.Path.{◌≡◌, refl, sym, ◌∙◌}
use mathlib.Core.Bool.{Bool, true, false, not}
use mathlib.Core.Logic.{◌⊎◌, inl, inr, ⊎_elim}
use mathlib.Core.List.{List, [], ◌∷◌, Memᴰ}
use Prim.Native.Nat.{ℕ, ◌+◌, ◌*◌, ◌≤◌, ◌<◌}
use native.Mathlib.Omega.{arith}
use native.Mathlib.Decide.{ℕ_discrete}
use lib.Dec.{eqb, ltb}
use lib.ListN.{length, get_or, drop, set}
use lib.Seq.{take_all}
use borrow.Author.Tests.{eq-eqb, ne_eqb, eqb-false, not-true, not-false, lt-ltb}
use Rattle.definitions.specs.Lists.{all, member, ascending}
use Rattle.definitions.specs.Literal.{fill, complement, all_below}
use Rattle.definitions.specs.Clauses.{width, row_of, clause_of}
use Rattle.definitions.specs.Closure.{has, forces}
use Rattle.definitions.specs.Marks.{marked}
use Rattle.definitions.proofs.ListLaws.{decide, never, and_both, and_left, and_right, all_of, member_in, member_of, above_low, later_ascends}
use Rattle.clause.proofs.Words.{clause_fill, clause_cons, clause_none, clause_stop, clause_on, clause_end}
use Rattle.clause.proofs.Rest.{rest_at, rest_fill}
use Rattle.propagation.specs.declared.Scan.{Scan}
use Rattle.propagation.specs.declared.Scan.TheVariants as scan
use Rattle.propagation.specs.Walk.{In, ClosedAt, open_word, Scanned, forced_of, Forcing, Added}
use Rattle.propagation.proofs.Sets.{complement_other, in_below, set_same, set_in, in_set, forces_in, forces_others, forces_by}

-- no literal of a clause is fill
no_fill : (row : List ℕ) (l : ℕ) → Memᴰ l (clause_of row) → l ≡ fill → ⊥
no_fill [] l m e = elim (rw clause_none at m) [ ]
no_fill (x ∷ row) l m e = go (ℕ_discrete x fill) (λ k. no_fill row l k e)
  where
    cons : (x ≡ fill → ⊥) → Memᴰ l (x ∷ clause_of row) → (Memᴰ l (clause_of row) → ⊥) → ⊥
    cons ne (Memᴰ.head q) rec = ne (sym q ∙ e)
    cons ne (Memᴰ.tail k) rec = rec k

    go : Dec (x ≡ fill) → (Memᴰ l (clause_of row) → ⊥) → ⊥
    go (yes q) rec = elim (rw (clause_fill x row q) at m) [ ]
    go (no ne) rec = cons ne (rw (clause_cons x row ne) at m) rec

-- the literals of a row from its word k on
module _ (row : List ℕ) (k : ℕ) (wide : length row ≡ width) (h : k < width) where
  inside : k < length row
  inside = rw wide h

  word_on : (get_or row k 0 ≡ fill → ⊥) → clause_of (drop k row) ≡ get_or row k 0 ∷ clause_of (drop (k + 1) row)
  word_on ne = clause_on row k (get_or row k 0) refl inside ne

  -- the row is that of its clause: after a fill stands only fill
  word_fill : row_of (clause_of row) ≡ row → get_or row k 0 ≡ fill → clause_of (drop k row) ≡ clause_of (drop (k + 1) row)
  unfolding rest_at
  word_fill same e =
      let z : 0 + k ≡ k = omega arith in
      let whole = take_all width row (omega arith) in
      rw whole at (rest_fill row 0 k h (omega arith) (rw whole same) (rw z e))

-- a word that is an open literal, and one that is not
pub open_word_lem : (ms : List ℕ) (w : ℕ) → open_word ms w ≡ true → (w ≡ fill → ⊥) × (marked ms (complement w) ≡ false)
unfolding open_word
open_word_lem ms w e = (
  eqb-false w fill (not-true (eqb w fill) (and_left (not (eqb w fill)) (not (marked ms (complement w))) e)),
  not-true (marked ms (complement w)) (and_right (not (eqb w fill)) (not (marked ms (complement w))) e),
)

pub shut_word : (ms : List ℕ) (w : ℕ) → open_word ms w ≡ false → (w ≡ fill → ⊥) → marked ms (complement w) ≡ true
unfolding open_word
shut_word ms w e ne = not-false (marked ms (complement w)) (rw (ne_eqb w fill ne) at e)

-- the complement, said otherwise
pub scanned_on : (off off' : Bool) (w u : ℕ) (v : Scan) → ((w ≡ fill → ⊥) → off' ≡ off) → Scanned off w u v → Scanned off' w u v
scanned_on off off' w u scan.Same same p = λ ne. same ne ∙ p ne
scanned_on off off' w u scan.First same p = (p.0, same p.0 ∙ p.1, p.2)
scanned_on off off' w u scan.Second same p = (p.0, same p.0 ∙ p.1, p.2)

-- the literals that follow from a row
pub forced_all : (row : List ℕ) (u : ℕ) → u ≡ fill → forced_of row u ≡ clause_of row
unfolding forced_of
forced_all row u e = rw (eq-eqb u fill e)

pub forced_one : (row : List ℕ) (u : ℕ) → (u ≡ fill → ⊥) → forced_of row u ≡ u ∷ []
unfolding forced_of
forced_one row u ne = rw (ne_eqb u fill ne)

-- a literal whose complement is not in the set, or fill
abbrev pub Open : List ℕ → ℕ → Type 0
Open s u = (u ≡ fill → ⊥) → (u < length s) × (has s (complement u) ≡ false)

pub not_open : (s : List ℕ) → Open s fill
not_open s ne = absurd (ne refl)

-- The scan of a row up to its word k: u is the open literal found, or fill.
pub record Scanning (row s : List ℕ) (k u : ℕ) : Type 0 where
  pub wide : length row ≡ width
  pub same : row_of (clause_of row) ≡ row
  pub part : (l : ℕ) → Memᴰ l (clause_of (drop k row)) → Memᴰ l (clause_of row)
  pub found : (u ≡ fill → ⊥) → Memᴰ u (clause_of row) × (has s (complement u) ≡ false) × (u < length s)
  pub rising : ascending (clause_of (drop k row)) ≡ true
  pub before : (u ≡ fill → ⊥) → (l : ℕ) → Memᴰ l (clause_of (drop k row)) → u < l
  pub seen : (l : ℕ) → Memᴰ l (clause_of row) → Memᴰ l (clause_of (drop k row)) ⊎ ((l ≡ u) ⊎ In s (complement l))

pub scan_start :
    (row s : List ℕ) → length row ≡ width → row_of (clause_of row) ≡ row → ascending (clause_of row) ≡ true → Scanning row s 0 fill
scan_start row s wide same up =
    record {
      wide = wide;
      same = same;
      part = λ l m. m;
      found = λ ne. absurd (ne refl);
      rising = up;
      before = λ ne. absurd (ne refl);
      seen = λ l m. inl m;
    }

module _ (row s : List ℕ) (k u : ℕ) (r : Scanning row s k u) where
  pub scan_open : Open s u
  scan_open ne = let f = r.found ne in (f.2, f.1)

  abbrev Seen : ℕ → ℕ → ℕ → Type 0
  Seen k' v l = Memᴰ l (clause_of (drop k' row)) ⊎ ((l ≡ v) ⊎ In s (complement l))

  abbrev word : ℕ
  word = get_or row k 0

  module _ (h : k < width) where
    pub word_in : (word ≡ fill → ⊥) → Memᴰ word (clause_of row)
    word_in ne = r.part word (rw (word_on row k r.wide h ne) (Memᴰ.head refl))

    part_next : (l : ℕ) → Memᴰ l (clause_of (drop (k + 1) row)) → Memᴰ l (clause_of row)
    part_next l m = go (ℕ_discrete word fill)
      where
        go : Dec (word ≡ fill) → Memᴰ l (clause_of row)
        go (yes e) = r.part l (rw (word_fill row k r.wide h r.same e) m)
        go (no ne) = r.part l (rw (word_on row k r.wide h ne) (Memᴰ.tail m))

    -- a literal that was still to come is the word, or still to come
    come : (l : ℕ) → Memᴰ l (clause_of (drop k row)) → Memᴰ l (clause_of (drop (k + 1) row)) ⊎ ((l ≡ word) × (word ≡ fill → ⊥))
    come l m = go (ℕ_discrete word fill)
      where
        split :
            (word ≡ fill → ⊥) → Memᴰ l (word ∷ clause_of (drop (k + 1) row))
            → Memᴰ l (clause_of (drop (k + 1) row)) ⊎ ((l ≡ word) × (word ≡ fill → ⊥))
        split ne (Memᴰ.head e) = inr (e, ne)
        split ne (Memᴰ.tail q) = inl q

        go : Dec (word ≡ fill) → Memᴰ l (clause_of (drop (k + 1) row)) ⊎ ((l ≡ word) × (word ≡ fill → ⊥))
        go (yes e) = inl (rw (word_fill row k r.wide h r.same e) at m)
        go (no ne) = split ne (rw (word_on row k r.wide h ne) at m)

    -- the literals after the word ascend, from the word on
    rising_next : ascending (clause_of (drop (k + 1) row)) ≡ true
    unfolding ascending
    rising_next = go (ℕ_discrete word fill)
      where
        go : Dec (word ≡ fill) → ascending (clause_of (drop (k + 1) row)) ≡ true
        go (yes e) = rw (word_fill row k r.wide h r.same e) at r.rising
        go (no ne) = later_ascends word (clause_of (drop (k + 1) row)) (rw (word_on row k r.wide h ne) at r.rising)

    word_first : (word ≡ fill → ⊥) → (l : ℕ) → Memᴰ l (clause_of (drop (k + 1) row)) → word < l
    unfolding ascending
    word_first ne l m = above_low word (clause_of (drop (k + 1) row)) (rw (word_on row k r.wide h ne) at r.rising) l m

    left_next : (l : ℕ) → Memᴰ l (clause_of (drop (k + 1) row)) → Memᴰ l (clause_of (drop k row))
    left_next l m = go (ℕ_discrete word fill)
      where
        go : Dec (word ≡ fill) → Memᴰ l (clause_of (drop k row))
        go (yes e) = rw (word_fill row k r.wide h r.same e) m
        go (no ne) = rw (word_on row k r.wide h ne) (Memᴰ.tail m)

    pub scan_same : Scanned (has s (complement word)) word u scan.Same → Scanning row s (k + 1) u
    scan_same v =
        record {
          wide = r.wide;
          same = r.same;
          part = part_next;
          found = r.found;
          rising = rising_next;
          before = λ ne l m. r.before ne l (left_next l m);
          seen = λ l m. next l (r.seen l m);
        }
      where
        next : (l : ℕ) → Seen k u l → Seen (k + 1) u l
        next l (inl m) = ⊎_elim (λ q. inl q) (λ q. inr (inr (rw q.0 (v q.1)))) (come l m)
        next l (inr q) = inr q

    pub scan_first : word < length s → Scanned (has s (complement word)) word u scan.First → Scanning row s (k + 1) word
    scan_first b v =
        record {
          wide = r.wide;
          same = r.same;
          part = part_next;
          found = λ ne. (word_in v.0, v.1, b);
          rising = rising_next;
          before = λ ne. word_first v.0;
          seen = λ l m. next l m (r.seen l m);
        }
      where
        next : (l : ℕ) → Memᴰ l (clause_of row) → Seen k u l → Seen (k + 1) word l
        next l ml (inl m) = ⊎_elim (λ q. inl q) (λ q. inr (inl q.0)) (come l m)
        next l ml (inr (inl e)) = absurd (no_fill row l ml (e ∙ v.2))
        next l ml (inr (inr p)) = inr (inr p)

    -- two open literals: nothing is forced
    pub scan_second : Scanned (has s (complement word)) word u scan.Second → ClosedAt s (clause_of row)
    scan_second v l fo = absurd (go (ℕ_discrete u l))
      where
        later : u < word
        later = r.before v.2 word (rw (word_on row k r.wide h v.0) (Memᴰ.head refl))

        go : Dec (u ≡ l) → ⊥
        go (yes e) = never {A = ⊥} (forces_others s l (clause_of row) fo word (word_in v.0) (λ q. (let z = later in omega arith))) v.1
        go (no ne) = never {A = ⊥} (forces_others s l (clause_of row) fo u (r.found v.2).0 ne) (r.found v.2).1

  module _ (h : width ≤ k) where
    none_left : (l : ℕ) → Memᴰ l (clause_of (drop k row)) → ⊥
    none_left l m = elim (rw (clause_end row k (rw r.wide h)) at m) [ ]

    -- what the clause forces is the open literal, or, without one, all literals
    off : (l : ℕ) → Memᴰ l (clause_of row) → (l ≡ u → ⊥) → In s (complement l)
    off l m ne = go (r.seen l m)
      where
        go : Seen k u l → In s (complement l)
        go (inl m) = absurd (none_left l m)
        go (inr (inl q)) = absurd (ne q)
        go (inr (inr p)) = p

    pub scan_forced : (l : ℕ) → member l (forced_of row u) ≡ true → forces s l (clause_of row) ≡ true
    scan_forced l m = go (ℕ_discrete u fill)
      where
        one : Memᴰ l (u ∷ []) → (u ≡ fill → ⊥) → forces s l (clause_of row) ≡ true
        one (Memᴰ.head e) ne = forces_by s l (clause_of row) (rw e (r.found ne).0) (λ x mx d. off x mx (λ q. d (q ∙ sym e)))
        one (Memᴰ.tail z) ne = elim z [ ]

        go : Dec (u ≡ fill) → forces s l (clause_of row) ≡ true
        go (yes e) =
            forces_by s l (clause_of row) (member_of l (clause_of row) (rw (forced_all row u e) at m))
            (λ x mx d. off x mx (λ q. no_fill row x mx (q ∙ e)))
        go (no ne) = one (member_of l (u ∷ []) (rw (forced_one row u ne) at m)) ne

    pub scan_all : (l : ℕ) → forces s l (clause_of row) ≡ true → member l (forced_of row u) ≡ true
    scan_all l fo = go (ℕ_discrete u fill)
      where
        same : (u ≡ fill → ⊥) → Dec (u ≡ l) → Memᴰ l (u ∷ [])
        same ne (yes e) = Memᴰ.head (sym e)
        same ne (no d) = absurd (never {A = ⊥} (forces_others s l (clause_of row) fo u (r.found ne).0 d) (r.found ne).1)

        go : Dec (u ≡ fill) → member l (forced_of row u) ≡ true
        go (yes e) = rw (forced_all row u e) (member_in (forces_in s l (clause_of row) fo))
        go (no ne) = rw (forced_one row u ne) (member_in (same ne (ℕ_discrete u l)))

    pub scan_forcing :
        (N : ℕ) → length s ≡ 2 * N → ((l : ℕ) → Memᴰ l (clause_of row) → l < 2 * N) → Forcing N s row u
    unfolding all_below all
    scan_forcing N size low = record { low = go (ℕ_discrete u fill); opened = λ ne. (r.found ne).1 }
      where
        go : Dec (u ≡ fill) → all_below (2 * N) (forced_of row u) ≡ true
        go (yes e) =
            rw (forced_all row u e)
            (all_of (λ x. ltb x (2 * N)) (clause_of row) (λ x m. lt-ltb x (2 * N) (low x m)))
        go (no ne) =
            rw (forced_one row u ne) (and_both (lt-ltb u (2 * N) (let z = (r.found ne).2 in omega arith)) refl)

-- ---- a row whose second word is an open literal
module _ (row s : List ℕ) (r : Scanning row s 0 fill) (ne : get_or row 1 0 ≡ fill → ⊥) where
  some : 0 < width
  unfolding width
  some = omega arith

  more : 1 < width
  unfolding width
  more = omega arith

  pub second_in : Memᴰ (get_or row 1 0) (clause_of row)
  second_in = part_next row s 0 fill r some (get_or row 1 0) (rw (word_on row 1 r.wide more ne) (Memᴰ.head refl))

  -- where it begins with u, which is open, there are two: nothing is forced
  module _ (u : ℕ) (first : get_or row 0 0 ≡ u) where
    -- after a fill stands only fill
    first_literal : u ≡ fill → ⊥
    first_literal e = elim (rw (clause_stop row 0 (get_or row 0 0) refl (rw r.wide some) (first ∙ e)) at second_in) [ ]

    pub second_open : Open s u → has s (complement (get_or row 1 0)) ≡ false → ClosedAt s (clause_of row)
    second_open known off =
        let k = known first_literal in
        let one = scan_first row s 0 fill r some (rw first k.0) (rw first (first_literal, k.1, refl)) in
        scan_second row s 1 u (rw first at one) more (ne, off, first_literal)

-- an open literal that is marked stays open
pub still_open : (stops : Bool) (s s' row : List ℕ) (u : ℕ) → Open s u → Added stops s (forced_of row u) s' → Open s' u
still_open stops s s' row u known added ne = (in_below s' u (added.holds u listed), go (decide (has s' (complement u))))
  where
    inside : u < length s
    inside = (known ne).0

    listed : member u (forced_of row u) ≡ true
    listed = rw (forced_one row u ne) (member_in (Memᴰ.head refl))

    one : (l : ℕ) → Memᴰ l (u ∷ []) → In (set s u 1) l
    one l (Memᴰ.head e) = rw e (set_same s u inside)
    one l (Memᴰ.tail z) = elim z [ ]

    go : (has s' (complement u) ≡ true) ⊎ (has s' (complement u) ≡ false) → has s' (complement u) ≡ false
    go (inl e) =
        let low = added.least (set s u 1) (set_in s u inside) (λ l m. one l (member_of l (u ∷ []) (rw (forced_one row u ne) at m))) in
        absurd (⊎_elim (complement_other u) (λ p. never {A = ⊥} p (known ne).1) (in_set s u inside (complement u) (low (complement u) e)))
    go (inr e) = e
