-- Rows and blocks, for the walks over them. Assumes nothing.
use mathlib.Core.Path.{◌≡◌, refl, sym, ap, ◌∙◌, subst}
use mathlib.Core.List.{List, [], ◌∷◌}
use mathlib.Core.Bool.{Bool, true, false, ◌&&◌, and-false}
use mathlib.Core.Option.{Option, none, some}
use Prim.Native.Nat.{ℕ, zero, suc, ◌+◌, ◌-◌, ◌*◌, ◌≤◌, ◌<◌}
use native.Mathlib.Numerals.{add-one, add-two, add-three, add-four}
use native.Mathlib.Nat.{add-sub_cancel_left}
use native.Mathlib.Omega.{arith}
use lib.Dec.{leb, eqb}
use lib.ListN.{length, get_or, take, drop, length-drop, drop_of_length-le}
use lib.Seq.{drop-cons, drop-drop}
use borrow.Author.Tests.{lt-leb, le-leb, leb-true, leb-false, eq-eqb, ne_eqb}
use Rattle.definitions.specs.Lists.{all}
use Rattle.definitions.specs.Groups.{Domain}
use Rattle.definitions.specs.Fdr.{FdrLiteral, FdrRow, FdrOperator}
use Rattle.definitions.specs.FdrImage.{literals_in, is_atom_value, fdr_literal_right, fdr_row_right, fdr_operator_right, fdr_rows_of}
use Rattle.definitions.specs.FdrImage.{fdr_rest_of, fdr_operator_of}
use Rattle.definitions.proofs.ListLaws.{never}
use Rattle.fdr_image.specs.Walk.{whole_row, kind_of, row, rows_right, block_right, some_rows, rows_or, parses_at, rows_at, some_operator}
use Rattle.fdr_image.specs.Walk.{operator_or, block_parses, operator_in}
use Rattle.fdr_image.specs.Post.{RowAt, RowRead, BlockRead}
use Rattle.fdr_image.specs.declared.block.Kind.TheVariants.{Set, Clear}
use Rattle.std.specs.Prelude as std

-- ---- kinds
pub kind_other : (k : ℕ) → (k ≡ 0 → ⊥) → (k ≡ 1 → ⊥) → std.None ≡ kind_of k
kind_other zero p q = absurd (p refl)
kind_other (suc zero) p q = absurd (q refl)
kind_other (suc (suc k)) p q = refl

pub kind_set : (k : ℕ) → kind_of k ≡ std.Some Set → k ≡ 0
kind_set zero e = refl
kind_set (suc zero) e = absurd (let z : ◌≡◌ {A = ℕ} 0 1 = cc in omega arith)
kind_set (suc (suc k)) e = absurd (let z : ◌≡◌ {A = ℕ} 0 1 = cc in omega arith)

pub kind_clear : (k : ℕ) → kind_of k ≡ std.Some Clear → k ≡ 1
kind_clear zero e = absurd (let z : ◌≡◌ {A = ℕ} 0 1 = cc in omega arith)
kind_clear (suc zero) e = refl
kind_clear (suc (suc k)) e = absurd (let z : ◌≡◌ {A = ℕ} 0 1 = cc in omega arith)

pub kind_none : (k : ℕ) → kind_of k ≡ std.None → 1 < k
kind_none zero e = absurd (let z : ◌≡◌ {A = ℕ} 0 1 = cc in omega arith)
kind_none (suc zero) e = absurd (let z : ◌≡◌ {A = ℕ} 0 1 = cc in omega arith)
kind_none (suc (suc k)) e = omega arith

-- ---- one row
module _ (D : List Domain) (k v x : ℕ) (cs : List FdrLiteral) where
  pub row_kind : leb k 1 ≡ false → false ≡ fdr_row_right D (row k v x cs)
  unfolding fdr_row_right
  row_kind h = rw h

  pub row_value : leb k 1 ≡ true → is_atom_value D v x ≡ false → false ≡ fdr_row_right D (row k v x cs)
  unfolding fdr_row_right
  row_value h e = rw (h, e)

  pub row_conditions : leb k 1 ≡ true → is_atom_value D v x ≡ true → all (fdr_literal_right D) cs ≡ fdr_row_right D (row k v x cs)
  unfolding fdr_row_right
  row_conditions h e = rw (h, e)

-- ---- the walk of the rows
with_row : FdrRow → Option (List FdrRow) → Option (List FdrRow)
with_row r none = none
with_row r (some rs) = some (r ∷ rs)

rows_with_lem : (D : List Domain) (r : FdrRow) (q : Option (List FdrRow)) → rows_right D (with_row r q) ≡ (fdr_row_right D r && rows_right D q)
unfolding rows_right with_row all
rows_with_lem D r none = sym (and-false (fdr_row_right D r))
rows_with_lem D r (some rs) = refl

-- the first four words of what is left
drop_four : (b : List ℕ) (p : ℕ) → p + 4 ≤ length b → drop p b ≡ get_or b p 0 ∷ get_or b (p + 1) 0 ∷ get_or b (p + 2) 0 ∷ get_or b (p + 3) 0 ∷ drop (p + 4) b
drop_four b p h =
    let h₁ : p < length b = omega arith in
    let h₂ : suc p < length b = omega arith in
    let h₃ : suc (suc p) < length b = omega arith in
    let h₄ : suc (suc (suc p)) < length b = omega arith in
    rw (
      add-one,
      add-two,
      add-three,
      add-four,
      drop-cons b p 0 h₁,
      drop-cons b (suc p) 0 h₂,
      drop-cons b (suc (suc p)) 0 h₃,
      drop-cons b (suc (suc (suc p))) 0 h₄,
    )

short_none : (k : ℕ) (l : List ℕ) → length l < 4 → fdr_rows_of (suc k) l ≡ none
unfolding fdr_rows_of
short_none k [] h = refl
short_none k (e ∷ []) h = refl
short_none k (e ∷ (v ∷ [])) h = refl
short_none k (e ∷ (v ∷ (x ∷ []))) h = refl
short_none k (e ∷ (v ∷ (x ∷ (c ∷ l)))) h = absurd (omega arith)

module _ (k e v x c : ℕ) (xs : List ℕ) where
  past_none : length xs < 2 * c → fdr_rows_of (suc k) (e ∷ (v ∷ (x ∷ (c ∷ xs)))) ≡ none
  unfolding fdr_rows_of
  past_none h = rw (lt-leb (2 * c) (length xs) h, fdr_rows_of)

  next_row :
      2 * c ≤ length xs
      → fdr_rows_of (suc k) (e ∷ (v ∷ (x ∷ (c ∷ xs)))) ≡ with_row (row e v x (literals_in (take (2 * c) xs))) (fdr_rows_of k (drop (2 * c) xs))
  unfolding fdr_rows_of with_row
  next_row h = rw (le-leb (2 * c) (length xs) h, fdr_rows_of) (go (fdr_rows_of k (drop (2 * c) xs)))
    where
      go :
          (q : Option (List FdrRow)) → (elim q [ none ↦ none | some rs ↦ some (row e v x (literals_in (take (2 * c) xs)) ∷ rs) ]) ≡ with_row
          (row e v x (literals_in (take (2 * c) xs))) q
      go none = refl
      go (some rs) = refl

-- with k + 1 rows left at p
module _ (b : List ℕ) (p k : ℕ) where
  rows_none : length b - p < 4 → fdr_rows_of (suc k) (drop p b) ≡ none
  rows_none h = short_none k (drop p b) (rw length-drop h)

  module _
      (e v x c : ℕ) (ee : e ≡ get_or b p 0) (ev : v ≡ get_or b (p + 1) 0) (ex : x ≡ get_or b (p + 2) 0) (ec : c ≡ get_or b (p + 3) 0)
      (four : p + 4 ≤ length b) where
    words : drop p b ≡ e ∷ (v ∷ (x ∷ (c ∷ drop (p + 4) b)))
    words = rw (ee, ev, ex, ec) (drop_four b p four)

    rows_past : length b - (p + 4) < 2 * c → fdr_rows_of (suc k) (drop p b) ≡ none
    rows_past h = ap (fdr_rows_of (suc k)) words ∙ past_none k e v x c (drop (p + 4) b) (rw length-drop h)

    rows_next :
        2 * c ≤ length b - (p + 4)
        → fdr_rows_of (suc k) (drop p b) ≡ with_row (row e v x (literals_in (take (2 * c) (drop (p + 4) b)))) (fdr_rows_of k (drop (p + 4 + 2 * c) b))
    rows_next h = ap (fdr_rows_of (suc k)) words ∙ next_row k e v x c (drop (p + 4) b) (rw length-drop h) ∙ rw drop-drop

-- the tests of the walk, with k rows left at p
module _ (D : List Domain) (b : List ℕ) (p k : ℕ) (more : 0 < k) where
  some_left : rows_right D (fdr_rows_of k (drop p b)) ≡ rows_right D (fdr_rows_of (suc (k - 1)) (drop p b))
  some_left = ap (λ (j : ℕ). rows_right D (fdr_rows_of j (drop p b))) (let e : k ≡ suc (k - 1) = omega arith in e)

  rows_short : length b - p < 4 → rows_right D (fdr_rows_of k (drop p b)) ≡ false
  unfolding rows_right
  rows_short h = some_left ∙ rw (rows_none b p (k - 1) h)

  module _
      (e v x c : ℕ) (ee : e ≡ get_or b p 0) (ev : v ≡ get_or b (p + 1) 0) (ex : x ≡ get_or b (p + 2) 0) (ec : c ≡ get_or b (p + 3) 0)
      (four : p + 4 ≤ length b) where
    rows_over : length b - (p + 4) < 2 * c → rows_right D (fdr_rows_of k (drop p b)) ≡ false
    unfolding rows_right
    rows_over h = some_left ∙ rw (rows_past b p (k - 1) e v x c ee ev ex ec four h)

    module _
        (fits : 2 * c ≤ length b - (p + 4)) (right : Bool)
        (er : right ≡ fdr_row_right D (row e v x (literals_in (take (p + 4 + 2 * c - (p + 4)) (drop (p + 4) b))))) where
      here : rows_right D (fdr_rows_of k (drop p b)) ≡ (right && rows_right D (fdr_rows_of (k - 1) (drop (p + 4 + 2 * c) b)))
      here =
          some_left ∙ ap (rows_right D) (rows_next b p (k - 1) e v x c ee ev ex ec four fits)
          ∙ (let z = add-sub_cancel_left (p + 4) (2 * c) in rw (er, z) (go (fdr_rows_of (k - 1) (drop (p + 4 + 2 * c) b))))
        where
          go :
              (q : Option (List FdrRow)) → rows_right D (with_row (row e v x (literals_in (take (2 * c) (drop (p + 4) b)))) q) ≡
              (fdr_row_right D (row e v x (literals_in (take (2 * c) (drop (p + 4) b)))) && rows_right D q)
          go q = rows_with_lem D (row e v x (literals_in (take (2 * c) (drop (p + 4) b)))) q

      rows_off : right ≡ false → rows_right D (fdr_rows_of k (drop p b)) ≡ false
      rows_off h = here ∙ rw h

      rows_on : right ≡ true → rows_right D (fdr_rows_of k (drop p b)) ≡ rows_right D (fdr_rows_of (k - 1) (drop (p + 4 + 2 * c) b))
      rows_on h = here ∙ rw h

-- ---- by the test that all words of the row are in the block
module _ (b : List ℕ) (p : ℕ) where
  pub whole_short : p ≤ length b → length b - p < 4 → false ≡ whole_row b p
  unfolding whole_row
  whole_short h l = sym (lt-leb (p + 4 + 2 * get_or b (p + 3) 0) (length b) (omega arith))

  pub whole_rest : (c : ℕ) → c ≡ get_or b (p + 3) 0 → p ≤ length b → 4 ≤ length b - p → leb (2 * c) (length b - (p + 4)) ≡ whole_row b p
  unfolding whole_row
  whole_rest c e h l = go (leb (2 * c) (length b - (p + 4))) refl
    where
      go : (t : Bool) → leb (2 * c) (length b - (p + 4)) ≡ t → leb (2 * c) (length b - (p + 4)) ≡ leb (p + 4 + 2 * get_or b (p + 3) 0) (length b)
      go true q = q ∙ sym (le-leb (p + 4 + 2 * get_or b (p + 3) 0) (length b) (let z = leb-true (2 * c) (length b - (p + 4)) q in omega arith))
      go false q = q ∙ sym (lt-leb (p + 4 + 2 * get_or b (p + 3) 0) (length b) (let z = leb-false (2 * c) (length b - (p + 4)) q in omega arith))

  pub whole_fits : whole_row b p ≡ true → p + 4 + 2 * get_or b (p + 3) 0 ≤ length b
  unfolding whole_row
  whole_fits h = leb-true (p + 4 + 2 * get_or b (p + 3) 0) (length b) h

module _ (D : List Domain) (b : List ℕ) (p k : ℕ) (more : 0 < k) where
  pub rows_cut : whole_row b p ≡ false → rows_right D (fdr_rows_of k (drop p b)) ≡ false
  unfolding whole_row
  rows_cut h = go (leb (p + 4) (length b)) refl
    where
      past : length b < p + 4 + 2 * get_or b (p + 3) 0
      past = leb-false (p + 4 + 2 * get_or b (p + 3) 0) (length b) h

      go : (t : Bool) → leb (p + 4) (length b) ≡ t → rows_right D (fdr_rows_of k (drop p b)) ≡ false
      go true e =
          let room = leb-true (p + 4) (length b) e in
          let over = past in
          rows_over D b p k more (get_or b p 0) (get_or b (p + 1) 0) (get_or b (p + 2) 0) (get_or b (p + 3) 0) refl refl refl refl room (omega arith)
      go false e = rows_short D b p k more (let z = leb-false (p + 4) (length b) e in omega arith)

  module _ (e v x f z : ℕ) (at : RowAt b p e v x f z) (right : Bool) (er : right ≡ fdr_row_right D (row e v x (literals_in (take (z - f) (drop f b))))) where
    fits : p + 4 + 2 * get_or b (p + 3) 0 ≤ length b
    fits = let h = at.high in let e = at.end_is in omega arith

    right_is : right ≡ fdr_row_right D (row e v x (literals_in (take (p + 4 + 2 * get_or b (p + 3) 0 - (p + 4)) (drop (p + 4) b))))
    right_is =
        er ∙ ap (λ (j : ℕ). fdr_row_right D (row e v x (literals_in (take (z - j) (drop j b))))) at.from_is
        ∙ ap (λ (j : ℕ). fdr_row_right D (row e v x (literals_in (take (j - (p + 4)) (drop (p + 4) b))))) at.end_is

    pub rows_wrong : right ≡ false → rows_right D (fdr_rows_of k (drop p b)) ≡ false
    rows_wrong h =
        let l = fits in
        rows_off D b p k more e v x (get_or b (p + 3) 0) at.kind_is at.variable_is at.value_is refl (omega arith) (omega arith) right right_is h

    pub rows_right_lem : right ≡ true → rows_right D (fdr_rows_of k (drop p b)) ≡ rows_right D (fdr_rows_of (k - 1) (drop z b))
    rows_right_lem h =
        let l = fits in
        rows_on D b p k more e v x (get_or b (p + 3) 0) at.kind_is at.variable_is at.value_is refl (omega arith) (omega arith) right right_is h
        ∙ ap (λ (j : ℕ). rows_right D (fdr_rows_of (k - 1) (drop j b))) (sym at.end_is)

pub rows_end : (D : List Domain) (b : List ℕ) (p k : ℕ) → k ≡ 0 → p ≤ length b → eqb p (length b) ≡ rows_right D (fdr_rows_of k (drop p b))
unfolding rows_right fdr_rows_of all
rows_end D b p k e h = rw e (go (leb (length b) p) refl)
  where
    go : (t : Bool) → leb (length b) p ≡ t → eqb p (length b) ≡ rows_right D (fdr_rows_of 0 (drop p b))
    go true t = let l = leb-true (length b) p t in rw (drop_of_length-le b {i = p} l, eq-eqb p (length b) (omega arith))
    go false t = let l = leb-false (length b) p t in rw (drop-cons b p 0 l, ne_eqb p (length b) (λ z. omega arith))

-- ---- a block
with_precondition : List FdrLiteral → Option (List FdrRow) → Option FdrOperator
with_precondition pre none = none
with_precondition pre (some rs) = some (record { precondition = pre; rows = rs })

block_with :
    (D : List Domain) (pre : List FdrLiteral) (q : Option (List FdrRow))
    → block_right D (with_precondition pre q) ≡ (all (fdr_literal_right D) pre && rows_right D q)
unfolding block_right with_precondition rows_right fdr_operator_right
block_with D pre none = sym (and-false (all (fdr_literal_right D) pre))
block_with D pre (some rs) = refl

block_none : (b : List ℕ) → length b ≤ 2 * get_or b 0 0 + 1 → fdr_operator_of b ≡ none
unfolding fdr_operator_of fdr_rest_of
block_none [] h = refl
block_none (c ∷ xs) h = go (leb (2 * c) (length xs)) refl
  where
    go : (t : Bool) → leb (2 * c) (length xs) ≡ t → fdr_operator_of (c ∷ xs) ≡ none
    go true e =
        let h' : length xs ≤ 2 * c = omega arith in
        rw (e, fdr_operator_of, drop_of_length-le xs {i = 2 * c} h')
    go false e = rw (e, fdr_operator_of)

rest_parse : (pre : List FdrLiteral) (k : ℕ) (xs : List ℕ) → fdr_rest_of pre (k ∷ xs) ≡ with_precondition pre (fdr_rows_of k xs)
unfolding fdr_rest_of with_precondition
rest_parse pre k xs = go (fdr_rows_of k xs)
  where
    go : (q : Option (List FdrRow)) → (elim q [ none ↦ none | some rs ↦ some (record { precondition = pre; rows = rs }) ]) ≡ with_precondition pre q
    go none = refl
    go (some rs) = refl

block_cons :
    (c k : ℕ) (xs : List ℕ) → 2 * c < length xs → k ≡ get_or xs (2 * c) 0
    → fdr_operator_of (c ∷ xs) ≡ with_precondition (literals_in (take (2 * c) xs)) (fdr_rows_of k (drop (suc (2 * c)) xs))
unfolding fdr_operator_of
block_cons c k xs h ek =
    rw (le-leb (2 * c) (length xs) (omega arith), fdr_operator_of, drop-cons xs (2 * c) 0 h, ← ek)
    (rest_parse (literals_in (take (2 * c) xs)) k (drop (suc (2 * c)) xs))

block_parse : (b : List ℕ) (c k : ℕ) → c ≡ get_or b 0 0 → 2 * c + 1 < length b → k ≡ get_or b (2 * c + 1) 0
    → fdr_operator_of b ≡ with_precondition (literals_in (take (2 * c) (drop 1 b))) (fdr_rows_of k (drop (2 * c + 2) b))
block_parse [] c k ec h ek = absurd (omega arith)
block_parse (y ∷ xs) c k ec h ek =
    let ek' : k ≡ get_or xs (2 * c) 0 = ek ∙ ap (λ (j : ℕ). get_or (y ∷ xs) j 0) (add-one (2 * c)) in
    rw (add-two, ← ec) (block_cons c k xs (omega arith) ek')

module _ (D : List Domain) (b : List ℕ) where
  pub block_empty : length b < 1 → false ≡ block_right D (fdr_operator_of b)
  unfolding block_right
  block_empty h = rw (block_none b (omega arith))

  module _ (c : ℕ) (ec : c ≡ get_or b 0 0) where
    pub block_short : length b ≤ 2 * c + 1 → false ≡ block_right D (fdr_operator_of b)
    unfolding block_right
    block_short h = rw (block_none b (rw (← ec) h))

    module _ (room : 2 * c + 1 < length b) (right : Bool) (er : right ≡ all (fdr_literal_right D) (literals_in (take (2 * c + 1 - 1) (drop 1 b)))) where
      block_here : (k : ℕ) → k ≡ get_or b (2 * c + 1) 0 → block_right D (fdr_operator_of b) ≡ (right && rows_right D (fdr_rows_of k (drop (2 * c + 1 + 1) b)))
      block_here k ek =
          let e₁ : 2 * c + 1 - 1 ≡ 2 * c = omega arith in
          let e₂ : 2 * c + 1 + 1 ≡ 2 * c + 2 = omega arith in
          rw (block_parse b c k ec room ek, block_with, er, e₁, e₂)

      pub block_off : right ≡ false → false ≡ block_right D (fdr_operator_of b)
      block_off h = sym (block_here (get_or b (2 * c + 1) 0) refl ∙ rw h)

      pub block_on :
          (k : ℕ) → k ≡ get_or b (2 * c + 1) 0 → right ≡ true → rows_right D (fdr_rows_of k (drop (2 * c + 1 + 1) b)) ≡ block_right D (fdr_operator_of b)
      block_on k ek h = sym (block_here k ek ∙ rw h)

-- ---- a block that parses
not_some : {A : Type 0} → false ≡ true → A
not_some e = never e refl

some_row : (r : FdrRow) (q : Option (List FdrRow)) → some_rows (with_row r q) ≡ some_rows q
unfolding with_row some_rows
some_row r none = refl
some_row r (some rs) = refl

or_row : (r : FdrRow) (q : Option (List FdrRow)) → some_rows q ≡ true → rows_or (with_row r q) ≡ r ∷ rows_or q
unfolding with_row rows_or some_rows
or_row r none h = not_some h
or_row r (some rs) h = refl

module _ (b : List ℕ) (p k : ℕ) (ok : parses_at b p k ≡ true) (more : 0 < k) where
  parses_more : some_rows (fdr_rows_of (suc (k - 1)) (drop p b)) ≡ true
  unfolding parses_at
  parses_more = ap (λ (j : ℕ). some_rows (fdr_rows_of j (drop p b))) (let e : suc (k - 1) ≡ k = omega arith in e) ∙ ok

  refuted : {A : Type 0} → fdr_rows_of (suc (k - 1)) (drop p b) ≡ none → A
  unfolding some_rows
  refuted e = not_some (sym (ap some_rows e) ∙ parses_more)

  row_room : p + 4 ≤ length b
  row_room = go (leb (p + 4) (length b)) refl
    where
      go : (t : Bool) → leb (p + 4) (length b) ≡ t → p + 4 ≤ length b
      go true e = leb-true (p + 4) (length b) e
      go false e = let l = leb-false (p + 4) (length b) e in refuted (rows_none b p (k - 1) (omega arith))

  module _ (e v x c : ℕ) (ee : e ≡ get_or b p 0) (ev : v ≡ get_or b (p + 1) 0) (ex : x ≡ get_or b (p + 2) 0) (ec : c ≡ get_or b (p + 3) 0) where
    row_fits : 2 * c ≤ length b - (p + 4)
    row_fits = go (leb (2 * c) (length b - (p + 4))) refl
      where
        go : (t : Bool) → leb (2 * c) (length b - (p + 4)) ≡ t → 2 * c ≤ length b - (p + 4)
        go true h = leb-true (2 * c) (length b - (p + 4)) h
        go false h = refuted (rows_past b p (k - 1) e v x c ee ev ex ec row_room (leb-false (2 * c) (length b - (p + 4)) h))

    words_read : x < 65536 → RowRead b p k e v x (p + 4) (p + 4 + 2 * c)
    unfolding parses_at rows_at
    words_read word =
        let room = row_room in
        let fit = row_fits in
        let step = rows_next b p (k - 1) e v x c ee ev ex ec row_room row_fits in
        let q = fdr_rows_of (k - 1) (drop (p + 4 + 2 * c) b) in
        let r = row e v x (literals_in (take (2 * c) (drop (p + 4) b))) in
        let left : some_rows q ≡ true = sym (some_row r q) ∙ ap some_rows (sym step) ∙ parses_more in
        let more' : k ≡ suc (k - 1) = omega arith in
        record {
          low = omega arith;
          high = omega arith;
          word = word;
          next = left;
          row = rw (add-sub_cancel_left (p + 4) (2 * c)) (ap (λ (j : ℕ). rows_or (fdr_rows_of j (drop p b))) more' ∙ ap rows_or step ∙ or_row r q left);
        }

  -- by the words of the row
  pub row_whole : whole_row b p ≡ true
  unfolding whole_row
  row_whole =
      let room = row_room in
      let fit = row_fits (get_or b p 0) (get_or b (p + 1) 0) (get_or b (p + 2) 0) (get_or b (p + 3) 0) refl refl refl refl in
      le-leb (p + 4 + 2 * get_or b (p + 3) 0) (length b) (omega arith)

  pub row_read : (e v x f z : ℕ) → RowAt b p e v x f z → RowRead b p k e v x f z
  row_read e v x f z at =
      subst (λ (j : ℕ). RowRead b p k e v x j z) (sym at.from_is)
      (subst (λ (j : ℕ). RowRead b p k e v x (p + 4) j) (sym at.end_is)
      (words_read e v x (get_or b (p + 3) 0) at.kind_is at.variable_is at.value_is refl at.word))

pub rows_done : (b : List ℕ) (p k : ℕ) → k ≡ 0 → rows_at b p k ≡ []
unfolding rows_at rows_or fdr_rows_of
rows_done b p k e = rw e (go (drop p b))
  where
    go : (l : List ℕ) → rows_or (fdr_rows_of 0 l) ≡ []
    go [] = refl
    go (x ∷ l) = refl

module _ (pre : List FdrLiteral) where
  with_precondition_lem :
      (q : Option (List FdrRow)) → some_operator (with_precondition pre q) ≡ true → (operator_or (with_precondition pre q)).precondition ≡ pre
  unfolding with_precondition some_operator operator_or
  with_precondition_lem none h = not_some h
  with_precondition_lem (some rs) h = refl

  with_some : (q : Option (List FdrRow)) → some_operator (with_precondition pre q) ≡ true → some_rows q ≡ true
  unfolding with_precondition some_operator some_rows
  with_some none h = h
  with_some (some rs) h = refl

  with_rows : (q : Option (List FdrRow)) → some_operator (with_precondition pre q) ≡ true → rows_or q ≡ (operator_or (with_precondition pre q)).rows
  unfolding with_precondition some_operator rows_or operator_or
  with_rows none h = not_some h
  with_rows (some rs) h = refl

module _ (b : List ℕ) (ok : block_parses b ≡ true) where
  pub block_room : 2 * get_or b 0 0 + 1 < length b
  unfolding block_parses some_operator
  block_room = go (leb (length b) (2 * get_or b 0 0 + 1)) refl
    where
      go : (t : Bool) → leb (length b) (2 * get_or b 0 0 + 1) ≡ t → 2 * get_or b 0 0 + 1 < length b
      go true e = not_some (sym (ap some_operator (block_none b (leb-true (length b) (2 * get_or b 0 0 + 1) e))) ∙ ok)
      go false e = leb-false (length b) (2 * get_or b 0 0 + 1) e

  pub block_read : (c k : ℕ) → c ≡ get_or b 0 0 → k ≡ get_or b (2 * c + 1) 0 → BlockRead b (operator_in b) (2 * c + 1) k
  unfolding block_parses operator_in parses_at rows_at
  block_read c k ec ek =
      let room = block_room in
      let e₁ : 2 * c + 1 - 1 ≡ 2 * c = omega arith in
      let e₂ : 2 * c + 1 + 1 ≡ 2 * c + 2 = omega arith in
      let h : 2 * c + 1 < length b = rw ec room in
      let parse = block_parse b c k ec h ek in
      let pre = literals_in (take (2 * c) (drop 1 b)) in
      let q = fdr_rows_of k (drop (2 * c + 2) b) in
      let have : some_operator (with_precondition pre q) ≡ true = ap some_operator (sym parse) ∙ ok in
      record {
        low = omega arith;
        high = omega arith;
        precondition = rw (parse, e₁) (sym (with_precondition_lem pre q have));
        parses = rw e₂ (with_some pre q have);
        rows = rw (parse, e₂) (with_rows pre q have);
      }
