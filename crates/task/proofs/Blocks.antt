-- Laws of an operator's block: its walk, what its accessors give, and questions 6 and 7. Assumes nothing.
use mathlib.Core.Path.{◌≡◌, refl, sym, ap, ◌∙◌}
use mathlib.Core.List.{List, [], ◌∷◌}
use mathlib.Core.Bool.{Bool, true, false, ◌&&◌, and_assoc, and-true, false≢true}
use mathlib.Core.Option.{Option, none, some}
use Prim.Native.Nat.{ℕ, suc, ◌+◌, ◌-◌, ◌≤◌, ◌<◌}
use native.Mathlib.Numerals.{add-one, add-two}
use native.Mathlib.Nat.{add-sub_cancel_left}
use native.Mathlib.Omega.{arith}
use lib.ListN.{length, get_or, take, drop, length-drop, drop_of_length-le}
use lib.Seq.{drop-cons, drop-drop}
use lib.Dec.{leb}
use borrow.Author.Tests.{lt-leb, le-leb, leb-true, leb-false}
use Rattle.definitions.specs.Lists.{all}
use Rattle.definitions.specs.Answer.{Answer, finding, refused, refuse, verdict, ask_at, ◌>>=◌}
use Rattle.definitions.specs.Literal.{literal_list}
use Rattle.definitions.specs.Image.{Row, Operator, rows_of, rest_of, operator_of, row_right, operator_right, read_operator}
use Rattle.answer.specs.Answer.{refusal_at}
use Rattle.task.specs.Walk.{row, rows_verdict, some_operator, operator_or, block_parses, operator_in, some_rows, rows_or, parses_at, rows_at}
use Rattle.task.specs.Post.{RowRead, BlockRead}

-- the first two words of what is left
drop_two : (b : List ℕ) (p : ℕ) → p + 2 ≤ length b → drop p b ≡ get_or b p 0 ∷ get_or b (p + 1) 0 ∷ drop (p + 2) b
drop_two b p h =
    let h₁ : p < length b = omega arith in
    let h₂ : suc p < length b = omega arith in
    rw (add-one, add-two, drop-cons b p 0 h₁, drop-cons b (suc p) 0 h₂)

-- a row in front of the rows that are left
with_row : Row → Option (List Row) → Option (List Row)
with_row r none = none
with_row r (some rs) = some (r ∷ rs)

short_none : (k : ℕ) (l : List ℕ) → length l < 2 → rows_of (suc k) l ≡ none
unfolding rows_of
short_none k [] h = refl
short_none k (e ∷ []) h = refl
short_none k (e ∷ (c ∷ l)) h = absurd (omega arith)

over_none : (k e c : ℕ) (l : List ℕ) → length l < c → rows_of (suc k) (e ∷ c ∷ l) ≡ none
unfolding rows_of
over_none k e c l h = rw (lt-leb c (length l) h, rows_of)

next_row : (k e c : ℕ) (l : List ℕ) → c ≤ length l → rows_of (suc k) (e ∷ c ∷ l) ≡ with_row (row e (take c l)) (rows_of k (drop c l))
unfolding rows_of with_row
next_row k e c l h = rw (le-leb c (length l) h, rows_of) (go (rows_of k (drop c l)))
  where
    go : (q : Option (List Row)) → elim q [ none ↦ none | some rs ↦ some (row e (take c l) ∷ rs) ] ≡ with_row (row e (take c l)) q
    go none = refl
    go (some rs) = refl

-- the walk of the rows, with k' + 1 rows left at p
module _ (b : List ℕ) (p k k' : ℕ) (more : k ≡ suc k') where
  rows_short : length b - p < 2 → rows_of k (drop p b) ≡ none
  rows_short h = rw more (short_none k' (drop p b) (rw length-drop h))

  module _ (e c : ℕ) (ee : e ≡ get_or b p 0) (ec : c ≡ get_or b (p + 1) 0) (two : p + 2 ≤ length b) where
    rows_over : length b - (p + 2) < c → rows_of k (drop p b) ≡ none
    rows_over h = rw (more, drop_two b p two, ← ec, ← ee) (over_none k' e c (drop (p + 2) b) (rw length-drop h))

    rows_on : c ≤ length b - (p + 2) → rows_of k (drop p b) ≡ with_row (row e (take c (drop (p + 2) b))) (rows_of k' (drop (p + 2 + c) b))
    rows_on h =
        rw (more, drop_two b p two, ← ec, ← ee) (next_row k' e c (drop (p + 2) b) (rw length-drop h)
        ∙ ap (λ (l : List ℕ). with_row (row e (take c (drop (p + 2) b))) (rows_of k' l)) (drop-drop c (p + 2) b))

-- ---- questions 6 and 7
-- the rows that are left decide
module _ (atoms i : ℕ) (ok : Bool) (b : List ℕ) (p k k' : ℕ) (more : k ≡ suc k') where
  pub verdict_short : length b - p < 2 → refused (refusal_at 6 i 0) ≡ rows_verdict atoms i ok (rows_of k (drop p b))
  unfolding rows_verdict refuse
  verdict_short h = rw (rows_short b p k k' more h)

  pub verdict_over :
      (c : ℕ) → c ≡ get_or b (p + 1) 0 → p + 2 ≤ length b → length b - (p + 2) < c
      → refused (refusal_at 6 i 0) ≡ rows_verdict atoms i ok (rows_of k (drop p b))
  unfolding rows_verdict refuse
  verdict_over c ec two h = rw (rows_over b p k k' more (get_or b p 0) c refl ec two h)

verdict_row :
    (atoms i : ℕ) (ok : Bool) (r : Row) (q : Option (List Row))
    → rows_verdict atoms i ok (with_row r q) ≡ rows_verdict atoms i (ok && row_right atoms r) q
unfolding rows_verdict with_row all
verdict_row atoms i ok r none = refl
verdict_row atoms i ok r (some rs) = ap (ask_at 7 i) (sym (and_assoc ok (row_right atoms r) (all (row_right atoms) rs)))

-- one row of the walk, with the code's own values
pub verdict_next : (atoms i : ℕ) (b : List ℕ) (p k k' : ℕ) (right ok right' : Bool) (e c : ℕ)
    → e ≡ get_or b p 0 → c ≡ get_or b (p + 1) 0 → k ≡ suc k' → p + 2 ≤ length b → c ≤ length b - (p + 2)
    → ok ≡ row_right atoms (row e (take (p + 2 + c - (p + 2)) (drop (p + 2) b))) → right' ≡ (right && ok)
    → rows_verdict atoms i right (rows_of k (drop p b)) ≡ rows_verdict atoms i right' (rows_of k' (drop (p + 2 + c) b))
verdict_next atoms i b p k k' right ok right' e c ee ec more two fits eo er =
    let q = rows_of k' (drop (p + 2 + c) b) in
    let eo' : ok ≡ row_right atoms (row e (take c (drop (p + 2) b))) =
    eo ∙ ap (λ (j : ℕ). row_right atoms (row e (take j (drop (p + 2) b)))) (add-sub_cancel_left (p + 2) c) in
    ap (rows_verdict atoms i right) (rows_on b p k k' more e c ee ec two fits)
    ∙ verdict_row atoms i right (row e (take c (drop (p + 2) b))) q
    ∙ ap (λ (t : Bool). rows_verdict atoms i t q) (sym (er ∙ ap (λ (t : Bool). right && t) eo'))

module _ (atoms i : ℕ) (ok : Bool) (b : List ℕ) (p k : ℕ) (done : k ≡ 0) where
  pub verdict_left : p < length b → refused (refusal_at 6 i 0) ≡ rows_verdict atoms i ok (rows_of k (drop p b))
  unfolding rows_verdict rows_of refuse
  verdict_left h = rw (done, drop-cons b p 0 h)

  pub verdict_asked_last : length b ≤ p → ask_at 7 i ok ≡ rows_verdict atoms i ok (rows_of k (drop p b))
  unfolding rows_verdict rows_of all
  verdict_asked_last h = rw (done, drop_of_length-le b {i = p} h) (ap (ask_at 7 i) (sym (and-true ok)))

-- the operator of a precondition and rows
with_precondition : List ℕ → Option (List Row) → Option Operator
with_precondition pre none = none
with_precondition pre (some rs) = some (record { precondition = pre; rows = rs })

rest_parse : (pre : List ℕ) (k : ℕ) (xs : List ℕ) → rest_of pre (k ∷ xs) ≡ with_precondition pre (rows_of k xs)
unfolding rest_of with_precondition
rest_parse pre k xs = go (rows_of k xs)
  where
    go : (q : Option (List Row)) → elim q [ none ↦ none | some rs ↦ some (record { precondition = pre; rows = rs }) ] ≡ with_precondition pre q
    go none = refl
    go (some rs) = refl

block_short : (b : List ℕ) → length b ≤ get_or b 0 0 + 1 → operator_of b ≡ none
unfolding operator_of rest_of
block_short [] h = refl
block_short (c ∷ xs) h = go (leb c (length xs)) refl
  where
    h' : length xs ≤ c
    h' = omega arith

    go : (t : Bool) → leb c (length xs) ≡ t → operator_of (c ∷ xs) ≡ none
    go true e = rw (e, operator_of, drop_of_length-le xs {i = c} h')
    go false e = rw (e, operator_of)

rest_there : (c : ℕ) (xs : List ℕ) → c < length xs → operator_of (c ∷ xs) ≡ with_precondition (take c xs) (rows_of (get_or xs c 0) (drop (suc c) xs))
unfolding operator_of
rest_there c xs h =
    let l : c ≤ length xs = omega arith in
    rw (le-leb c (length xs) l, operator_of)
    (ap (rest_of (take c xs)) (drop-cons xs c 0 h) ∙ rest_parse (take c xs) (get_or xs c 0) (drop (suc c) xs))

block_parse : (b : List ℕ) (c k : ℕ) → c ≡ get_or b 0 0 → c + 1 < length b → k ≡ get_or b (c + 1) 0
    → operator_of b ≡ with_precondition (take c (drop 1 b)) (rows_of k (drop (c + 2) b))
block_parse [] c k ec h ek = absurd (omega arith)
block_parse (x ∷ xs) c k ec h ek =
    let ek' : k ≡ get_or xs c 0 = ek ∙ ap (λ (j : ℕ). get_or (x ∷ xs) j 0) (add-one c) in
    ap (λ (y : ℕ). operator_of (y ∷ xs)) (sym ec) ∙ rest_there c xs (omega arith) ∙ rw (add-two, ek')

-- questions 6 and 7 of a block, by its operator
verdict_none : (atoms i : ℕ) (b : List ℕ) → operator_of b ≡ none → verdict (read_operator atoms i b) ≡ refused (refusal_at 6 i 0)
unfolding verdict read_operator refuse
verdict_none atoms i b e = rw (e, read_operator)

verdict_some : (atoms i : ℕ) (b : List ℕ) (o : Operator) → operator_of b ≡ some o → verdict (read_operator atoms i b) ≡ ask_at 7 i (operator_right atoms o)
unfolding verdict read_operator ask_at ◌>>=◌
verdict_some atoms i b o e = rw (e, read_operator) (go (operator_right atoms o))
  where
    go : (t : Bool) → verdict (ask_at 7 i t >>= λ _. finding o) ≡ ask_at 7 i t
    go true = refl
    go false = refl

pub block_6 : (atoms i : ℕ) (b : List ℕ) → length b ≤ get_or b 0 0 + 1 → refused (refusal_at 6 i 0) ≡ verdict (read_operator atoms i b)
block_6 atoms i b h = sym (verdict_none atoms i b (block_short b h))

pub block_rest : (atoms i : ℕ) (b : List ℕ) (c k : ℕ) (first : Bool) (r : Answer (Unit {0}))
    → c ≡ get_or b 0 0 → c + 1 < length b → first ≡ literal_list atoms (take (c + 1 - 1) (drop 1 b)) → k ≡ get_or b (c + 1) 0
    → r ≡ rows_verdict atoms i first (rows_of k (drop (c + 1 + 1) b)) → r ≡ verdict (read_operator atoms i b)
unfolding rows_verdict with_precondition operator_right refuse
block_rest atoms i b c k first r ec h ef ek er = er ∙ rw (e₂, ef, e₁) (go (rows_of k (drop (c + 2) b)) refl)
  where
    e₁ : c + 1 - 1 ≡ c
    e₁ = omega arith

    e₂ : c + 1 + 1 ≡ c + 2
    e₂ = omega arith

    parse : operator_of b ≡ with_precondition (take c (drop 1 b)) (rows_of k (drop (c + 2) b))
    parse = block_parse b c k ec h ek

    go :
        (q : Option (List Row)) → rows_of k (drop (c + 2) b) ≡ q
        → rows_verdict atoms i (literal_list atoms (take c (drop 1 b))) q ≡ verdict (read_operator atoms i b)
    go none e = sym (verdict_none atoms i b (parse ∙ ap (with_precondition (take c (drop 1 b))) e))
    go (some rs) e = sym (verdict_some atoms i b (record { precondition = take c (drop 1 b); rows = rs })
        (parse ∙ ap (with_precondition (take c (drop 1 b))) e))

-- ---- a block that parses
some_row : (r : Row) (q : Option (List Row)) → some_rows (with_row r q) ≡ some_rows q
unfolding some_rows with_row
some_row r none = refl
some_row r (some rs) = refl

or_row : (r : Row) (q : Option (List Row)) → some_rows q ≡ true → rows_or (with_row r q) ≡ r ∷ rows_or q
unfolding some_rows rows_or with_row
or_row r none h = absurd (false≢true h)
or_row r (some rs) h = refl

module _ (b : List ℕ) (p k : ℕ) (ok : parses_at b p k ≡ true) (more : 0 < k) where
  more' : k ≡ suc (k - 1)
  more' = omega arith

  not_none : rows_of k (drop p b) ≡ none → ⊥
  unfolding parses_at some_rows
  not_none e = false≢true (rw e at ok)

  pub row_room : p + 2 ≤ length b
  row_room = go (leb (p + 2) (length b)) refl
    where
      go : (t : Bool) → leb (p + 2) (length b) ≡ t → p + 2 ≤ length b
      go true e = leb-true _ _ e
      go false e = let s = leb-false (p + 2) (length b) e in absurd (not_none (rows_short b p k (k - 1) more' (omega arith)))

  pub row_fits : get_or b (p + 1) 0 ≤ length b - (p + 2)
  row_fits = go (leb (get_or b (p + 1) 0) (length b - (p + 2))) refl
    where
      go : (t : Bool) → leb (get_or b (p + 1) 0) (length b - (p + 2)) ≡ t → get_or b (p + 1) 0 ≤ length b - (p + 2)
      go true e = leb-true _ _ e
      go false e =
          absurd
          (not_none
          (rows_over b p k (k - 1) more' (get_or b p 0) (get_or b (p + 1) 0) refl refl row_room (leb-false (get_or b (p + 1) 0) (length b - (p + 2)) e)))

  pub row_read : (e c : ℕ) → e ≡ get_or b p 0 → c ≡ get_or b (p + 1) 0 → e < 65536 → RowRead b p k e (p + 2) (p + 2 + c)
  unfolding parses_at rows_at
  row_read e c ee ec word =
      let room = row_room in
      let fit : c ≤ length b - (p + 2) = rw ec row_fits in
      let step = rows_on b p k (k - 1) more' e c ee ec row_room fit in
      let q = rows_of (k - 1) (drop (p + 2 + c) b) in
      let r = row e (take c (drop (p + 2) b)) in
      let left : some_rows q ≡ true = sym (some_row r q) ∙ ap some_rows (sym step) ∙ ok in
      record {
        low = omega arith;
        high = omega arith;
        on = omega arith;
        word = word;
        next = left;
        row = rw (add-sub_cancel_left (p + 2) c) (ap rows_or step ∙ or_row r q left);
      }

pre_is : (p : List ℕ) (q : Option (List Row)) → some_operator (with_precondition p q) ≡ true → (operator_or (with_precondition p q)).precondition ≡ p
unfolding some_operator operator_or with_precondition
pre_is p none h = absurd (false≢true h)
pre_is p (some rs) h = refl

some_is : (p : List ℕ) (q : Option (List Row)) → some_operator (with_precondition p q) ≡ true → some_rows q ≡ true
unfolding some_operator some_rows with_precondition
some_is p none h = h
some_is p (some rs) h = refl

rows_is : (p : List ℕ) (q : Option (List Row)) → some_operator (with_precondition p q) ≡ true → rows_or q ≡ (operator_or (with_precondition p q)).rows
unfolding some_operator rows_or operator_or with_precondition
rows_is p none h = absurd (false≢true h)
rows_is p (some rs) h = refl

module _ (b : List ℕ) (ok : block_parses b ≡ true) where
  pub block_room : get_or b 0 0 + 1 < length b
  unfolding block_parses some_operator
  block_room = go (leb (length b) (get_or b 0 0 + 1)) refl
    where
      go : (t : Bool) → leb (length b) (get_or b 0 0 + 1) ≡ t → get_or b 0 0 + 1 < length b
      go true e = absurd (false≢true (sym (ap some_operator (block_short b (leb-true _ _ e))) ∙ ok))
      go false e = leb-false _ _ e

  pub block_read : (c k : ℕ) → c ≡ get_or b 0 0 → k ≡ get_or b (c + 1) 0 → BlockRead b (operator_in b) (c + 1) k
  unfolding block_parses operator_in parses_at rows_at
  block_read c k ec ek =
      let room = block_room in
      let e₁ : c + 1 - 1 ≡ c = omega arith in
      let e₂ : c + 1 + 1 ≡ c + 2 = omega arith in
      let h : c + 1 < length b = rw ec room in
      let parse = block_parse b c k ec h ek in
      let q = rows_of k (drop (c + 2) b) in
      let have : some_operator (with_precondition (take c (drop 1 b)) q) ≡ true = ap some_operator (sym parse) ∙ ok in
      record {
        low = omega arith;
        high = omega arith;
        precondition = rw (parse, e₁) (sym (pre_is (take c (drop 1 b)) q have));
        parses = rw e₂ (some_is (take c (drop 1 b)) q have);
        rows = rw (parse, e₂) (rows_is (take c (drop 1 b)) q have);
      }

-- no rows are left
pub rows_none : (b : List ℕ) (p k : ℕ) → k ≡ 0 → rows_at b p k ≡ []
unfolding rows_at rows_or rows_of
rows_none b p k e = rw e (go (drop p b))
  where
    go : (l : List ℕ) → rows_or (rows_of 0 l) ≡ []
    go [] = refl
    go (x ∷ l) = refl

-- questions 6 and 7 are answered yes
pub operator_found : (atoms i : ℕ) (b : List ℕ) (o : Operator) → read_operator atoms i b ≡ finding o → operator_of b ≡ some o
unfolding read_operator refuse ask_at ◌>>=◌
operator_found atoms i b o e = go (operator_of b) refl
  where
    go : (q : Option Operator) → operator_of b ≡ q → operator_of b ≡ some o
    go none h = absurd (let z : ◌≡◌ {A = ℕ} 0 1 = cc (rw (h, read_operator) at e) in omega arith)
    go (some p) h = h ∙ ap some (at_7 (operator_right atoms p) (rw (h, read_operator) at e))
      where
        at_7 : (t : Bool) → (ask_at 7 i t >>= λ _. finding p) ≡ finding o → p ≡ o
        at_7 true f = cc
        at_7 false f = absurd (let z : ◌≡◌ {A = ℕ} 0 1 = cc in omega arith)
