-- Question 24, number by number. Assumes nothing.
use mathlib.Core.Bool.{Bool, true, false, ◌&&◌, cond, false≢true}
use mathlib.Core.Logic.{◌⊎◌, inl, inr}
use mathlib.Core.Path.{◌≡◌, refl, sym, ◌∙◌, ap}
use mathlib.Core.List.{List}
use Rattle.std.proofs.Common.{Option, Some, None}
use Prim.Native.Nat.{ℕ, ◌+◌, ◌≤◌, ◌<◌, min}
use native.Mathlib.Omega.{arith}
use lib.Dec.{eqb, leb}
use lib.ListN.{length, get_or, take, drop, get_or-eq_default}
use lib.Seq.{drop-drop}
use borrow.Author.Tests.{leb-true, leb-false, le-leb, lt-leb, eqb-true, eqb-false, eq-eqb, ne_eqb}
use Rattle.definitions.specs.Lists.{compare_words, is_same}
use Rattle.definitions.specs.Literal.{most_atoms}
use Rattle.definitions.specs.Dimacs.{head_bytes, behind_comments, blank, tokens, words_in, is_dimacs, number_in, is_zero}
use Rattle.definitions.proofs.ListLaws.{decide}
use Rattle.definitions.proofs.PlaceLaws.{same_words}
use Rattle.definitions.proofs.OrderLaws.{same_self}
use Rattle.std.specs.Bool.{Decides, then_some}
use Rattle.std.specs.Cmp.Lexicographic.{pointwise}
use Rattle.std.proofs.lemmas.Bool.Decides.{Decides-eqb}
use Rattle.std.proofs.lemmas.Slice.Eq.{slice_eq-Decides}
use Rattle.dimacs_form.proofs.PlaceLaws.{over_at}
use Rattle.dimacs_form.specs.Walk.{headed_bytes, tail_from, count_first, words_say}
use Rattle.dimacs_form.proofs.Walk.{form_walk}
use Rattle.dimacs_form.specs.Places.{Skipped}
use Rattle.dimacs_form.specs.Numbers.{most_size, OtherAt, NumberAt}
use Rattle.dimacs_form.specs.Form.{plain_of, CountAt, Counts, Says, Formed}
use Rattle.dimacs_form.specs.declared.number.Number.{Number}

no_more : (b : Bool) → (b && false) ≡ false
no_more true = refl
no_more false = refl

-- ---- the header
module _ (bytes : List ℕ) where
  pub short_head : length bytes < 6 → headed_bytes bytes ≡ false
  unfolding headed_bytes blank
  short_head h = rw (get_or-eq_default bytes 0 {n = 5} (omega arith)) (no_more (is_same (compare_words (take 5 bytes) head_bytes)))

  pub not_headed : is_same (compare_words (take 5 bytes) head_bytes) ≡ false → headed_bytes bytes ≡ false
  unfolding headed_bytes
  not_headed h = rw h

  pub headed_blank : is_same (compare_words (take 5 bytes) head_bytes) ≡ true → headed_bytes bytes ≡ blank (get_or bytes 5 0)
  unfolding headed_bytes
  headed_blank h = rw h

  pub headed_long : headed_bytes bytes ≡ true → 6 ≤ length bytes
  headed_long h = go (decide (leb 6 (length bytes)))
    where
      go : (leb 6 (length bytes) ≡ true) ⊎ (leb 6 (length bytes) ≡ false) → 6 ≤ length bytes
      go (inl x) = leb-true 6 (length bytes) x
      go (inr x) = absurd (false≢true (sym (short_head (leb-false 6 (length bytes) x)) ∙ h))

-- words that are equal one by one, and the same words
pub same_pairwise : (xs ys : List ℕ) {r : Bool} → r ≡ pointwise eqb ys xs → r ≡ is_same (compare_words xs ys)
same_pairwise xs ys {r} h = go (decide r) (decide (is_same (compare_words xs ys)))
  where
    same : Decides r (ys ≡ xs)
    same = slice_eq-Decides Decides-eqb ys xs r h

    go :
        (r ≡ true) ⊎ (r ≡ false) → (is_same (compare_words xs ys) ≡ true) ⊎ (is_same (compare_words xs ys) ≡ false)
        → r ≡ is_same (compare_words xs ys)
    go (inl a) (inl b) = a ∙ sym b
    go (inl a) (inr b) = absurd (false≢true (sym b ∙ ap (λ z. is_same (compare_words xs z)) (same.0 a) ∙ same_self xs))
    go (inr a) (inl b) = absurd (false≢true (sym a ∙ same.1 (sym (same_words xs ys b))))
    go (inr a) (inr b) = a ∙ sym b

-- ---- sizes held at the greatest one
held_same : (v n k : ℕ) → v ≡ min most_size n → k < most_size → eqb v k ≡ eqb n k
held_same v n k e h = go (decide (eqb n k))
  where
    go : (eqb n k ≡ true) ⊎ (eqb n k ≡ false) → eqb v k ≡ eqb n k
    go (inl x) = let y = eqb-true n k x in rw x (eq-eqb v k (omega arith))
    go (inr x) = let y = eqb-false n k x in rw x (ne_eqb v k (λ z. absurd (omega arith)))

-- ---- numbers at places
module _ (text : List ℕ) (at : ℕ) where
  pub none_counts : length text ≤ at → Counts text at None
  unfolding count_first
  none_counts h = λ p. ap (count_first p) (over_at text at h)

  pub other_counts : OtherAt text at → Counts text at None
  unfolding count_first
  other_counts o = λ p. ap (count_first p) o.here ∙ rw o.other

  pub number_counts : (n : Number) → NumberAt text at n → Counts text at (plain_of n)
  unfolding count_first plain_of
  number_counts n x = go n.minus x.number.sign
    where
      go :
          (b : Bool) → (number_in x.word).negative ≡ b
          → Counts text at (elim b [ true ↦ None | false ↦ Some (record { size = n.size; next = n.next }) ])
      go true e = λ p. ap (count_first p) x.here ∙ rw (x.number.is, e)
      go false e =
          record {
            number = (number_in x.word).size;
            held = x.number.size;
            here = λ p. ap (count_first p) x.here ∙ rw (x.number.is, e);
            behind = sym (ap (drop 1) x.here);
            place = x.place;
            later = x.later;
          }

  -- the words of clauses
  module _ (N k c : ℕ) (e : Bool) where
    pub tail_over : length text ≤ at → tail_from N k c e (tokens (drop at text)) ≡ (eqb k c && e)
    unfolding tail_from
    tail_over h = ap (tail_from N k c e) (over_at text at h)

    pub tail_other : OtherAt text at → tail_from N k c e (tokens (drop at text)) ≡ false
    unfolding tail_from
    tail_other o = ap (tail_from N k c e) o.here ∙ rw o.other

    pub tail_above : (n : Number) → NumberAt text at n → N < n.size → tail_from N k c e (tokens (drop at text)) ≡ false
    unfolding tail_from
    tail_above n x h =
        let v = (number_in x.word).size in
        ap (tail_from N k c e) x.here
        ∙ rw (x.number.is, lt-leb v N (let s = x.number.size in omega arith))

    pub tail_next :
        (n : Number) → NumberAt text at n → N ≤ most_atoms → n.size ≤ N
        → tail_from N k c e (tokens (drop at text)) ≡ tail_from N k (cond (eqb n.size 0) (c + 1) c) (eqb n.size 0) (tokens (drop n.next text))
    unfolding tail_from is_zero
    tail_next n x few h =
        let v = (number_in x.word).size in
        ap (tail_from N k c e) x.here
        ∙ rw (x.number.is, le-leb v N (let s = x.number.size in omega arith))
        (go (eqb v 0) (eqb n.size 0) (sym (held_same n.size v 0 x.number.size (omega arith))))
      where
        ws : List (List ℕ)
        ws = tokens (drop n.next text)

        go :
            (y z : Bool) → y ≡ z
            → elim y [ true ↦ tail_from N k (c + 1) true ws | false ↦ tail_from N k c false ws ] ≡ tail_from N k (cond z (c + 1) c) z ws
        go true z h = rw (← h)
        go false z h = rw (← h)

-- a count that was held, compared with the number of clauses
pub held_count : (count k c : ℕ) → count ≡ min most_size k → c < most_size → eqb count c ≡ eqb k c
held_count count k c e h = held_same count k c e h

pub one_most : (z : Bool) (c : ℕ) → cond z (c + 1) c ≤ c + 1
one_most true c = omega arith
one_most false c = omega arith

-- ---- N, the number of clauses, and these
module _ (N : ℕ) (text : List ℕ) (at : ℕ) where
  pub says_missing : Counts text at None → Says N text at None
  unfolding words_say
  says_missing h = h _

  module _ (v next : ℕ) (first : CountAt text at v next) where
    pub says_another : N ≤ most_atoms → (v ≡ N → ⊥) → Says N text at None
    unfolding words_say
    says_another few h =
        first.here _
        ∙ rw (ne_eqb first.number N (λ e. h (let k = first.held in omega arith)))

    same_n : N ≤ most_atoms → v ≡ N → eqb first.number N ≡ true
    same_n few h = eq-eqb first.number N (let k = first.held in omega arith)

    pub says_none : N ≤ most_atoms → v ≡ N → Counts text next None → Says N text at None
    unfolding words_say
    says_none few h c = first.here _ ∙ rw (same_n few h) (c _)

    module _ (count from : ℕ) (second : CountAt text next count from) where
      says : N ≤ most_atoms → v ≡ N → words_say N (tokens (drop at text)) ≡ tail_from N second.number 0 true (tokens (drop from text))
      unfolding words_say
      says few h = first.here _ ∙ rw (same_n few h) (second.here _)

      -- by whether what follows is right
      pub says_judged :
          N ≤ most_atoms → v ≡ N → (r : Bool) → ((k : ℕ) → count ≡ min most_size k → r ≡ tail_from N k 0 true (tokens (drop from text)))
          → Says N text at (then_some r from)
      says_judged few h false t = says few h ∙ sym (t second.number second.held)
      says_judged few h true t =
          record {
            says = says few h ∙ sym (t second.number second.held);
            behind = second.behind ∙ ap (drop 1) first.behind ∙ drop-drop 1 1 (tokens (drop at text));
            place = second.place;
          }

-- ---- the text
module _ (N start : ℕ) (text : List ℕ) (is : drop start text ≡ behind_comments text) where
  pub form_other : headed_bytes (drop start text) ≡ false → Formed N text None
  form_other h = form_walk N text ∙ rw (← is, h)

  module _ (at : ℕ) (h : headed_bytes (drop start text) ≡ true) (s : Skipped text (start + 5) at) where
    skipped : tokens (drop 5 (behind_comments text)) ≡ tokens (drop at text)
    skipped = ap (λ z. tokens (drop 5 z)) (sym is) ∙ ap tokens (drop-drop 5 start text) ∙ s.same

    form_is : is_dimacs N text ≡ words_say N (tokens (drop at text))
    form_is = form_walk N text ∙ rw (← is, h) (ap (λ z. words_say N (tokens z)) (drop-drop 5 start text) ∙ ap (words_say N) s.same)

    pub form_says : (r : Option ℕ) → Says N text at r → Formed N text r
    unfolding words_in
    form_says None x = form_is ∙ x
    form_says (Some from) x =
        record { form = form_is ∙ x.says; clauses = x.behind ∙ ap (drop 2) (sym skipped); place = x.place }
