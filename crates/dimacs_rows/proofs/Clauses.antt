-- The clauses of a text, number by number: what a walk over them carries along. Assumes nothing.
use mathlib.Core.Bool.{Bool, true, false, ◌&&◌, false≢true, not}
use mathlib.Core.Path.{◌≡◌, refl, sym, ◌∙◌, ap}
use mathlib.Core.List.{List, [], ◌∷◌, ◌++◌, map, map-append, append-nil, append_assoc}
use Prim.Native.Nat.{ℕ, zero, suc, ◌≤◌, ◌<◌}
use native.Mathlib.Omega.{arith}
use lib.Dec.{eqb, leb}
use lib.ListN.{length, drop}
use borrow.Author.Tests.{eqb-true, leb-true, le-leb}
use Rattle.definitions.specs.Lists.{all}
use Rattle.definitions.specs.Dimacs.{split, ended, all_ended, Number, is_number, number_in, words_in, numbers_in, is_zero, is_the, literal_of}
use Rattle.definitions.specs.Dimacs.{headed, says_clauses, is_dimacs, clauses_in, fits_row}
use Rattle.definitions.proofs.ListLaws.{and_left, and_right, and_both}
use Rattle.definitions.proofs.ListLaws.{all_append}
use Rattle.definitions.proofs.DimacsLaws.{ended_next, ended_end}
use Rattle.dimacs_form.specs.Walk.{last_marked}
use Rattle.dimacs_form.proofs.Walk.{all_ended_last}
use Rattle.dimacs_rows.specs.Clauses.{Left, clauses_from, clauses_said, clauses_on}

-- ---- the clauses of numbers
clauses_from_lem :
    (xs o : List Number) → all (λ x. not (is_zero x)) o ≡ true
    → clauses_from (map literal_of o) xs ≡ map (map literal_of) (ended (split is_zero (o ++ xs)))
unfolding clauses_from all
clauses_from_lem [] o h = sym (ap (λ z. map (map literal_of) (ended (split is_zero z))) (append-nil o) ∙ ap (map (map literal_of)) (ended_end is_zero o h))
clauses_from_lem (x ∷ xs) o h = go (is_zero x) refl (clauses_from_lem xs [] refl) (λ k. clauses_from_lem xs (o ++ (x ∷ [])) k)
  where
    go :
        (b : Bool) → is_zero x ≡ b → clauses_from [] xs ≡ map (map literal_of) (ended (split is_zero xs))
        → (all (λ x. not (is_zero x)) (o ++ (x ∷ [])) ≡ true
        → clauses_from (map literal_of (o ++ (x ∷ []))) xs ≡ map (map literal_of) (ended (split is_zero ((o ++ (x ∷ [])) ++ xs))))
        → clauses_from (map literal_of o) (x ∷ xs) ≡ map (map literal_of) (ended (split is_zero (o ++ (x ∷ xs))))
    go true e next more = rw (e, clauses_from, next) (sym (ap (map (map literal_of)) (ended_next is_zero o x xs h e)))
    go false e next more =
        rw (e, clauses_from)
        (ap (λ z. clauses_from z xs) (sym (map-append literal_of o (x ∷ [])))
        ∙ more (all_append (λ x. not (is_zero x)) o (x ∷ []) ∙ and_both h (and_both (ap not e) refl))
        ∙ ap (λ z. map (map literal_of) (ended (split is_zero z))) (append_assoc o (x ∷ []) xs))

pub clauses_walk : (xs : List Number) → clauses_from [] xs ≡ map (map literal_of) (ended (split is_zero xs))
unfolding all
clauses_walk xs = clauses_from_lem xs [] refl

-- ---- the words of a text of the form
-- one word less
pub left_number : (N : ℕ) (b : Bool) (w : List ℕ) (ws : List (List ℕ)) → Left N b (w ∷ ws) → is_number w ≡ true
unfolding all
left_number N b w ws l = and_left (is_number w) (all is_number ws) l.numbers

pub left_low : (N : ℕ) (b : Bool) (w : List ℕ) (ws : List (List ℕ)) → Left N b (w ∷ ws) → (number_in w).size ≤ N
unfolding all
left_low N b w ws l =
    leb-true (number_in w).size N (and_left (leb (number_in w).size N) (all (λ x. leb x.size N) (map number_in ws)) l.low)

pub left_more : (N : ℕ) (b : Bool) (w : List ℕ) (ws : List (List ℕ)) → Left N b (w ∷ ws) → Left N (is_zero (number_in w)) ws
unfolding all last_marked
left_more N b w ws l =
    record {
      numbers = and_right (is_number w) (all is_number ws) l.numbers;
      low = and_right (leb (number_in w).size N) (all (λ x. leb x.size N) (map number_in ws)) l.low;
      ends = l.ends;
    }

-- numbers that are not above N are not above more
sizes_most : (N M : ℕ) → N ≤ M → (xs : List Number) → all (λ x. leb x.size N) xs ≡ true → all (λ x. leb x.size M) xs ≡ true
unfolding all
sizes_most N M h [] k = refl
sizes_most N M h (x ∷ xs) k =
    let low = leb-true x.size N (and_left (leb x.size N) (all (λ x. leb x.size N) xs) k) in
    and_both (le-leb x.size M (omega arith)) (sizes_most N M h xs (and_right (leb x.size N) (all (λ x. leb x.size N) xs) k))

pub left_most : (N M : ℕ) (b : Bool) → N ≤ M → {ws : List (List ℕ)} → Left N b ws → Left M b ws
left_most N M b h {ws = ws} l = record { numbers = l.numbers; low = sizes_most N M h (map number_in ws) l.low; ends = l.ends }

-- a clause that has begun goes on
pub left_open : (N : ℕ) → Left N false [] → ⊥
unfolding last_marked
left_open N l = false≢true l.ends

-- the words behind N and the number of clauses
says_left :
    (N : ℕ) (T : List (List ℕ)) → all is_number T ≡ true → says_clauses N (map number_in T) ≡ true → Left N true (drop 2 T)
unfolding says_clauses all
says_left N [] h k = absurd (false≢true k)
says_left N (w ∷ []) h k = absurd (false≢true k)
says_left N (w ∷ (v ∷ ws)) h k =
    record {
      numbers = and_right (is_number v) (all is_number ws) (and_right (is_number w) (is_number v && all is_number ws) h);
      low = and_right (counts && ends) small k;
      ends = sym (all_ended_last is_zero xs) ∙ and_right counts ends (and_left (counts && ends) small k);
    }
  where
    xs : List Number
    xs = map number_in ws

    counts : Bool
    counts = is_the N (number_in w) && is_the (length (ended (split is_zero xs))) (number_in v)

    ends : Bool
    ends = all_ended (split is_zero xs)

    small : Bool
    small = all (λ x. leb x.size N) xs

pub form_left : (N : ℕ) (text : List ℕ) → is_dimacs N text ≡ true → Left N true (drop 2 (words_in text))
unfolding is_dimacs numbers_in
form_left N text h =
    let both = and_left (headed text && all is_number (words_in text)) (says_clauses N (map number_in (words_in text))) h in
    says_left N (words_in text) (and_right (headed text) (all is_number (words_in text)) both)
    (and_right (headed text && all is_number (words_in text)) (says_clauses N (map number_in (words_in text))) h)

map_drop : {A B : Type 0} (f : A → B) (n : ℕ) (xs : List A) → map f (drop n xs) ≡ drop n (map f xs)
map_drop f zero xs = refl
map_drop f (suc n) [] = refl
map_drop f (suc n) (x ∷ xs) = map_drop f n xs

pub clauses_said_lem : (text : List ℕ) → clauses_in text ≡ clauses_said (drop 2 (words_in text))
unfolding clauses_in numbers_in clauses_said
clauses_said_lem text =
    sym (clauses_walk (drop 2 (map number_in (words_in text)))) ∙ ap (clauses_from []) (sym (map_drop number_in 2 (words_in text)))

pub none_said : clauses_said [] ≡ []
unfolding clauses_said clauses_from
none_said = refl

-- ---- a clause that has begun
pub begins_said : (ws : List (List ℕ)) → clauses_said ws ≡ clauses_on [] ws
unfolding clauses_said clauses_on
begins_said ws = refl

pub on_zero : (f w : List ℕ) (ws : List (List ℕ)) → (number_in w).size ≡ 0 → clauses_on f (w ∷ ws) ≡ f ∷ clauses_said ws
unfolding clauses_on clauses_said clauses_from is_zero
on_zero f w ws h = rw h

pub on_literal :
    (f w : List ℕ) (ws : List (List ℕ)) → 0 < (number_in w).size → clauses_on f (w ∷ ws) ≡ clauses_on (f ++ (literal_of (number_in w) ∷ [])) ws
unfolding clauses_on clauses_from is_zero
on_literal f w ws h = go (eqb (number_in w).size 0) refl
  where
    xs : List Number
    xs = map number_in ws

    go :
        (b : Bool) → eqb (number_in w).size 0 ≡ b
        → elim b [ true ↦ f ∷ clauses_from [] xs | false ↦ clauses_from (f ++ (literal_of (number_in w) ∷ [])) xs ]
        ≡ clauses_from (f ++ (literal_of (number_in w) ∷ [])) xs
    go true e = let z = eqb-true (number_in w).size 0 e in absurd (omega arith)
    go false e = refl

-- a clause that does not fit whatever follows: question 25 is answered no
pub unfit_on :
    (f : List ℕ) (ws : List (List ℕ)) → ((g : List ℕ) → fits_row (f ++ g) ≡ false) → last_marked is_zero false (map number_in ws) ≡ true
    → all fits_row (clauses_on f ws) ≡ false
unfolding clauses_on clauses_from last_marked all
unfit_on f [] h l = absurd (false≢true l)
unfit_on f (w ∷ ws) h l = go (is_zero (number_in w)) refl (λ k. unfit_on (f ++ (literal_of (number_in w) ∷ [])) ws more k)
  where
    xs : List Number
    xs = map number_in ws

    next : List ℕ
    next = f ++ (literal_of (number_in w) ∷ [])

    more : (g : List ℕ) → fits_row (next ++ g) ≡ false
    more g = ap fits_row (append_assoc f (literal_of (number_in w) ∷ []) g) ∙ h (literal_of (number_in w) ∷ g)

    go :
        (b : Bool) → is_zero (number_in w) ≡ b → (last_marked is_zero false xs ≡ true → all fits_row (clauses_from next xs) ≡ false)
        → all fits_row (elim b [ true ↦ f ∷ clauses_from [] xs | false ↦ clauses_from next xs ]) ≡ false
    go true e rec = rw (sym (ap fits_row (append-nil f)) ∙ h [])
    go false e rec = rec (sym (ap (λ z. last_marked is_zero z xs) e) ∙ l)
