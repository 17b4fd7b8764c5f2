-- Question 24 is what the walk asks word by word. Assumes nothing.
use mathlib.Core.Bool.{Bool, true, false, not, ◌&&◌}
use mathlib.Core.Path.{◌≡◌, refl, ◌∙◌, ap}
use mathlib.Core.List.{List, [], ◌∷◌, map}
use Prim.Native.Nat.{ℕ, suc, ◌+◌}
use native.Mathlib.Nat.{add-zero}
use native.Mathlib.Omega.{arith}
use lib.Dec.{eqb, leb}
use lib.ListN.{length, drop}
use Rattle.definitions.specs.Lists.{all, empty}
use Rattle.definitions.specs.Dimacs.{onto_first, split, ended, all_ended, behind_comments, tokens}
use Rattle.definitions.specs.Dimacs.{is_number, is_zero}
use Rattle.definitions.specs.Dimacs.{headed, number_in, words_in, numbers_in, is_the, says_clauses, is_dimacs}
use Rattle.definitions.proofs.DimacsLaws.{split_some}
use Rattle.dimacs_form.specs.Walk.{counted, last_marked, tail_from, count_first, words_say, headed_bytes}

-- ---- numbers one by one
module _ {A : Type 0} (mark : A → Bool) where
  -- as many parts are ended as there are marks
  pub ended_count : (xs : List A) → length (ended (split mark xs)) ≡ counted mark xs
  unfolding split ended onto_first counted
  ended_count [] = refl
  ended_count (x ∷ xs) = go (mark x) refl (ended_count xs)
    where
      onto : (ps : List (List A)) → length (ended (onto_first x ps)) ≡ length (ended ps)
      onto [] = refl
      onto (p ∷ []) = refl
      onto (p ∷ (q ∷ ps)) = refl

      first : length (ended ([] ∷ split mark xs)) ≡ suc (length (ended (split mark xs)))
      first = let r = split_some mark xs in rw r.2

      go : (b : Bool) → mark x ≡ b → length (ended (split mark xs)) ≡ counted mark xs → length (ended (split mark (x ∷ xs))) ≡ counted mark (x ∷ xs)
      go true e h = rw (e, split, counted) (first ∙ ap suc h)
      go false e h = rw (e, split, counted) (onto (split mark xs) ∙ h)

  -- nothing stands behind the last mark exactly if the last is one
  ends_step :
      (x : A) (xs : List A)
      → (all_ended (split mark xs) ≡ last_marked mark true xs) × ((y : A) → all_ended (onto_first y (split mark xs)) ≡ last_marked mark false xs)
      → (all_ended (split mark (x ∷ xs)) ≡ last_marked mark (mark x) xs)
      × ((y : A) → all_ended (onto_first y (split mark (x ∷ xs))) ≡ last_marked mark (mark x) xs)
  unfolding split all_ended onto_first last_marked empty
  ends_step x xs rest = (go (mark x) refl, λ y. after y (mark x) refl)
    where
      later : (p : List A) → all_ended (p ∷ split mark xs) ≡ all_ended (split mark xs)
      later p = let r = split_some mark xs in rw r.2

      twice : (y : A) (ps : List (List A)) → all_ended (onto_first y (onto_first x ps)) ≡ all_ended (onto_first x ps)
      twice y [] = refl
      twice y (p ∷ []) = refl
      twice y (p ∷ (q ∷ ps)) = refl

      go : (b : Bool) → mark x ≡ b → all_ended (split mark (x ∷ xs)) ≡ last_marked mark (mark x) xs
      go true e = rw (e, split) (later [] ∙ rest.0)
      go false e = rw (e, split) (rest.1 x)

      after : (y : A) (b : Bool) → mark x ≡ b → all_ended (onto_first y (split mark (x ∷ xs))) ≡ last_marked mark (mark x) xs
      after y true e = rw (e, split) (later (y ∷ []) ∙ rest.0)
      after y false e = rw (e, split) (twice y (split mark xs) ∙ rest.1 x)

  both_ends :
      (xs : List A) → (all_ended (split mark xs) ≡ last_marked mark true xs) × ((y : A) → all_ended (onto_first y (split mark xs)) ≡ last_marked mark false xs)
  unfolding split all_ended onto_first last_marked empty
  both_ends [] = (refl, λ y. refl)
  both_ends (x ∷ xs) = ends_step x xs (both_ends xs)

  pub all_ended_last : (xs : List A) → all_ended (split mark xs) ≡ last_marked mark true xs
  all_ended_last xs = (both_ends xs).0

-- ---- question 24 word by word
-- the same, question by question
abbrev each_asked : ℕ → ℕ → ℕ → Bool → List (List ℕ) → Bool
each_asked N k c e ws =
    all is_number ws
    && (eqb k (c + counted is_zero (map number_in ws)) && last_marked is_zero e (map number_in ws) && all (λ x. leb x.size N) (map number_in ws))

regroup : (a b p q r s : Bool) → ((a && b) && (p && q && (r && s))) ≡ (a && r && (b && (p && q && s)))
regroup true b p q true s = refl
regroup false b p q true s = refl
regroup true true true true false s = refl
regroup true true true false false s = refl
regroup true true false q false s = refl
regroup true false p q false s = refl
regroup false b p q false s = refl

tail_asked : (N k : ℕ) (ws : List (List ℕ)) (c : ℕ) (e : Bool) → each_asked N k c e ws ≡ tail_from N k c e ws
unfolding tail_from counted last_marked all
tail_asked N k [] c e = rw (add-zero c) (table (eqb k c) e)
  where
    table : (x y : Bool) → (x && y && true) ≡ (x && y)
    table true true = refl
    table true false = refl
    table false y = refl
tail_asked N k (w ∷ ws) c e = go (is_zero (number_in w)) refl (tail_asked N k ws (c + 1) true) (tail_asked N k ws c false)
  where
    n : ℕ
    n = counted is_zero (map number_in ws)

    small : Bool
    small = all (λ x. leb x.size N) (map number_in ws)

    last : Bool
    last = last_marked is_zero (is_zero (number_in w)) (map number_in ws)

    one : c + suc n ≡ c + 1 + n
    one = omega arith

    step :
        (m : ℕ) (f g : Bool) → (all is_number ws && (eqb k m && f && small)) ≡ g
        → ((is_number w && all is_number ws) && (eqb k m && f && (leb (number_in w).size N && small))) ≡ (is_number w && leb (number_in w).size N && g)
    step m f g h =
        regroup (is_number w) (all is_number ws) (eqb k m) f (leb (number_in w).size N) small
        ∙ ap (λ z. is_number w && leb (number_in w).size N && z) h

    go :
        (z : Bool) → is_zero (number_in w) ≡ z → each_asked N k (c + 1) true ws ≡ tail_from N k (c + 1) true ws
        → each_asked N k c false ws ≡ tail_from N k c false ws → each_asked N k c e (w ∷ ws) ≡ tail_from N k c e (w ∷ ws)
    go true h a b =
        rw (h, counted, tail_from)
        (ap (λ m. (is_number w && all is_number ws) && (eqb k m && last && (leb (number_in w).size N && small))) one
        ∙ step (c + 1 + n) last (tail_from N k (c + 1) true ws)
        (ap (λ z. all is_number ws && (eqb k (c + 1 + n) && last_marked is_zero z (map number_in ws) && small)) h ∙ a))
    go false h a b =
        rw (h, counted, tail_from)
        (step (c + n) last (tail_from N k c false ws) (ap (λ z. all is_number ws
        && (eqb k (c + n) && last_marked is_zero z (map number_in ws) && small)) h ∙ b))

-- question 24 of the words behind "p cnf"
pub words_say_lem : (N : ℕ) (T : List (List ℕ)) → (all is_number T && says_clauses N (map number_in T)) ≡ words_say N T
unfolding says_clauses words_say count_first is_the all
words_say_lem N [] = refl
words_say_lem N (w ∷ []) = table (is_number w) (not (number_in w).negative) (eqb (number_in w).size N)
  where
    table : (x y z : Bool) → (x && true && false) ≡ (x && (y && (z && false)))
    table true true true = refl
    table true true false = refl
    table true false z = refl
    table false y z = refl
words_say_lem N (w ∷ (v ∷ ws)) =
    rw (ended_count is_zero (map number_in ws), all_ended_last is_zero (map number_in ws))
    (table (is_number w) (is_number v) (all is_number ws) (not (number_in w).negative) (eqb (number_in w).size N) (not (number_in v).negative)
    (eqb (number_in v).size n) ends small
    ∙ ap
    (λ z.
    is_number w && (not (number_in w).negative && (eqb (number_in w).size N && (is_number v && (not (number_in v).negative && z)))))
    tail)
  where
    n : ℕ
    n = counted is_zero (map number_in ws)

    ends : Bool
    ends = last_marked is_zero true (map number_in ws)

    small : Bool
    small = all (λ x. leb x.size N) (map number_in ws)

    tail : (all is_number ws && (eqb (number_in v).size n && ends && small)) ≡ tail_from N (number_in v).size 0 true ws
    tail = ap (λ m. all is_number ws && (eqb (number_in v).size m && ends && small)) none ∙ tail_asked N (number_in v).size ws 0 true
      where
        none : n ≡ 0 + n
        none = omega arith

    table :
        (a b c d e f g h i : Bool)
        → ((a && (b && c)) && ((d && e) && (f && g) && h && i)) ≡ (a && (d && (e && (b && (f && (c && (g && h && i)))))))
    table false b c d e f g h i = refl
    table true false c false e f g h i = refl
    table true false c true false f g h i = refl
    table true false c true true f g h i = refl
    table true true false false e f g h i = refl
    table true true false true false f g h i = refl
    table true true false true true false g h i = refl
    table true true false true true true g h i = refl
    table true true true false e f g h i = refl
    table true true true true false f g h i = refl
    table true true true true true false g h i = refl
    table true true true true true true g h i = refl

-- ---- question 24 as a whole
pub form_walk : (N : ℕ) (text : List ℕ) → is_dimacs N text ≡ (headed_bytes (behind_comments text) && words_say N (tokens (drop 5 (behind_comments text))))
unfolding is_dimacs headed headed_bytes numbers_in words_in
form_walk N text =
    assoc (headed_bytes (behind_comments text)) (all is_number (words_in text)) (says_clauses N (map number_in (words_in text)))
    ∙ ap (λ z. headed_bytes (behind_comments text) && z) (words_say_lem N (words_in text))
  where
    assoc : (x y z : Bool) → (x && y && z) ≡ (x && (y && z))
    assoc true y z = refl
    assoc false y z = refl
