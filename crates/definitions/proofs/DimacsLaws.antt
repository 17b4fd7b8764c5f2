-- What one more byte, word or number does to the parts of a text: the laws that a walk over it needs. Assumes nothing.
use mathlib.Core.Bool.{Bool, true, false, not}
use mathlib.Core.Path.{◌≡◌, refl, ◌∙◌, ap}
use mathlib.Core.List.{List, [], ◌∷◌, ◌++◌, append_assoc, Memᴰ}
use Prim.Native.Nat.{ℕ}
use borrow.Author.Tests.{not-true}
use Rattle.definitions.specs.Lists.{all, keep, empty, each}
use Rattle.definitions.specs.Text.{line}
use Rattle.definitions.specs.Dimacs.{onto_first, split, ended, all_ended, blank, tokens}
use Rattle.definitions.proofs.ListLaws.{and_left, and_right, and_both}
use Rattle.definitions.proofs.DimacsNumbers.{Word}

-- ---- parts between marks
module _ {A : Type 0} (mark : A → Bool) where
  -- a part that a mark ends
  pub split_mark :
      (p : List A) (x : A) (xs : List A) → all (λ y. not (mark y)) p ≡ true → mark x ≡ true
      → split mark (p ++ (x ∷ xs)) ≡ p ∷ split mark xs
  unfolding split onto_first all
  split_mark [] x xs h e = rw (e, split)
  split_mark (y ∷ p) x xs h e =
      rw (not-true (mark y) (and_left (not (mark y)) (all (λ y. not (mark y)) p) h), split)
      (ap (onto_first y) (split_mark p x xs (and_right (not (mark y)) (all (λ y. not (mark y)) p) h) e))

  -- a part that none ends
  pub split_end : (p : List A) → all (λ y. not (mark y)) p ≡ true → split mark p ≡ p ∷ []
  unfolding split onto_first all
  split_end [] h = refl
  split_end (y ∷ p) h =
      rw (not-true (mark y) (and_left (not (mark y)) (all (λ y. not (mark y)) p) h), split)
      (ap (onto_first y) (split_end p (and_right (not (mark y)) (all (λ y. not (mark y)) p) h)))

  -- there is a part
  pub split_some : (xs : List A) → (p : List A) × (ps : List (List A)) × (split mark xs ≡ p ∷ ps)
  unfolding split onto_first
  split_some [] = ([], [], refl)
  split_some (x ∷ xs) = go (mark x) refl (split_some xs)
    where
      go :
          (b : Bool) → mark x ≡ b → (p : List A) × (ps : List (List A)) × (split mark xs ≡ p ∷ ps)
          → (p : List A) × (ps : List (List A)) × (split mark (x ∷ xs) ≡ p ∷ ps)
      go true e r = ([], split mark xs, rw (e, split))
      go false e r = (x ∷ r.0, r.1, rw (e, split) (ap (onto_first x) r.2))

  -- the parts ended, one more of them
  pub ended_next :
      (p : List A) (x : A) (xs : List A) → all (λ y. not (mark y)) p ≡ true → mark x ≡ true
      → ended (split mark (p ++ (x ∷ xs))) ≡ p ∷ ended (split mark xs)
  unfolding ended
  ended_next p x xs h e = let r = split_some xs in rw (split_mark p x xs h e, r.2)

  pub all_ended_next :
      (p : List A) (x : A) (xs : List A) → all (λ y. not (mark y)) p ≡ true → mark x ≡ true
      → all_ended (split mark (p ++ (x ∷ xs))) ≡ all_ended (split mark xs)
  unfolding all_ended
  all_ended_next p x xs h e = let r = split_some xs in rw (split_mark p x xs h e, r.2)

  pub ended_end : (p : List A) → all (λ y. not (mark y)) p ≡ true → ended (split mark p) ≡ []
  unfolding ended
  ended_end p h = rw (split_end p h)

  -- parts that are written each with its mark
  pub split_each :
      {B : Type 0} (f : B → List A) (x : A) (C : List B) → ((c : B) → Memᴰ c C → all (λ y. not (mark y)) (f c) ≡ true)
      → mark x ≡ true
      → ended (split mark (each (λ c. f c ++ (x ∷ [])) C)) ≡ each (λ c. f c ∷ []) C
  unfolding each split ended
  split_each f x [] h e = refl
  split_each f x (c ∷ C) h e =
      rw append_assoc
      (ended_next (f c) x (each (λ c. f c ++ (x ∷ [])) C) (h c (Memᴰ.head refl)) e
      ∙ ap (λ z. f c ∷ z) (split_each f x C (λ d m. h d (Memᴰ.tail m)) e))

  pub split_each_ends :
      {B : Type 0} (f : B → List A) (x : A) (C : List B) → ((c : B) → Memᴰ c C → all (λ y. not (mark y)) (f c) ≡ true)
      → mark x ≡ true
      → all_ended (split mark (each (λ c. f c ++ (x ∷ [])) C)) ≡ true
  unfolding each split all_ended empty
  split_each_ends f x [] h e = refl
  split_each_ends f x (c ∷ C) h e =
      rw append_assoc
      (all_ended_next (f c) x (each (λ c. f c ++ (x ∷ [])) C) (h c (Memᴰ.head refl)) e
      ∙ split_each_ends f x C (λ d m. h d (Memᴰ.tail m)) e)

  -- what holds of every element that is no mark holds in every part
  pub split_all :
      (r : A → Bool) (xs : List A) → ((x : A) → Memᴰ x xs → mark x ≡ false → r x ≡ true) → all (all r) (split mark xs) ≡ true
  unfolding split onto_first all
  split_all r [] h = refl
  split_all r (x ∷ xs) h = go (mark x) refl (split_all r xs (λ y m. h y (Memᴰ.tail m)))
    where
      onto : (ps : List (List A)) → r x ≡ true → all (all r) ps ≡ true → all (all r) (onto_first x ps) ≡ true
      onto [] e k = and_both (and_both e refl) refl
      onto (p ∷ ps) e k = and_both (and_both e (and_left (all r p) (all (all r) ps) k)) (and_right (all r p) (all (all r) ps) k)

      go : (b : Bool) → mark x ≡ b → all (all r) (split mark xs) ≡ true → all (all r) (split mark (x ∷ xs)) ≡ true
      go true e k = rw (e, split) k
      go false e k = rw (e, split) (onto (split mark xs) (h x (Memᴰ.head refl) e) k)

pub ended_all : {A : Type 0} (q : List A → Bool) (ps : List (List A)) → all q ps ≡ true → all q (ended ps) ≡ true
unfolding ended all
ended_all q [] h = refl
ended_all q (p ∷ []) h = refl
ended_all q (p ∷ (r ∷ ps)) h = and_both (and_left (q p) (all q (r ∷ ps)) h) (ended_all q (r ∷ ps) (and_right (q p) (all q (r ∷ ps)) h))

-- ---- words between blanks
pub tokens_blank : (b : ℕ) (bs : List ℕ) → blank b ≡ true → tokens (b ∷ bs) ≡ tokens bs
unfolding tokens split keep empty
tokens_blank b bs e = rw (e, split)

pub tokens_word : (w : List ℕ) (b : ℕ) (bs : List ℕ) → Word w → blank b ≡ true → tokens (w ++ (b ∷ bs)) ≡ w ∷ tokens bs
unfolding tokens keep
tokens_word w b bs x e = rw (split_mark blank w b bs x.whole e, keep, x.some, keep)

pub tokens_end : (w : List ℕ) → Word w → tokens w ≡ w ∷ []
unfolding tokens keep
tokens_end w x = rw (split_end blank w x.whole, keep, x.some)

-- fields that are words, and at least one
pub data Fields : List (List ℕ) → Type 0 where
  last : {x : List ℕ} → Word x → Fields (x ∷ [])
  more : {x y : List ℕ} {xs : List (List ℕ)} → Word x → Fields (y ∷ xs) → Fields (x ∷ (y ∷ xs))

-- a line says its fields
pub tokens_line : {xs : List (List ℕ)} → Fields xs → (rest : List ℕ) → tokens (line xs ++ rest) ≡ xs ++ tokens rest
unfolding line blank
tokens_line (last {x = x} w) rest = rw append_assoc (tokens_word x 10 rest w refl)
tokens_line (more {x = x} {y = y} {xs = xs} w f) rest =
    rw append_assoc (tokens_word x 32 (line (y ∷ xs) ++ rest) w refl ∙ ap (λ z. x ∷ z) (tokens_line f rest))

-- lines say their fields, one behind the other
pub tokens_lines :
    {B : Type 0} (f : B → List (List ℕ)) (C : List B) → ((c : B) → Memᴰ c C → Fields (f c))
    → tokens (each (λ c. line (f c)) C) ≡ each f C
unfolding each tokens split keep empty
tokens_lines f [] h = refl
tokens_lines f (c ∷ C) h =
    tokens_line (h c (Memᴰ.head refl)) (each (λ c. line (f c)) C) ∙ ap (λ z. f c ++ z) (tokens_lines f C (λ d m. h d (Memᴰ.tail m)))
