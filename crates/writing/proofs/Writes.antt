-- Laws of writing word after word, and part after part. Assumes nothing.
use mathlib.Core.Path.{◌≡◌, refl, sym, ◌∙◌, ap}
use mathlib.Core.List.{List, [], ◌∷◌, ◌++◌, append-nil}
use Prim.Native.Nat.{ℕ, suc, ◌+◌, ◌≤◌, ◌<◌}
use native.Mathlib.Numerals.{add-one}
use native.Mathlib.Omega.{arith}
use lib.ListN.{length, set, take, drop, length-append, length-set, drop_of_length-le}
use lib.Seq.{sets, length-sets, sets-eq, paste, take_all, take-append_seam}
use Rattle.writing.specs.Writing.{Wrote, Writing}

-- words after words
pub sets_append : (t : List ℕ) (at : ℕ) (xs ys : List ℕ) → sets t at (xs ++ ys) ≡ sets (sets t at xs) (at + length xs) ys
sets_append t at [] ys = let e : at + 0 ≡ at = omega arith in rw e
sets_append t at (x ∷ xs) ys =
    let e : at + suc (length xs) ≡ suc at + length xs = omega arith in
    rw e (sets_append (set t at x) (suc at) xs ys)

-- ---- what is written, and its place
-- the items are copied one by one, from their first to their last
pub copied_wrote :
    {A : Type 0} (t items : List A) (at n : ℕ) → n ≡ length items → at + length items ≤ length t
    → Wrote t at items (paste t at items n) (at + length items)
copied_wrote t items at n e room =
    record {
      target = rw (e, take_all (length items) items (omega arith)) (sym (sets-eq items t at room));
      next = refl;
    }

module _ {t : List ℕ} {at : ℕ} {words new : List ℕ} {end : ℕ} where
  pub wrote_size : Wrote t at words new end → length new ≡ length t
  wrote_size w = ap length w.target ∙ length-sets t at words

  -- the same words, said otherwise
  pub wrote_same : {said : List ℕ} → said ≡ words → Wrote t at words new end → Wrote t at said new end
  wrote_same e w = rw e w

  -- between what stood before and after them
  pub wrote_between : at + length words ≤ length t → Wrote t at words new end → new ≡ take at t ++ words ++ drop (at + length words) t
  wrote_between room w = w.target ∙ sets-eq words t at room

module _ {t words new : List ℕ} {end : ℕ} where
  -- all words of the target's front
  pub wrote_front : length words ≤ length t → Wrote t 0 words new end → new ≡ words ++ drop (length words) t
  wrote_front room w =
      let e : 0 + length words ≡ length words = omega arith in
      w.target ∙ sets-eq words t 0 (omega arith) ∙ rw e

  -- what was written is the part up to its end
  pub wrote_taken : length words ≤ length t → Wrote t 0 words new end → take end new ≡ words
  wrote_taken room w =
      let e : end ≡ length words = (let n = w.next in omega arith) in
      rw (e, wrote_front room w) (take-append_seam words (drop (length words) t))

  -- all words of the target
  pub wrote_all : length words ≡ length t → Wrote t 0 words new end → new ≡ words
  wrote_all same w =
      wrote_front (omega arith) w ∙ rw (drop_of_length-le t {i = length words} (omega arith)) (append-nil words)

-- ---- one part after the other
pub wrote_nothing : {t : List ℕ} {at : ℕ} {words : List ℕ} → words ≡ [] → Wrote t at words t at
wrote_nothing {words = words} e = record { target = rw e; next = (let h : length words ≡ 0 = rw e in omega arith) }

-- three words, and those after them
pub wrote_three :
    {t : List ℕ} {at x y z : ℕ} {ws new : List ℕ} {end : ℕ}
    → Wrote (set (set (set t at x) (at + 1) y) (at + 2) z) (at + 3) ws new end → Wrote t at (x ∷ y ∷ z ∷ ws) new end
wrote_three {at = at} w =
    let a : at + 1 ≡ suc at = omega arith in
    let b : at + 2 ≡ suc (suc at) = omega arith in
    let c : at + 3 ≡ suc (suc (suc at)) = omega arith in
    record { target = w.target ∙ rw (a, b, c); next = (let n = w.next in omega arith) }

pub wrote_pair : (t : List ℕ) (at x y : ℕ) → Wrote t at (x ∷ y ∷ []) (set (set t at x) (at + 1) y) (at + 2)
wrote_pair t at x y = record { target = rw add-one; next = refl }

module _ {t : List ℕ} {at : ℕ} where
  pub wrote_word : {x : ℕ} {ws new : List ℕ} {end : ℕ} → Wrote (set t at x) (at + 1) ws new end → Wrote t at (x ∷ ws) new end
  wrote_word w = record { target = rw add-one at w.target; next = (let n = w.next in omega arith) }

  pub wrote_both :
      {xs ys mid new : List ℕ} {to end : ℕ} → Wrote t at xs mid to → Wrote mid to ys new end
      → Wrote t at (xs ++ ys) new end
  wrote_both {xs = xs} {ys = ys} v w =
      record {
        target = w.target ∙ rw (v.target, v.next) (sym (sets_append t at xs ys));
        next = (let a = v.next in let b = w.next in let c = length-append xs ys in omega arith);
      }

-- words that are two parts, for which there is room
module _ (words a b t : List ℕ) (at : ℕ) (parts : words ≡ a ++ b) (room : at + length words ≤ length t) where
  pub first_room : at + length a ≤ length t
  first_room = let e = ap length parts in let p = length-append a b in omega arith

  pub next_room : {mid : List ℕ} {to : ℕ} → Wrote t at a mid to → to + length b ≤ length mid
  next_room w =
      let e = ap length parts in
      let p = length-append a b in
      let n = w.next in
      let s = wrote_size w in
      omega arith

-- ---- what is left to be written
module _ {t : List ℕ} {at : ℕ} {words : List ℕ} where
  pub write_start : Writing t at words t at words
  write_start = record { target = refl; place = refl; size = refl }

module _ {t : List ℕ} {start : ℕ} {words now' : List ℕ} {at : ℕ} where
  -- the same words left, said otherwise
  pub write_same : {left said : List ℕ} → left ≡ said → Writing t start words now' at left → Writing t start words now' at said
  write_same e w = rw (← e) w

  pub write_word : {x : ℕ} {left : List ℕ} → Writing t start words now' at (x ∷ left) → Writing t start words (set now' at x) (at + 1) left
  write_word w =
      record {
        target = w.target ∙ rw add-one;
        place = (let p = w.place in omega arith);
        size = simp length-set w.size;
      }

  pub write_part :
      {part left after : List ℕ} {end : ℕ} → Writing t start words now' at (part ++ left) → Wrote now' at part after end
      → Writing t start words after end left
  write_part {part = part} {left = left} w e =
      record {
        target = w.target ∙ rw (e.target, e.next) (sets_append now' at part left);
        place = (let p = w.place in let q = length-append part left in let n = e.next in omega arith);
        size = wrote_size e ∙ w.size;
      }

  pub write_end : Writing t start words now' at [] → Wrote t start words now' at
  write_end w = record { target = sym w.target; next = (let p = w.place in omega arith) }

  -- what is left finds room, and so does its first word or part
  pub write_room : {left : List ℕ} → Writing t start words now' at left → start + length words ≤ length t → at + length left ≤ length now'
  write_room w room = let p = w.place in let s = w.size in omega arith

  pub word_room : {x : ℕ} {left : List ℕ} → Writing t start words now' at (x ∷ left) → start + length words ≤ length t → at < length now'
  word_room w room = let r = write_room w room in omega arith

  pub part_room :
      (part left : List ℕ) → Writing t start words now' at (part ++ left) → start + length words ≤ length t
      → at + length part ≤ length now'
  part_room part left w room =
      let r = write_room w room in
      let p = length-append part left in
      omega arith

module _ {t : List ℕ} {start : ℕ} {words now' : List ℕ} {at : ℕ} where
  pub write_two :
      {x y : ℕ} {left : List ℕ} → Writing t start words now' at (x ∷ y ∷ left)
      → Writing t start words (set (set now' at x) (at + 1) y) (at + 2) left
  write_two w = let e : at + 2 ≡ at + 1 + 1 = omega arith in rw e (write_word (write_word w))

  pub write_last :
      {part after : List ℕ} {end : ℕ} → Writing t start words now' at part → Wrote now' at part after end → Wrote t start words after end
  write_last {part = part} w e = write_end (write_part (write_same (sym (append-nil part)) w) e)
