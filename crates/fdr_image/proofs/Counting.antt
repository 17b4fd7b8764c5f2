-- Counting: n numbers below n, no two of them equal, are each number below n exactly once; and conversely. Assumes nothing.
use mathlib.Core.Path.{◌≡◌, refl, sym, ◌∙◌}
use mathlib.Core.List.{List, [], ◌∷◌}
use mathlib.Core.Bool.{Bool, true, false, cond}
use Prim.Native.Nat.{ℕ, zero, suc, ◌+◌, ◌≤◌, ◌<◌}
use native.Mathlib.Omega.{arith}
use lib.Dec.{eqb, ltb}
use lib.ListN.{length, get_or, set, replicate, length-set, length-replicate}
use lib.Seq.{get_or-set_same, get_or-set_other}
use borrow.Author.Tests.{eqb-true, eqb-false, eq-eqb, ne_eqb, ltb-true, ltb-false}
use Rattle.definitions.proofs.ListLaws.{and_left, and_right, and_both}
use Rattle.definitions.proofs.Walks.{zero_at}
use Rattle.fdr_image.specs.Walk.{all_new}

-- how often k stands in a list
unfoldable pub count : ℕ → List ℕ → ℕ
count k [] = 0
count k (x ∷ xs) = cond (eqb x k) 1 0 + count k xs

unfoldable pub sum : (ℕ → ℕ) → ℕ → ℕ
sum f zero = 0
sum f (suc n) = sum f n + f n

unfoldable pub Below : ℕ → List ℕ → Type 0
Below n xs = (i : ℕ) → i < length xs → get_or xs i 0 < n

sum_add : (f g h : ℕ → ℕ) (n : ℕ) → ((k : ℕ) → h k ≡ f k + g k) → sum h n ≡ sum f n + sum g n
unfolding sum
sum_add f g h zero e = refl
sum_add f g h (suc n) e = let r = sum_add f g h n e in let s = e n in omega arith

sum_none : (x n : ℕ) → n ≤ x → sum (λ k. cond (eqb x k) 1 0) n ≡ 0
unfolding sum
sum_none x zero h = refl
sum_none x (suc n) h =
    let e : x ≡ n → ⊥ = omega arith in
    rw (sum_none x n (omega arith), ne_eqb x n e)

sum_one : (x n : ℕ) → x < n → sum (λ k. cond (eqb x k) 1 0) n ≡ 1
unfolding sum
sum_one x zero h = absurd (omega arith)
sum_one x (suc n) h = go (eqb x n) refl (λ l. sum_one x n l)
  where
    go : (b : Bool) → eqb x n ≡ b → (x < n → sum (λ k. cond (eqb x k) 1 0) n ≡ 1) → sum (λ k. cond (eqb x k) 1 0) n + cond (eqb x n) 1 0 ≡ 1
    go true e rec = let z = eqb-true x n e in rw (e, sum_none x n (omega arith))
    go false e rec = let z = eqb-false x n e in rw (e, rec (omega arith))

sum_zero : (f : ℕ → ℕ) (n : ℕ) → ((k : ℕ) → f k ≡ 0) → sum f n ≡ 0
unfolding sum
sum_zero f zero h = refl
sum_zero f (suc n) h = rw (sum_zero f n h, h n)

-- each number of the list is counted once
pub sum_count : (xs : List ℕ) (n : ℕ) → Below n xs → sum (λ k. count k xs) n ≡ length xs
unfolding count Below
sum_count [] n h = sum_zero (λ k. 0) n (λ k. refl)
sum_count (x ∷ xs) n h =
    sum_add (λ k. cond (eqb x k) 1 0) (λ k. count k xs) (λ k. count k (x ∷ xs)) n (λ k. refl)
    ∙ rw (sum_one x n (h 0 (omega arith)), sum_count xs n (λ i l. h (suc i) (omega arith))) (omega arith)

sum_most : (f : ℕ → ℕ) (n : ℕ) → ((k : ℕ) → f k ≤ 1) → sum f n ≤ n
unfolding sum
sum_most f zero h = omega arith
sum_most f (suc n) h = let r = sum_most f n h in let s = h n in omega arith

-- numbers of at most 1 that sum up to how many they are, are 1
pub sum_ones : (f : ℕ → ℕ) (n : ℕ) → ((k : ℕ) → f k ≤ 1) → sum f n ≡ n → (k : ℕ) → k < n → f k ≡ 1
unfolding sum
sum_ones f zero h e k l = absurd (omega arith)
sum_ones f (suc n) h e k l = go (eqb k n) refl (λ m. sum_ones f n h (let r = sum_most f n h in let s = h n in omega arith) k m)
  where
    go : (b : Bool) → eqb k n ≡ b → (k < n → f k ≡ 1) → f k ≡ 1
    go true t rec = let z = eqb-true k n t in rw z (let r = sum_most f n h in let s = h n in omega arith)
    go false t rec = let z = eqb-false k n t in rec (omega arith)

pub sum_all : (f : ℕ → ℕ) (n : ℕ) → ((k : ℕ) → k < n → f k ≡ 1) → sum f n ≡ n
unfolding sum
sum_all f zero h = refl
sum_all f (suc n) h = let r = sum_all f n (λ k l. h k (omega arith)) in let s = h n (omega arith) in omega arith

pub count_past : (n : ℕ) (xs : List ℕ) → Below n xs → (k : ℕ) → n ≤ k → count k xs ≡ 0
unfolding count Below
count_past n [] h k l = refl
count_past n (x ∷ xs) h k l =
    let e : x ≡ k → ⊥ = λ z. let a = h 0 (omega arith) in omega arith in
    rw (ne_eqb x k e, count_past n xs (λ i m. h (suc i) (omega arith)) k l)

-- ---- marks
pub record Fresh (m xs : List ℕ) : Type 0 where
  pub once : (k : ℕ) → count k xs ≤ 1
  pub unmarked : (k : ℕ) → (get_or m k 0 ≡ 0 → ⊥) → count k xs ≡ 0

module _ (x : ℕ) (xs m : List ℕ) (inside : x < length m) where
  fresh_head : get_or m x 0 ≡ 0 → Fresh (set m x 1) xs → Fresh m (x ∷ xs)
  unfolding count
  fresh_head z f = record { once = λ k. first k (eqb x k) refl; unmarked = λ k h. second k h (eqb x k) refl }
    where
      none_left : count x xs ≡ 0
      none_left = f.unmarked x (λ e. let s = get_or-set_same m x 1 0 inside in omega arith)

      first : (k : ℕ) (b : Bool) → eqb x k ≡ b → cond (eqb x k) 1 0 + count k xs ≤ 1
      first k true e = rw (e, ← eqb-true x k e, none_left) (omega arith)
      first k false e = rw e (let z = f.once k in omega arith)

      second : (k : ℕ) → (get_or m k 0 ≡ 0 → ⊥) → (b : Bool) → eqb x k ≡ b → cond (eqb x k) 1 0 + count k xs ≡ 0
      second k h true e = absurd (h (rw (← eqb-true x k e) z))
      second k h false e =
          rw e (let z = f.unmarked k (λ q. h (sym (get_or-set_other m x k 1 0 (λ r. eqb-false x k e (sym r))) ∙ q)) in omega arith)

  fresh_zero : Fresh m (x ∷ xs) → get_or m x 0 ≡ 0
  unfolding count
  fresh_zero f = go (eqb (get_or m x 0) 0) refl
    where
      go : (b : Bool) → eqb (get_or m x 0) 0 ≡ b → get_or m x 0 ≡ 0
      go true e = eqb-true (get_or m x 0) 0 e
      go false e = absurd (let z = f.unmarked x (eqb-false (get_or m x 0) 0 e) in let q = eq-eqb x x refl in let r = rw q at z in omega arith)

  fresh_tail : Fresh m (x ∷ xs) → Fresh (set m x 1) xs
  unfolding count
  fresh_tail f = record { once = λ k. (let z = f.once k in omega arith); unmarked = λ k h. second k h (eqb x k) refl }
    where
      second : (k : ℕ) → (get_or (set m x 1) k 0 ≡ 0 → ⊥) → (b : Bool) → eqb x k ≡ b → count k xs ≡ 0
      second k h true e = let z = rw e at (f.once k) in omega arith
      second k h false e = let z = rw e at (f.unmarked k (λ q. h (get_or-set_other m x k 1 0 (λ r. eqb-false x k e (sym r)) ∙ q))) in omega arith

pub new_fresh : (m xs : List ℕ) → Below (length m) xs → all_new m xs ≡ true → Fresh m xs
unfolding all_new count Below
new_fresh m [] h e = record { once = λ k. omega arith; unmarked = λ k l. refl }
new_fresh m (x ∷ xs) h e =
    let inside = h 0 (omega arith) in
    let later : Below (length (set m x 1)) xs = λ i l. rw (length-set m x 1) (h (suc i) (omega arith)) in
    fresh_head x xs m inside (eqb-true (get_or m x 0) 0 (and_left (eqb (get_or m x 0) 0) (all_new (set m x 1) xs) e))
    (new_fresh (set m x 1) xs later (and_right (eqb (get_or m x 0) 0) (all_new (set m x 1) xs) e))

pub fresh_new : (m xs : List ℕ) → Below (length m) xs → Fresh m xs → all_new m xs ≡ true
unfolding all_new Below
fresh_new m [] h f = refl
fresh_new m (x ∷ xs) h f =
    let inside = h 0 (omega arith) in
    let later : Below (length (set m x 1)) xs = λ i l. rw (length-set m x 1) (h (suc i) (omega arith)) in
    and_both (eq-eqb (get_or m x 0) 0 (fresh_zero x xs m inside f)) (fresh_new (set m x 1) xs later (fresh_tail x xs m inside f))

-- ---- the law: numbers below n are each number below n exactly once, if and only if there are n of them and no two are equal
module _ (n room : ℕ) (xs : List ℕ) (low : Below n xs) (fits : n ≤ room) where
  in_room : Below (length {A = ℕ} (replicate room 0)) xs
  unfolding Below
  in_room i h = rw length-replicate (let l = low i h in omega arith)

  pub new_once : length xs ≡ n → all_new (replicate room 0) xs ≡ true → (k : ℕ) → k < n → count k xs ≡ 1
  new_once e h = sum_ones (λ k. count k xs) n (new_fresh (replicate room 0) xs in_room h).once (sum_count xs n low ∙ e)

  pub once_length : ((k : ℕ) → k < n → count k xs ≡ 1) → length xs ≡ n
  once_length h = sym (sum_count xs n low) ∙ sum_all (λ k. count k xs) n h

  pub once_new : ((k : ℕ) → k < n → count k xs ≡ 1) → all_new (replicate room 0) xs ≡ true
  once_new h = fresh_new (replicate room 0) xs in_room (record { once = λ k. go k (ltb k n) refl; unmarked = λ k l. absurd (l (zero_at k room)) })
    where
      go : (k : ℕ) (b : Bool) → ltb k n ≡ b → count k xs ≤ 1
      go k true l = let z = h k (ltb-true k n l) in omega arith
      go k false l = let z = count_past n xs low k (ltb-false k n l) in omega arith
