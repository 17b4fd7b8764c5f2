-- Question 24 word by word, as the walk over a text asks it. Assumes nothing.
use Rattle.std.specs.Prelude.{Bool, true, false, not, ◌&&◌, List, [], ◌∷◌, ℕ, suc, ◌+◌, eqb, leb, get_or, take}
use Rattle.definitions.specs.Lists.{compare_words, is_same}
use Rattle.definitions.specs.Dimacs.{head_bytes, blank, is_number, number_in, is_zero}

module _ {A : Type 0} (mark : A → Bool) where
  -- how many marks there are
  unfoldable pub counted : List A → ℕ
  counted [] = 0
  counted (x ∷ xs) = elim (mark x) [ true ↦ suc (counted xs) | false ↦ counted xs ]

  -- the last is a mark, or there is none and the answer was so before
  unfoldable pub last_marked : Bool → List A → Bool
  last_marked b [] = b
  last_marked b (x ∷ xs) = last_marked (mark x) xs

-- the words left are right: numbers not above N, the last of them 0; with c clauses before them there are k
unfoldable pub tail_from : ℕ → ℕ → ℕ → Bool → List (List ℕ) → Bool
tail_from N k c e [] = eqb k c && e
tail_from N k c e (w ∷ ws) =
    is_number w && leb (number_in w).size N && elim (is_zero (number_in w)) [ true ↦ tail_from N k (c + 1) true ws | false ↦ tail_from N k c false ws ]

-- the first word is a number without a minus, and what follows it passes
unfoldable pub count_first : (ℕ → List (List ℕ) → Bool) → List (List ℕ) → Bool
count_first p [] = false
count_first p (w ∷ ws) = is_number w && (not (number_in w).negative && p (number_in w).size ws)

-- the words behind "p cnf": N, the number of clauses, and these
unfoldable pub words_say : ℕ → List (List ℕ) → Bool
words_say N T = count_first (λ n ws. eqb n N && count_first (λ k vs. tail_from N k 0 true vs) ws) T

-- the bytes begin with "p cnf" and a blank
unfoldable pub headed_bytes : List ℕ → Bool
headed_bytes bs = is_same (compare_words (take 5 bs) head_bytes) && blank (get_or bs 5 0)
