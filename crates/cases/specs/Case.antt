-- A case of the test programs, in the words of their input (the format stands at the head of src/lib.rt). Assumes nothing.
use Rattle.std.specs.Prelude.{◌≡◌, cond, List, map, ℕ, zero, suc, ◌+◌, ◌*◌, ◌%◌, min, ltb, get_or}
use Rattle.definitions.specs.Lists.{below}

-- the most words of an input, of a list of words, and the most bytes of the list of bytes
abbrev pub most_input : ℕ
most_input = 32768

abbrev pub most_words : ℕ
most_words = 8200

abbrev pub most_bytes : ℕ
most_bytes = 2100

-- words of a case before its stored values
abbrev pub header : ℕ
header = 11

-- no case of an input ends after this word
abbrev pub last_end : ℕ
last_end = most_input + header + 4 * most_words

-- ---- of the case at word `at` of the words w
module _ (w : List ℕ) (at : ℕ) where
  -- the length of list k, a list of words
  abbrev pub list_length : ℕ → ℕ
  list_length k = min (get_or w (at + 3 + 2 * k) 0) most_words

  -- the length of list 3, the list of bytes
  abbrev pub bytes_length : ℕ
  bytes_length = min (get_or w (at + 9) 0) most_bytes

  -- how many values of list k are stored
  abbrev pub stored_count : ℕ → ℕ
  stored_count k = min (get_or w (at + 4 + 2 * k) 0) most_words

  -- the word at which the stored values of list k begin
  unfoldable pub values_at : ℕ → ℕ
  values_at zero = at + header
  values_at (suc k) = values_at k + stored_count k

  -- the word after the case
  abbrev pub case_end : ℕ
  case_end = values_at 4

-- value i of a list whose first `count` values are stored from word `from` on
unfoldable pub value_at : List ℕ → ℕ → ℕ → ℕ → ℕ
value_at w from count i = cond (ltb i count) (get_or w (from + i) 0) 7

unfoldable pub byte_at : List ℕ → ℕ → ℕ → ℕ → ℕ
byte_at w from count i = value_at w from count i % 256

-- n values of it, as words and as bytes
unfoldable pub words_from : List ℕ → ℕ → ℕ → ℕ → List ℕ
words_from w from count n = map (value_at w from count) (below n)

unfoldable pub bytes_from : List ℕ → ℕ → ℕ → ℕ → List ℕ
bytes_from w from count n = map (byte_at w from count) (below n)

-- list k of the case, if it has n values
unfoldable pub list_of : List ℕ → ℕ → ℕ → ℕ → List ℕ
list_of w at k n = words_from w (values_at w at k) (stored_count w at k) n

unfoldable pub bytes_of : List ℕ → ℕ → ℕ → List ℕ
bytes_of w at n = bytes_from w (values_at w at 3) (stored_count w at 3) n

-- the targets, of these lengths, hold the lists of the case
pub record Loaded (w : List ℕ) (at a b c d : ℕ) (image list other small : List ℕ) : Type 0 where
  pub image_is : image ≡ list_of w at 0 a
  pub list_is : list ≡ list_of w at 1 b
  pub other_is : other ≡ list_of w at 2 c
  pub small_is : small ≡ bytes_of w at d
