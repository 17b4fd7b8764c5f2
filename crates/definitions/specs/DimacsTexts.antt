-- What holds of every DIMACS text that is written or read (document 02 §1), stated. Assumes nothing.
use Rattle.std.specs.Prelude.{◌≡◌, ℕ, ◌/◌, ◌≤◌, length}
use mathlib.Core.List.{List, map, Memᴰ}
use Rattle.definitions.specs.Answer.{finding}
use Rattle.definitions.specs.Image.{Task, read_task}
use Rattle.definitions.specs.Clauses.{width, read_clauses}
use Rattle.definitions.specs.Groups.{Written}
use Rattle.definitions.specs.Dimacs.{clauses_in, sorted, distinct, write_dimacs, read_dimacs}

-- "What is written, read again for the same task into enough rows, gives the same rows": image, clause words, bytes and words of
-- the two targets
unfoldable pub WrittenReadAgain : Type 0
WrittenReadAgain =
    (w c : List ℕ) (bytes words : ℕ) (x : Written) → write_dimacs w c bytes ≡ finding x → length c ≤ words
    → read_dimacs w x.words words ≡ finding (record { count = length c / width; words = c })

-- what reading finds passes questions 8 and 9, as the rows of the text in order, equal ones once
unfoldable pub FoundPasses : Type 0
FoundPasses =
    (w text : List ℕ) (words : ℕ) (x : Written) (t : Task) → read_dimacs w text words ≡ finding x → read_task w ≡ finding t
    → (read_clauses t.atoms x.words ≡ finding (distinct (clauses_in text))) × (x.count ≡ length (distinct (clauses_in text)))

-- and these are the clauses of the text, each in literal order, and no others
unfoldable pub RowsOfText : Type 0
RowsOfText =
    (w text : List ℕ) (words : ℕ) (x : Written) → read_dimacs w text words ≡ finding x → (f : List ℕ)
    → (Memᴰ f (distinct (clauses_in text)) → Memᴰ f (map sorted (clauses_in text)))
    × (Memᴰ f (map sorted (clauses_in text)) → Memᴰ f (distinct (clauses_in text)))

pub record DimacsTexts : Type 0 where
  pub again : WrittenReadAgain
  pub passes : FoundPasses
  pub rows : RowsOfText
