-- The numbers of a text after "p cnf", and question 24. Assumes nothing.
use Rattle.std.specs.Prelude.{Bool, true, false, ◌≡◌, List, Option, Some, None, ℕ, ◌<◌, min, drop}
use Rattle.definitions.specs.Dimacs.{tokens, words_in, is_dimacs}
use Rattle.dimacs_form.specs.Walk.{count_first, words_say}
use Rattle.dimacs_form.specs.Places.{Place}
use Rattle.dimacs_form.specs.Numbers.{most_size}
use Rattle.dimacs_form.specs.declared.number.Number.{Number}
use Rattle.dimacs_form.specs.declared.Count.{Count}

-- a number without a minus
unfoldable pub plain_of : Number → Option Count
plain_of n = elim n.minus [ true ↦ None | false ↦ Some (record { size = n.size; next = n.next }) ]

-- a number k without a minus stands at the place, held at v, and the next word at `next`
pub record CountAt (text : List ℕ) (at v next : ℕ) : Type 0 where
  pub number : ℕ
  pub held : v ≡ min most_size number
  pub here : (p : ℕ → List (List ℕ) → Bool) → count_first p (tokens (drop at text)) ≡ p number (tokens (drop next text))
  pub behind : tokens (drop next text) ≡ drop 1 (tokens (drop at text))
  pub place : Place text next
  pub later : at < next

abbrev pub Counts : List ℕ → ℕ → Option Count → Type 0
Counts text at None = (p : ℕ → List (List ℕ) → Bool) → count_first p (tokens (drop at text)) ≡ false
Counts text at (Some c) = CountAt text at c.size c.next

-- the words from a place on are N, the number of clauses and these, which begin at `from`
pub record SaysAt (N : ℕ) (text : List ℕ) (at from : ℕ) : Type 0 where
  pub says : words_say N (tokens (drop at text)) ≡ true
  pub behind : tokens (drop from text) ≡ drop 2 (tokens (drop at text))
  pub place : Place text from

abbrev pub Says : ℕ → List ℕ → ℕ → Option ℕ → Type 0
Says N text at None = words_say N (tokens (drop at text)) ≡ false
Says N text at (Some from) = SaysAt N text at from

-- question 24 is answered yes, and the clauses begin at `from`
pub record FormAt (N : ℕ) (text : List ℕ) (from : ℕ) : Type 0 where
  pub form : is_dimacs N text ≡ true
  pub clauses : tokens (drop from text) ≡ drop 2 (words_in text)
  pub place : Place text from

abbrev pub Formed : ℕ → List ℕ → Option ℕ → Type 0
Formed N text None = is_dimacs N text ≡ false
Formed N text (Some from) = FormAt N text from
