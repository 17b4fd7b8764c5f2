-- The lines of the card, field by field as they are written. Assumes nothing.
use Rattle.std.specs.Prelude.{Bool, cond, ◌&&◌, List, [], ◌∷◌, ◌++◌, ℕ, ◌+◌, ◌*◌, ◌/◌, ◌%◌, eqb, leb, length, get_or, drop}
use Rattle.definitions.specs.Lists.{each, below}
use Rattle.definitions.specs.Literal.{most_atoms, positive}
use Rattle.definitions.specs.Marks.{mark_bytes}
use Rattle.definitions.specs.Answer.{Answer, finding, refused}
use Rattle.definitions.specs.Clauses.{width, most_rows}
use Rattle.definitions.specs.Synthesis.{Found, synthesis}
use Rattle.definitions.specs.Text.{decimal, line}
use Rattle.text.specs.Fields.{separator}
use Rattle.definitions.specs.Card.{clause_line, clauses_word, rounds_word, groups_word, none_word, found_text, refused_text, most_input}

-- the sign of a literal
unfoldable pub sign_of : ℕ → ℕ
sign_of l = cond (positive l) 43 45

-- the line of the numbers of clauses and rounds, and that of the number of groups
unfoldable pub counts_line : ℕ → ℕ → List ℕ
counts_line clauses rounds = line (clauses_word ∷ decimal clauses ∷ rounds_word ∷ decimal rounds ∷ [])

unfoldable pub groups_line : ℕ → List ℕ
groups_line groups = line (groups_word ∷ decimal groups ∷ [])

-- atom a, as a field of the line of group v, by the places of the atoms
unfoldable pub member_text : List ℕ → ℕ → ℕ → List ℕ
member_text ps v a = cond (eqb (get_or ps (2 * a) 0) v) (separator (get_or ps (2 * a + 1) 0) ++ decimal a) []

-- "none" after the atoms, if it is a value
unfoldable pub none_text : ℕ → List ℕ
none_text none = cond (eqb none 0) [] (32 ∷ none_word)

-- the line of group v
unfoldable pub group_text : List ℕ → ℕ → ℕ → List ℕ
group_text ps v none = each (member_text ps v) (below (length ps / 2)) ++ (none_text none ++ (10 ∷ []))

-- the lines of n groups
unfoldable pub group_texts : List ℕ → List ℕ → ℕ → List ℕ
group_texts ps ns n = each (λ v. group_text ps v (get_or ns v 0)) (below n)

-- the number of groups, and their lines
unfoldable pub cover_text : List ℕ → List ℕ → ℕ → List ℕ
cover_text ps ns n = groups_line n ++ group_texts ps ns n

-- a clause set that was found in r rounds
unfoldable pub set_text : List (List ℕ) → ℕ → List ℕ
set_text C r = counts_line (length C) r ++ each clause_line C

-- a finding
abbrev pub finding_of : List (List ℕ) → ℕ → Found
finding_of C r = record { clauses = C; rounds = r }

-- the input's bytes: four or more, even, not too many
abbrev pub is_input : List ℕ → Bool
is_input bs = leb 4 (length bs) && eqb (length bs % 2) 0 && leb (length bs) most_input

-- the synthesis for the words of an input: n, limit, image
abbrev pub input_answer : List ℕ → Answer Found
input_answer w = synthesis (drop 2 w) (get_or w 0 0) (get_or w 1 0) (width * most_rows) (width * most_rows) (mark_bytes most_atoms)

-- the text of the words of an input
unfoldable pub words_text : List ℕ → List ℕ
words_text w = elim (input_answer w) [ finding x ↦ found_text (get_or w 2 0) x | refused r ↦ refused_text r ]
