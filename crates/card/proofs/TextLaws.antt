-- Laws of literals and of the lines of numbers, by their parts. Assumes nothing.
use mathlib.Core.Path.{◌≡◌}
use mathlib.Core.Bool.{true, false}
use mathlib.Core.List.{[], ◌∷◌, ◌++◌, append_assoc}
use Prim.Native.Nat.{ℕ}
use Rattle.definitions.specs.Answer.{Refusal}
use Rattle.definitions.specs.Literal.{positive, atom}
use Rattle.definitions.specs.Text.{decimal, line}
use Rattle.definitions.specs.Card.{literal_text, clauses_word, rounds_word, groups_word, refused_word, refused_text}
use Rattle.card.specs.Text.{sign_of, counts_line, groups_line}

-- ---- literals
pub sign_plus : (l : ℕ) → positive l ≡ true → 43 ≡ sign_of l
unfolding sign_of
sign_plus l e = rw e

pub sign_minus : (l : ℕ) → positive l ≡ false → 45 ≡ sign_of l
unfolding sign_of
sign_minus l e = rw e

pub literal_parts : (l s : ℕ) → s ≡ sign_of l → literal_text l ≡ (s ∷ []) ++ decimal (atom l)
unfolding literal_text sign_of
literal_parts l s e = rw e

-- ---- lines by their parts
pub groups_parts : (n : ℕ) → groups_line n ≡ (groups_word ++ (32 ∷ decimal n)) ++ (10 ∷ [])
unfolding groups_line line
groups_parts n = simp append_assoc

pub counts_parts :
    (n r : ℕ) → counts_line n r ≡ (clauses_word ++ (32 ∷ decimal n)) ++ (((32 ∷ rounds_word) ++ (32 ∷ decimal r)) ++ (10 ∷ []))
unfolding counts_line line
counts_parts n r = simp append_assoc

pub refusal_parts :
    (f : Refusal) (q : ℕ) → q ≡ f.number
    → refused_text f ≡ (refused_word ++ (32 ∷ decimal q)) ++ ((32 ∷ decimal f.first) ++ ((32 ∷ decimal f.second) ++ (10 ∷ [])))
unfolding refused_text line
refusal_parts f q e = rw e (simp append_assoc)
