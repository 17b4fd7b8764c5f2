-- The clauses of a text, number by number. Assumes nothing.
use Rattle.std.specs.Prelude.{Bool, true, false, ◌≡◌, List, [], ◌∷◌, ◌++◌, map, ℕ, leb}
use Rattle.definitions.specs.Lists.{all}
use Rattle.definitions.specs.Dimacs.{Number, is_number, number_in, is_zero, literal_of}
use Rattle.dimacs_form.specs.Walk.{last_marked}

-- the words that are left of a text's clauses: numbers that are not above N, the last of them 0; `closed` if no clause has begun
pub record Left (N : ℕ) (closed : Bool) (ws : List (List ℕ)) : Type 0 where
  pub numbers : all is_number ws ≡ true
  pub low : all (λ x. leb x.size N) (map number_in ws) ≡ true
  pub ends : last_marked is_zero closed (map number_in ws) ≡ true

-- the clauses of the numbers left, the literals of the one that has begun being f
unfoldable pub clauses_from : List ℕ → List Number → List (List ℕ)
clauses_from f [] = []
clauses_from f (x ∷ xs) = elim (is_zero x) [ true ↦ f ∷ clauses_from [] xs | false ↦ clauses_from (f ++ (literal_of x ∷ [])) xs ]

-- the clauses that words say
unfoldable pub clauses_said : List (List ℕ) → List (List ℕ)
clauses_said ws = clauses_from [] (map number_in ws)

-- the clauses that words say, the literals of the one that has begun being f
unfoldable pub clauses_on : List ℕ → List (List ℕ) → List (List ℕ)
clauses_on f ws = clauses_from f (map number_in ws)
