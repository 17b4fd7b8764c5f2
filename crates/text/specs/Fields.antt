-- The fields of a line, one after the other as they are written. Assumes nothing.
use Rattle.std.specs.Prelude.{List, [], ◌∷◌, ◌++◌, ℕ, zero, suc}

-- what stands before field i of a line
unfoldable pub separator : ℕ → List ℕ
separator zero = []
separator (suc i) = 32 ∷ []

-- the fields of a line from field i on, and the line's end
unfoldable pub fields_from : ℕ → List (List ℕ) → List ℕ
fields_from i [] = 10 ∷ []
fields_from i (x ∷ xs) = separator i ++ (x ++ fields_from (suc i) xs)
