-- The values of the true atoms, noted for each variable. Assumes nothing.
use Rattle.std.specs.Prelude.{ℕ, zero, suc, ◌-◌, List, [], ◌∷◌, Bool, true, false, cond, ◌&&◌, eqb, get_or, replicate}
use Rattle.definitions.specs.Literal.{most_atoms}
use Rattle.definitions.specs.Groups.{Place}
use Rattle.definitions.specs.Fdr.{FdrTask, domain_at}

-- of each variable, of which there are at most as many as atoms: 0 that no true atom is met, x + 1 that one of value x is
unfoldable pub none_found : List ℕ
none_found = replicate most_atoms 0

-- the values that a noted number stands for
unfoldable pub values_of : ℕ → List ℕ
values_of zero = []
values_of (suc x) = x ∷ []

-- the true values of variable u, those of the atoms after an atom of variable v, value x and byte b being xs
unfoldable pub with_atom : ℕ → ℕ → ℕ → ℕ → List ℕ → List ℕ
with_atom u v x b xs = elim (eqb v u && eqb b 1) [ true ↦ x ∷ xs | false ↦ xs ]

-- question 23 for variable v by what is noted for it
unfoldable pub codable_at : FdrTask → ℕ → ℕ → Bool
codable_at t zero v = eqb (domain_at t v).none 1
codable_at t (suc x) v = true

-- the value of variable v by what is noted for it
unfoldable pub value_at : FdrTask → ℕ → ℕ → ℕ
value_at t zero v = (domain_at t v).values - 1
value_at t (suc x) v = x

-- the byte of an atom in a finite-domain state
unfoldable pub byte_of : List ℕ → Place → ℕ
byte_of s p = cond (eqb (get_or s p.variable 0) p.value) 1 0
