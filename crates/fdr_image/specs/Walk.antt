-- What the walks over a re-encoded image and over a block work out. Assumes nothing.
use Rattle.std.specs.Prelude.{ℕ, zero, suc, ◌+◌, ◌*◌, ◌%◌, List, [], ◌∷◌, map, Bool, true, false, ◌&&◌, eqb, leb, length, get_or, drop, set, replicate}
use Rattle.std.specs.Prelude as std
use Rattle.std.proofs.Math.Option.{Option, none, some}
use Rattle.definitions.specs.Literal.{most_atoms}
use Rattle.definitions.specs.Lists.{all, below}
use Rattle.definitions.specs.Image.{most_operators, part, directory}
use Rattle.definitions.specs.Groups.{Domain, Place}
use Rattle.definitions.specs.Fdr.{FdrLiteral, FdrRow, FdrOperator, no_domain, atom_values}
use Rattle.definitions.specs.FdrImage.{most_fdr_image, domains_in, places_in, literals_in, fdr_rows_of, fdr_operator_of, place_right, fdr_literal_right}
use Rattle.definitions.specs.FdrImage.{fdr_row_right, fdr_operator_right, each_given_once, values_right}
use Rattle.definitions.specs.FdrStep.{no_fdr_operator}
use Rattle.fdr_image.specs.declared.block.Kind.{Kind}
use Rattle.fdr_image.specs.declared.block.Kind.TheVariants.{Set, Clear}

-- ---- pairs of words
abbrev pub domain : ℕ → ℕ → Domain
domain k f = record { values = k; none = f }

abbrev pub place : ℕ → ℕ → Place
place v x = record { variable = v; value = x }

abbrev pub literal : ℕ → ℕ → FdrLiteral
literal v c = record { variable = v; code = c }

-- ---- rows
abbrev pub row : ℕ → ℕ → ℕ → List FdrLiteral → FdrRow
row k v x cs = record { kind = k; variable = v; value = x; conditions = cs }

-- kind (0 set, 1 clear), and no kind of any other word
abbrev pub kind_of : ℕ → std.Option Kind
kind_of zero = std.Some Set
kind_of (suc zero) = std.Some Clear
kind_of (suc (suc k)) = std.None

-- all words of a row that begins at p are in the block
unfoldable pub whole_row : List ℕ → ℕ → Bool
whole_row b p = leb (p + 4 + 2 * get_or b (p + 3) 0) (length b)

-- the rows that were read, if any, are right
unfoldable pub rows_right : List Domain → Option (List FdrRow) → Bool
rows_right D none = false
rows_right D (some rs) = all (fdr_row_right D) rs

-- the operator that was read, if any, is right
unfoldable pub block_right : List Domain → Option FdrOperator → Bool
block_right D none = false
block_right D (some o) = fdr_operator_right D o

-- whether a block parses, and the operator in it
unfoldable pub some_operator : Option FdrOperator → Bool
some_operator none = false
some_operator (some o) = true

unfoldable pub operator_or : Option FdrOperator → FdrOperator
operator_or none = no_fdr_operator
operator_or (some o) = o

unfoldable pub block_parses : List ℕ → Bool
block_parses b = some_operator (fdr_operator_of b)

unfoldable pub operator_in : List ℕ → FdrOperator
operator_in b = operator_or (fdr_operator_of b)

-- the walk of a block's rows, with k rows left at p: whether they parse, and the rows
unfoldable pub some_rows : Option (List FdrRow) → Bool
some_rows none = false
some_rows (some rs) = true

unfoldable pub rows_or : Option (List FdrRow) → List FdrRow
rows_or none = []
rows_or (some rs) = rs

unfoldable pub parses_at : List ℕ → ℕ → ℕ → Bool
parses_at b p k = some_rows (fdr_rows_of k (drop p b))

unfoldable pub rows_at : List ℕ → ℕ → ℕ → List FdrRow
rows_at b p k = rows_or (fdr_rows_of k (drop p b))

-- ---- atoms
-- the number of atom values of the variables below v
unfoldable pub values_before : List Domain → ℕ → ℕ
values_before D zero = 0
values_before D (suc v) = values_before D v + atom_values (get_or D v no_domain)

-- the rank of each atom's value among the atom values of all variables, where s has the rank of each variable's first value
abbrev pub ranks_in : List ℕ → List ℕ → List ℕ
ranks_in s w = map (λ p. get_or s p.variable 0 + p.value) (places_in w)

-- a mark for each rank, none of them made
unfoldable pub no_marks : List ℕ
no_marks = replicate most_atoms 0

-- no number twice, nor one that is marked
unfoldable pub all_new : List ℕ → List ℕ → Bool
all_new m [] = true
all_new m (k ∷ ks) = let r = all_new (set m k 1) ks in eqb (get_or m k 0) 0 && r

-- ---- question 17, part by part
unfoldable pub counts_right : List ℕ → Bool
counts_right w = leb (length w) most_fdr_image && leb 1 (get_or w 0 0) && leb (get_or w 0 0) most_atoms && leb (get_or w 1 0) most_operators

unfoldable pub domains_right : ℕ → List ℕ → Bool
domains_right variables d = eqb (length d) (2 * variables) && all (λ d. leb d.none 1) (domains_in d)

unfoldable pub atoms_right : List Domain → List ℕ → Bool
atoms_right D a =
    let P = places_in a in
    (eqb (length a % 2) 0 && leb 1 (length P) && leb (length P) most_atoms) && (all (place_right D) P && each_given_once D P)

unfoldable pub goal_right : List Domain → List ℕ → Bool
goal_right D g = eqb (length g % 2) 0 && all (fdr_literal_right D) (literals_in g)

unfoldable pub operators_right : List Domain → List ℕ → ℕ → Bool
operators_right D w m = all (λ i. block_right D (fdr_operator_of (part w (i + 4)))) (below m)

-- the goal and the operators, over the domains
unfoldable pub rules_right : List Domain → List ℕ → Bool
rules_right D w = goal_right D (part w 3) && operators_right D w (get_or w 1 0)

-- all parts but the domains
unfoldable pub rest_right : List Domain → List ℕ → Bool
rest_right D w = values_right D (part w 2) && (atoms_right D (part w 1) && rules_right D w)

unfoldable pub parts_right : List ℕ → Bool
parts_right w = domains_right (get_or w 0 0) (part w 0) && rest_right (domains_in (part w 0)) w

unfoldable pub fdr_right : List ℕ → Bool
fdr_right w = counts_right w && (directory w (get_or w 1 0 + 4) && parts_right w)
