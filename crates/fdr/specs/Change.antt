-- What a step makes of each variable, noted row by row. Assumes nothing.
use Rattle.std.specs.Prelude.{ℕ, zero, suc, ◌+◌, ◌-◌, List, [], ◌∷◌, map, Bool, true, false, not, cond, ◌&&◌, eqb, ltb, length, get_or, set, replicate}
use Rattle.std.specs.Prelude as std
use Rattle.std.proofs.Math.Option.{Option, none, some}
use Rattle.definitions.specs.Literal.{most_atoms}
use Rattle.definitions.specs.Lists.{any, all, below}
use Rattle.definitions.specs.Answer.{Answer, finding, ask, ◌>>=◌}
use Rattle.definitions.specs.Groups.{Domain}
use Rattle.definitions.specs.Fdr.{FdrRow, FdrOperator, FdrTask, no_domain, fdr_all_true}
use Rattle.definitions.specs.FdrStep.{fdr_fired, fdr_conflict, none_there, fdr_after}
use Rattle.literal.specs.Mark.{put_where}
use Rattle.fdr_image.specs.Walk.{kind_of}
use Rattle.fdr_image.specs.declared.block.Kind.{Kind}
use Rattle.fdr_image.specs.declared.block.Kind.TheVariants.{Set, Clear}

-- of each variable, of which there are at most as many as atoms: 0 that it stays, 1 that it becomes none, x + 2 that it becomes x
unfoldable pub no_changes : List ℕ
no_changes = replicate most_atoms 0

-- what is noted, if the row is not in conflict with what was noted before
unfoldable pub noted : Bool → List ℕ → Option (List ℕ)
noted true m = some m
noted false m = none

-- a set: it beats a clear noted before it; of a variable that is set already only to the same value
unfoldable pub note_set : ℕ → ℕ → List ℕ → Option (List ℕ)
note_set v x m =
    elim (ltb (get_or m v 0) 2) [ true ↦ some (set m v (x + 2)) | false ↦ noted (eqb (get_or m v 0) (x + 2)) m ]

-- a clear: of the present value of a variable for which nothing is noted; it gives way to a set noted before it
unfoldable pub note_clear : List ℕ → ℕ → ℕ → List ℕ → List ℕ
note_clear s v x m = cond (eqb (get_or m v 0) 0 && eqb x (get_or s v 0)) (set m v 1) m

unfoldable pub note_kind : List ℕ → std.Option Kind → ℕ → ℕ → List ℕ → Option (List ℕ)
note_kind s (std.Some Set) v x m = note_set v x m
note_kind s (std.Some Clear) v x m = some (note_clear s v x m)
note_kind s std.None v x m = some m

unfoldable pub note_if : Bool → Option (List ℕ) → List ℕ → Option (List ℕ)
note_if fires o m = elim fires [ true ↦ o | false ↦ some m ]

abbrev pub note_row : List ℕ → FdrRow → List ℕ → Option (List ℕ)
note_row s r m = note_kind s (kind_of r.kind) r.variable r.value m

-- the fired rows, one after the other
unfoldable pub note_fired : List ℕ → List FdrRow → List ℕ → Option (List ℕ)
note_fired s [] m = some m
note_fired s (r ∷ rs) m = elim (note_row s r m) [ none ↦ none | some m' ↦ note_fired s rs m' ]

-- what becomes of a variable of value x
unfoldable pub become : Domain → ℕ → ℕ → ℕ
become d zero x = x
become d (suc zero) x = d.values - 1
become d (suc (suc y)) x = y

-- some row names variable v
unfoldable pub named : List FdrRow → ℕ → Bool
named rs v = any (λ r. eqb v r.variable) rs

-- question 22, by what is noted for the variables that the rows name
unfoldable pub nones_in : List Domain → List ℕ → List FdrRow → Bool
nones_in D m rs = all (λ r. not (eqb (get_or m r.variable 0) 1 && eqb (get_or D r.variable no_domain).none 0)) rs

-- the state with what is noted for the variables that the rows name
abbrev pub written : List Domain → List ℕ → List FdrRow → List ℕ → List ℕ
written D m [] s = s
written D m (r ∷ rs) s =
    written D m rs (set s r.variable (become (get_or D r.variable no_domain) (get_or m r.variable 0) (get_or s r.variable 0)))

-- nothing noted for the variables that the rows name
abbrev pub unnoted : List FdrRow → List ℕ → List ℕ
unnoted = put_where 0 (λ r. r.variable) (λ r. true)

-- questions 21 and 22, and the step, by the rows that fired
unfoldable pub applied : FdrTask → List ℕ → List FdrRow → Answer (List ℕ)
applied t s rs = do
  _ ← ask 21 (not (fdr_conflict rs))
  _ ← ask 22 (none_there t s rs)
  finding (map (fdr_after t s rs) (below (length t.domains)))

-- questions 20 to 22, and the step, by the operator
unfoldable pub stepped : FdrTask → List ℕ → FdrOperator → Answer (List ℕ)
stepped t s o = do
  _ ← ask 20 (fdr_all_true s o.precondition)
  applied t s (fdr_fired s o)
