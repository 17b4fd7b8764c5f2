-- `kulabismuth::kb_read_dimacs`: the answer and the lent buffer of reading.
use mathlib.Core.Path.{ap, ◌∙◌}
use Prim.Native.Nat.{ℕ}
use Rattle.definitions.specs.Answer.{Outcome, outcome}
use Rattle.kulabismuth.specs.Returned.{returned_count}
use borrow.Author.Rules.{rules}
use Rattle.kulabismuth.proofs.kb_read_dimacs.Statement.{statement}
use Rattle.kulabismuth.proofs.kb_read_dimacs.Tie as tie

-- where the call was made
abbrev lent : tie.After-count → tie.After-slice_known-2-1
lent c = c.before.before.before

abbrev called : tie.After-count → tie.After-read
called c = (lent c).before.before

read-requires : tie.Need-read-requires
read-requires c κs = search rules

count-requires : tie.Need-count-requires
count-requires c κs = search rules

same_length : tie.Need-shape_of-clauses
same_length c = search rules

returns : tie.Need-returns
unfolding outcome
returns c =
    let d = called c in (
      c.count.ensures ∙ ap returned_count (ap (λ (x : Outcome ℕ). x.answer) d.read.ensures),
      ap (λ (x : Outcome ℕ). x.lent) d.read.ensures,
    )

pub kb_read_dimacs_spec : {M : Type 1} → statement M
kb_read_dimacs_spec = tie.close (tie.spec
    read-requires
    count-requires
    same_length
    returns)
