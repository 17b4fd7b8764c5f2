-- `kulabismuth::kb_closure`: the answer and the lent marks of the closure.
use mathlib.Core.Path.{ap, ◌∙◌}
use Prim.Native.Nat.{ℕ}
use Rattle.definitions.specs.Answer.{Outcome, outcome}
use Rattle.kulabismuth.specs.Returned.{returned_count}
use borrow.Author.Rules.{rules}
use Rattle.kulabismuth.proofs.kb_closure.Statement.{statement}
use Rattle.kulabismuth.proofs.kb_closure.Tie as tie

-- where the call was made
abbrev lent : tie.After-count → tie.After-slice_known-2-1
lent c = c.before.before.before

abbrev called : tie.After-count → tie.After-closure
called c = (lent c).before.before

closure-requires : tie.Need-closure-requires
closure-requires c κs = search rules

count-requires : tie.Need-count-requires
count-requires c κs = search rules

same_length : tie.Need-shape_of-marks
same_length c = search rules

returns : tie.Need-returns
unfolding outcome
returns c =
    let d = called c in (
      c.count.ensures ∙ ap returned_count (ap (λ (x : Outcome ℕ). x.answer) d.closure.ensures),
      ap (λ (x : Outcome ℕ). x.lent) d.closure.ensures,
    )

pub kb_closure_spec : {M : Type 1} → statement M
kb_closure_spec = tie.close (tie.spec
    closure-requires
    count-requires
    same_length
    returns)
