-- `kulabismuth::kb_join`: the answer and the lent buffer of joining.
use mathlib.Core.Path.{ap, ◌∙◌}
use Prim.Native.Nat.{ℕ}
use Rattle.definitions.specs.Answer.{Outcome, outcome}
use Rattle.kulabismuth.specs.Returned.{returned_count}
use borrow.Author.Rules.{rules}
use Rattle.kulabismuth.proofs.kb_join.Statement.{statement}
use Rattle.kulabismuth.proofs.kb_join.Tie as tie

-- where the call was made
abbrev lent : tie.After-count → tie.After-slice_known-2-1
lent c = c.before.before.before

abbrev called : tie.After-count → tie.After-join
called c = (lent c).before.before

join-requires : tie.Need-join-requires
join-requires c κs = search rules

count-requires : tie.Need-count-requires
count-requires c κs = search rules

same_length : tie.Need-shape_of-target
same_length c = search rules

returns : tie.Need-returns
unfolding outcome
returns c =
    let d = called c in (
      c.count.ensures ∙ ap returned_count (ap (λ (x : Outcome ℕ). x.answer) d.join.ensures),
      ap (λ (x : Outcome ℕ). x.lent) d.join.ensures,
    )

pub kb_join_spec : {M : Type 1} → statement M
kb_join_spec = tie.close (tie.spec
    join-requires
    count-requires
    same_length
    returns)
