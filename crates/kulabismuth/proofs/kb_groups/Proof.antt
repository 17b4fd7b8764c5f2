use mathlib.Core.Path.{ap, ◌∙◌}
use Prim.Native.Nat.{ℕ}
use Rattle.definitions.specs.Answer.{Outcome, outcome}
use Rattle.kulabismuth.specs.Returned.{returned_count}
use borrow.Author.Rules.{rules}
use Rattle.kulabismuth.proofs.kb_groups.Statement.{statement}
use Rattle.kulabismuth.proofs.kb_groups.Tie as tie

groups-requires : tie.Need-groups-requires
groups-requires c κs = search rules

count-requires : tie.Need-count-requires
count-requires c κs = search rules

same_length : tie.Need-shape_of-marks
same_length c = search rules

same-length-2 : tie.Need-shape_of-target
same-length-2 c = search rules

-- the places of the function
abbrev after_groups : tie.After-target-1 → tie.After-groups
after_groups c = c.before.before.before

abbrev after_target : tie.After-count-arg-1 → tie.After-target-1
after_target c = c.before.before

abbrev after_count_arg : tie.After-count → tie.After-count-arg-1
after_count_arg c = c.before.before

abbrev after_groups_from_count : tie.After-count → tie.After-groups
after_groups_from_count c = after_groups (after_target (after_count_arg c))

returns : tie.Need-returns
unfolding outcome
returns c = (
  c.count.ensures ∙ ap returned_count (ap (λ (x : Outcome ℕ). x.answer) (after_groups_from_count c).groups.ensures),
  ap (λ (x : Outcome ℕ). x.lent) (after_groups_from_count c).groups.ensures,
)

pub kb_groups_spec : {M : Type 1} → statement M
kb_groups_spec =
    tie.close (tie.spec
    groups-requires
    count-requires
    same_length
    same-length-2
    returns)
