use mathlib.Core.Path.{ap, ◌∙◌}
use Prim.Native.Nat.{ℕ}
use Rattle.definitions.specs.Answer.{Outcome, outcome}
use Rattle.kulabismuth.specs.Returned.{returned_count}
use borrow.Author.Rules.{rules}
use Rattle.kulabismuth.proofs.kb_reencode.Statement.{statement}
use Rattle.kulabismuth.proofs.kb_reencode.Tie as tie

reencode-requires : tie.Need-reencode-requires
reencode-requires c κs = search rules

count-requires : tie.Need-count-requires
count-requires c κs = search rules

same_length : tie.Need-shape_of-marks
same_length c = search rules

same-length-2 : tie.Need-shape_of-target
same-length-2 c = search rules

-- the places of the function
abbrev after_reencode : tie.After-target-1 → tie.After-reencode
after_reencode c = c.before.before.before

abbrev after_target : tie.After-count-arg-1 → tie.After-target-1
after_target c = c.before.before

abbrev after_count_arg : tie.After-count → tie.After-count-arg-1
after_count_arg c = c.before.before

abbrev after_reencode_from_count : tie.After-count → tie.After-reencode
after_reencode_from_count c = after_reencode (after_target (after_count_arg c))

returns : tie.Need-returns
unfolding outcome
returns c = (
  c.count.ensures ∙ ap returned_count (ap (λ (x : Outcome ℕ). x.answer) (after_reencode_from_count c).reencode.ensures),
  ap (λ (x : Outcome ℕ). x.lent) (after_reencode_from_count c).reencode.ensures,
)

pub kb_reencode_spec : {M : Type 1} → statement M
kb_reencode_spec =
    tie.close (tie.spec
    reencode-requires
    count-requires
    same_length
    same-length-2
    returns)
