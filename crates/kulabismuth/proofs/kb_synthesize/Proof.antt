use mathlib.Core.Path.{ap, ◌∙◌}
use Rattle.definitions.specs.Answer.{Outcome, outcome}
use Rattle.definitions.specs.Synthesis.{Made}
use Rattle.kulabismuth.specs.Returned.{returned_made}
use borrow.Author.Rules.{rules}
use Rattle.kulabismuth.proofs.kb_synthesize.Statement.{statement}
use Rattle.kulabismuth.proofs.kb_synthesize.Tie as tie

synthesize-requires : tie.Need-synthesize-requires
synthesize-requires c κs = search rules

made-requires : tie.Need-made-requires
made-requires c κs = search rules

same_length : tie.Need-shape_of-clauses
same_length c = search rules

same-length-2 : tie.Need-shape_of-work
same-length-2 c = search rules

same-length-3 : tie.Need-shape_of-marks
same-length-3 c = search rules

-- the places of the function
abbrev after_synthesize : tie.After-work-1 → tie.After-synthesize
after_synthesize c = c.before.before.before

abbrev after_work : tie.After-marks-1 → tie.After-work-1
after_work c = c.before.before

abbrev after_marks : tie.After-made-arg-1 → tie.After-marks-1
after_marks c = c.before.before

abbrev after_made_arg : tie.After-made → tie.After-made-arg-1
after_made_arg c = c.before.before

abbrev after_synthesize_from_made : tie.After-made → tie.After-synthesize
after_synthesize_from_made c = after_synthesize (after_work (after_marks (after_made_arg c)))

returns : tie.Need-returns
unfolding outcome
returns c = (
  c.made.ensures ∙ ap returned_made (ap (λ (x : Outcome Made). x.answer) (after_synthesize_from_made c).synthesize.ensures),
  ap (λ (x : Outcome Made). x.lent) (after_synthesize_from_made c).synthesize.ensures,
)

pub kb_synthesize_spec : {M : Type 1} → statement M
kb_synthesize_spec =
    tie.close
    (tie.spec
    synthesize-requires
    made-requires
    same_length
    same-length-2
    same-length-3
    returns)
