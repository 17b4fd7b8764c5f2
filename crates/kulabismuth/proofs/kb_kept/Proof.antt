use mathlib.Core.Path.{ap, ◌∙◌}
use Rattle.kulabismuth.specs.Returned.{returned_test}
use borrow.Author.Rules.{rules}
use Rattle.kulabismuth.proofs.kb_kept.Statement.{statement}
use Rattle.kulabismuth.proofs.kb_kept.Tie as tie

kept-requires : tie.Need-kept-requires
kept-requires c κs = search rules

test-requires : tie.Need-test-requires
test-requires c κs = search rules

same_length : tie.Need-shape_of-marks
same_length c = search rules

-- the places of the function
abbrev after_kept : tie.After-test-arg-1 → tie.After-kept
after_kept c = c.before.before.before

abbrev after_test_arg : tie.After-test → tie.After-test-arg-1
after_test_arg c = c.before.before

returns : tie.Need-returns
returns c = c.test.ensures ∙ ap returned_test (after_kept (after_test_arg c)).kept.ensures

pub kb_kept_spec : {M : Type 1} → statement M
kb_kept_spec = tie.close (tie.spec
    kept-requires
    test-requires
    same_length
    returns)
