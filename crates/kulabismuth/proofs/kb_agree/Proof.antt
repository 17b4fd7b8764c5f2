-- `kulabismuth::kb_agree`: both facts of the answer, returned as numbers.
use mathlib.Core.Path.{ap, ◌∙◌}
use Rattle.kulabismuth.specs.Returned.{returned_test}
use borrow.Author.Rules.{rules}
use Rattle.kulabismuth.proofs.kb_agree.Statement.{statement}
use Rattle.kulabismuth.proofs.kb_agree.Tie as tie

-- where the comparison is made
abbrev back : tie.After-test → tie.After-slice_known-2-1
back c = c.before.before.before

abbrev compared : tie.After-test → tie.After-agree
compared c = (back c).before.before

agree-requires : tie.Need-agree-requires
agree-requires c κs = search rules

test-requires : tie.Need-test-requires
test-requires c κs = search rules

same_length : tie.Need-shape_of-marks
same_length c = search rules

returns : tie.Need-returns
returns c =
    let a = (compared c).agree.ensures in
    (c.test.ensures ∙ ap returned_test a.compared, c.test.ensures ∙ ap returned_test a.demand)

pub kb_agree_spec : {M : Type 1} → statement M
kb_agree_spec = tie.close (tie.spec
    agree-requires
    test-requires
    same_length
    returns)
