-- Each way through the loop is a law of the walk over the atoms.
use Rattle.std.proofs.Common.{arith, refl}
use Rattle.fdr_image.proofs.Reading.{variables_are}
use Rattle.coding.proofs.Laws.{walked_none, walked_on, found_all, found_two}
use Rattle.coding.proofs.found.find.Goals as goal

pub loop-a-init : goal.loop-a-init
loop-a-init c = walked_none _ _ _ c.requires.empty

pub note-requires : goal.note-requires
note-requires c =
    let few = variables_are _ c.requires.reads in
    (omega (arith, few.0, few.1, c.atom_variable-variable.ensures.1, c.loop-a.invariant.size), c.atom_value-value.ensures.1)

pub returns-then-not-note : goal.returns-then-not-note
returns-then-not-note c =
    found_two _ _ c.loop-a.a _ c.loop-a.invariant c.loop-a-test.true c.requires.source _ _ _ c.atom_variable-variable.ensures.0
    c.atom_value-value.ensures.0 refl c.atom_variable-variable.ensures.1 _ _ c.note.ensures c.if-not-note.true

pub loop-a-preserved : goal.loop-a-preserved
loop-a-preserved c =
    walked_on _ _ c.loop-a.a _ c.loop-a.invariant c.loop-a-test.true c.requires.source _ _ _ c.atom_variable-variable.ensures.0
    c.atom_value-value.ensures.0 refl _ _ c.note.ensures c.if-not-note.false

pub returns : goal.returns
returns c = found_all _ _ _ _ c.loop-a.invariant c.loop-a-test.false
