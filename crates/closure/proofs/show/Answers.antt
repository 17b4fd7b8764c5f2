-- The precondition is a part of the operator's block; its closure is marked and counted.
use Rattle.closure.proofs.Calls.{close_asked, show_done}
use Rattle.closure.proofs.show.Goals as goal

pub close_fully-requires : goal.close_fully-requires
close_fully-requires c =
    close_asked _ _ _ _ c.requires _ c.atoms-atoms.ensures.0 _ c.operator_block-block.ensures _ c.precondition-precondition.ensures c.atoms-atoms.ensures.1

pub returns : goal.returns
returns c =
    show_done _ _ _ _ c.requires _ c.atoms-atoms.ensures.0 _ c.operator_block-block.ensures _ c.precondition-precondition.ensures _ _
    c.close_fully.ensures c.count.ensures
