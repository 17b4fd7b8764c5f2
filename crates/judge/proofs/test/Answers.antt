-- The clause is judged as a list of one row.
use Rattle.std.proofs.Common.{refl}
use Rattle.judge.proofs.Keeping.{asks_bulk, asks_answer}
use Rattle.judge.proofs.test.Goals as goal

pub judge-requires : goal.judge-requires
judge-requires c =
    asks_bulk _ _ _ c.args.operator c.args.marks.now c.requires _ c.atoms-atoms.ensures.0 c.atoms-atoms.ensures.1 _ _
    c.operator_block-block.ensures refl

pub returns : goal.returns
returns c =
    asks_answer _ _ _ c.args.operator c.args.marks.now c.requires _ c.atoms-atoms.ensures.0 _ _ c.has.result
    c.operator_block-block.ensures.operator c.judge.ensures c.has.ensures
