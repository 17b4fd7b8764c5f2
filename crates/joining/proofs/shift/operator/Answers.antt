-- The precondition, the number of rows, the rows.
use Rattle.std.proofs.Common.{ap, ◌∙◌, arith, length}
use Rattle.task.proofs.BlockSizes.{rows_few}
use Rattle.joining.proofs.ShiftLaws.{precondition_given, rows_next, count_room, rows_given, block_written}
use Rattle.joining.proofs.shift.operator.Goals as goal

pub counted-to-requires : goal.counted-to-requires
counted-to-requires c = precondition_given c.requires.0 c.requires.1 c.requires.2 c.precondition.ensures

pub overflow_cast-target : goal.overflow_cast-target
overflow_cast-target c = omega (arith, rows_few c.requires.1, c.len.ensures ∙ ap length c.of-list.ensures)

pub offset_bounds-target-to : goal.offset_bounds-target-to
offset_bounds-target-to c =
    let s = (rows_next c.requires.0 c.requires.1 c.requires.2 c.precondition.ensures c.counted-to.ensures).size in
    omega (arith, count_room c.requires.0 c.requires.1 c.requires.2 c.precondition.ensures c.counted-to.ensures)

pub bounds-target-to : goal.bounds-target-to
bounds-target-to c = count_room c.requires.0 c.requires.1 c.requires.2 c.precondition.ensures c.counted-to.ensures

pub overflow_add-to : goal.overflow_add-to
overflow_add-to c =
    let s = (rows_next c.requires.0 c.requires.1 c.requires.2 c.precondition.ensures c.counted-to.ensures).size in
    omega (arith, count_room c.requires.0 c.requires.1 c.requires.2 c.precondition.ensures c.counted-to.ensures)

pub rows-requires : goal.rows-requires
rows-requires c =
    rows_given c.requires.0 c.requires.1 c.requires.2 c.precondition.ensures c.counted-to.ensures c.len.ensures c.of-list.ensures

pub returns : goal.returns
returns c =
    block_written c.requires.0 c.requires.1 c.requires.2 c.precondition.ensures c.counted-to.ensures c.len.ensures c.of-list.ensures
    c.rows.ensures
