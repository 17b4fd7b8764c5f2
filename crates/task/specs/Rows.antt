-- The rows of a block that are left to a walk. Assumes nothing.
use Rattle.std.specs.Prelude.{List}
use Rattle.definitions.specs.Image as paper
use Rattle.task.specs.declared.rows.Row.{Row}
use Rattle.task.specs.declared.rows.Rows.{Rows}
use Rattle.task.specs.Walk.{row, rows_at}

abbrev pub row_of : Row → paper.Row
row_of r = row r.effect r.conditions.now

abbrev pub rows_left : Rows → List paper.Row
rows_left it = rows_at it.block.now it.at it.left
