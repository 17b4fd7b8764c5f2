-- The rows of a block that are left to a walk. Assumes nothing.
use Rattle.std.specs.Prelude.{List}
use Rattle.definitions.specs.FdrImage.{literals_in}
use Rattle.definitions.specs.Fdr as paper
use Rattle.fdr_image.specs.declared.rows.Row.{Row}
use Rattle.fdr_image.specs.declared.rows.Rows.{Rows}
use Rattle.fdr_image.specs.Walk.{row, rows_at}

abbrev pub row_of : Row → paper.FdrRow
row_of r = row r.kind r.variable r.value (literals_in r.conditions.now)

abbrev pub rows_left : Rows → List paper.FdrRow
rows_left it = rows_at it.block.now it.at it.left
