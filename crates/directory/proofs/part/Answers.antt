-- `directory::part`: the words from the offset to the end are the part.
use native.Mathlib.Omega.{arith}
use Rattle.directory.proofs.Laws.{end_within, part_cut}
use Rattle.directory.proofs.part.Goals as goal

pub slice_bounds-result-end : goal.slice_bounds-result-end
slice_bounds-result-end c = omega (arith, end_within _ _ _ _ c.requires c.wide-start.ensures.0 c.wide.ensures.0)

pub returns : goal.returns
returns c = part_cut _ _ _ _ c.wide-start.ensures.0 c.wide.ensures.0
