-- `propagation::marks::clear`: zeros, and then the lowest bits of the next byte.
use mathlib.Core.Path.{sym}
use native.Mathlib.Omega.{arith}
use lib.Seq.{length-take-le}
use borrow.Author.Rules.{rules}
use Rattle.definitions.specs.Marks.{mark_bytes}
use Rattle.propagation.proofs.View.{zeros_front, next_byte, cleared_whole, cleared_part}
use Rattle.propagation.proofs.marks.clear.Goals as goal

pub slice_bounds-fill-end : goal.slice_bounds-fill-end
unfolding mark_bytes
slice_bounds-fill-end c = omega arith

pub slice_bounds-fill-end-2 : goal.slice_bounds-fill-end-2
unfolding mark_bytes
slice_bounds-fill-end-2 c = sym (length-take-le _ _ (omega arith))

pub bounds-marks-whole : goal.bounds-marks-whole
bounds-marks-whole c = next_byte _ _ _ _ _ c.requires (c.fill.ensures.after (search rules)) c.if-left-ne0.true

pub bounds-marks-whole-then-left-ne0 : goal.bounds-marks-whole-then-left-ne0
bounds-marks-whole-then-left-ne0 c = next_byte _ _ _ _ _ c.requires (c.fill.ensures.after (search rules)) c.if-left-ne0.true

pub bounds-marks-whole-then-left-ne0-2 : goal.bounds-marks-whole-then-left-ne0-2
bounds-marks-whole-then-left-ne0-2 c = next_byte _ _ _ _ _ c.requires (c.fill.ensures.after (search rules)) c.if-left-ne0.true

pub returns-then-left-ne0 : goal.returns-then-left-ne0
unfolding mark_bytes
returns-then-left-ne0 c = cleared_part _ _ _ c.requires (zeros_front _ _ _ c.requires (c.fill.ensures.after (search rules))) (omega arith)

pub returns-else-left-ne0 : goal.returns-else-left-ne0
returns-else-left-ne0 c = cleared_whole _ _ _ c.requires (zeros_front _ _ _ c.requires (c.fill.ensures.after (search rules))) c.if-left-ne0.false
