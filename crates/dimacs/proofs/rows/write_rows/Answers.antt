-- The rows do not fit, or are written.
use Rattle.std.proofs.Common.{◌∙◌, ap, sym, arith}
use Rattle.std.proofs.Math.Seq.{length-take-le}
use Rattle.definitions.specs.Answer.{refused}
use Rattle.definitions.specs.Clauses.{width}
use Rattle.answer.proofs.Laws.{outcome_of}
use Rattle.dimacs.proofs.ReadCalls.{rows_short, rows_done}
use Rattle.dimacs.proofs.rows.write_rows.Goals as goal

pub overflow_mul-end : goal.overflow_mul-end
unfolding width
overflow_mul-end c = omega (arith, c.requires)

pub returns-then-clauses-end : goal.returns-then-clauses-end
unfolding width
returns-then-clauses-end c = λ D r. outcome_of _ _ _ _ (ap refused c.into.ensures) (rows_short D _ _ _ r c.if-clauses-end.true)

pub slice_bounds-copy_from_slice-end-3 : goal.slice_bounds-copy_from_slice-end-3
unfolding width
slice_bounds-copy_from_slice-end-3 c = sym (length-take-le _ _ c.requires)

pub copy_from_slice-requires : goal.copy_from_slice-requires
unfolding width
copy_from_slice-requires c = length-take-le _ _ c.if-clauses-end.false ∙ sym (length-take-le _ _ c.requires)

pub returns : goal.returns
unfolding width
returns c = λ D r. rows_done D _ _ _ r c.requires c.if-clauses-end.false _ c.copy_from_slice.ensures.after
