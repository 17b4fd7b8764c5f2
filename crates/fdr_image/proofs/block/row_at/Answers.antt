-- `fdr_image::block::row_at`: a whole row has its words in the block, and ends where its conditions do.
use Rattle.std.proofs.Common.{arith, refl}
use Rattle.fdr_image.proofs.RowLaws.{whole_fits}
use Rattle.fdr_image.proofs.block.row_at.Goals as goal

pub overflow_add-from : goal.overflow_add-from
overflow_add-from c = omega (arith, whole_fits _ _ c.requires)

pub offset_bounds-block-at : goal.offset_bounds-block-at
offset_bounds-block-at c = omega (arith, whole_fits _ _ c.requires)

pub bounds-block-at : goal.bounds-block-at
bounds-block-at c = omega (arith, whole_fits _ _ c.requires)

pub overflow_add-at : goal.overflow_add-at
overflow_add-at c = omega (arith, whole_fits _ _ c.requires)

pub offset_bounds-block-at-2 : goal.offset_bounds-block-at-2
offset_bounds-block-at-2 c = omega (arith, whole_fits _ _ c.requires)

pub bounds-block-at-2 : goal.bounds-block-at-2
bounds-block-at-2 c = omega (arith, whole_fits _ _ c.requires)

pub overflow_add-at-2 : goal.overflow_add-at-2
overflow_add-at-2 c = omega (arith, whole_fits _ _ c.requires)

pub offset_bounds-block-at-3 : goal.offset_bounds-block-at-3
offset_bounds-block-at-3 c = omega (arith, whole_fits _ _ c.requires)

pub bounds-block-at-3 : goal.bounds-block-at-3
bounds-block-at-3 c = omega (arith, whole_fits _ _ c.requires)

pub overflow_add-at-3 : goal.overflow_add-at-3
overflow_add-at-3 c = omega (arith, whole_fits _ _ c.requires)

pub offset_bounds-block-at-4 : goal.offset_bounds-block-at-4
offset_bounds-block-at-4 c = omega (arith, whole_fits _ _ c.requires)

pub bounds-block-at-4 : goal.bounds-block-at-4
bounds-block-at-4 c = omega (arith, whole_fits _ _ c.requires)

pub overflow_add-result : goal.overflow_add-result
overflow_add-result c = omega (arith, whole_fits _ _ c.requires, c.wide-3.ensures.0)

pub returns : goal.returns
returns c =
    let k = c.wide-3.ensures.0 in
    record {
      kind_is = refl;
      variable_is = c.wide.ensures.0;
      value_is = c.wide-2.ensures.0;
      from_is = refl;
      end_is = omega arith;
      high = omega (arith, whole_fits _ _ c.requires);
      word = c.wide-2.ensures.1;
    }
