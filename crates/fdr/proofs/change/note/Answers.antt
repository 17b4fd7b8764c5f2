use Rattle.std.proofs.Common.{Bool, sym, ap, refl, ◌∙◌, arith}
use Rattle.definitions.specs.FdrStep.{fdr_fired}
use Rattle.definitions.specs.Literal.{most_atoms}
use Rattle.fdr_image.specs.Rows.{rows_left}
use Rattle.fdr.specs.Change.{noted}
use Rattle.fdr.proofs.Notes.{low_row, rows_stop, rows_next, rows_end}
use Rattle.fdr.proofs.ByRows.{for_same, for_next, for_stop}
use Rattle.fdr.proofs.change.note.Goals as goal

pub loop-row-init : goal.loop-row-init
unfolding fdr_fired
loop-row-init c =
    let rows = ap rows_left c.into_iter-row-iterator.ensures.into_iter_gives ∙ c.of-row-items.ensures in
    record { low = rw rows c.requires.0.low; noted = rw rows; apart = λ x n. rw (← rows) n }

pub note_row-requires : goal.note_row-requires
note_row-requires c = omega (arith, c.requires.1, (low_row most_atoms _ _ _ c.in-Some.ensures.steps c.loop-row.invariant.low).0)

pub returns-then-not-note_row : goal.returns-then-not-note_row
returns-then-not-note_row c =
    let n = c.note_row in (
      sym
          (c.loop-row.invariant.noted
          ∙ rows_stop _ _ _ _ c.in-Some.ensures.steps _ refl _ n.new.changes
          (ap (λ (b : Bool). noted b n.new.changes) (sym c.if-not-note_row.true) ∙ n.ensures.0)),
      c.loop-row.invariant.apart _ (for_stop _ _ _ c.in-Some.ensures.steps _ _ n.ensures.1),
    )

pub loop-row-preserved : goal.loop-row-preserved
loop-row-preserved c =
    let n = c.note_row in record {
      low = (low_row most_atoms _ _ _ c.in-Some.ensures.steps c.loop-row.invariant.low).1;
      noted =
          c.loop-row.invariant.noted
          ∙ rows_next _ _ _ _ c.in-Some.ensures.steps _ refl _ n.new.changes
          (ap (λ (b : Bool). noted b n.new.changes) (sym c.if-not-note_row.false) ∙ n.ensures.0);
      apart = λ x f. c.loop-row.invariant.apart x (for_next _ _ _ c.in-Some.ensures.steps _ _ _ n.ensures.1 f);
    }

pub returns : goal.returns
returns c =
    (sym (c.loop-row.invariant.noted ∙ rows_end _ _ _ c.in-None.ensures.steps.0), c.loop-row.invariant.apart _ (for_same _ _))
