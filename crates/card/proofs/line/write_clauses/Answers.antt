-- `card::line::write_clauses`: the line of the first row of those left is written.
use Rattle.std.proofs.Common.{◌∙◌, arith}
use Rattle.definitions.specs.Clauses.{width}
use Rattle.definitions.specs.Card.{clause_line}
use Rattle.writing.proofs.Writes.{write_same, write_part, write_end, part_room}
use Rattle.card.proofs.LineLaws.{rows_next, rows_end}
use Rattle.card.proofs.line.write_clauses.Goals as goal

pub write_clause-to-requires : goal.write_clause-to-requires
unfolding width
write_clause-to-requires c =
    let s = c.in-Some.ensures.steps in
    let i = c.loop-row.invariant in
    part_room (clause_line c.literals.result.now) _ (write_same (rows_next _ _ (s.1.1 ∙ i.wide) c.literals.ensures _ _ s.1.0) i.left) c.requires

pub loop-row-preserved : goal.loop-row-preserved
unfolding width
loop-row-preserved c =
    let s = c.in-Some.ensures.steps in
    let i = c.loop-row.invariant in
    record {
      wide = s.0 ∙ i.wide;
      left = write_part (write_same (rows_next _ _ (s.1.1 ∙ i.wide) c.literals.ensures _ _ s.1.0) i.left) c.write_clause-to.ensures;
    }

pub returns : goal.returns
unfolding width
returns c =
    let i = c.loop-row.invariant in
    let over = c.in-None.ensures.steps.1.0 in
    write_end (write_same (rows_end _ (omega (arith, over, i.wide))) i.left)
