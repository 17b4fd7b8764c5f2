use Rattle.std.proofs.Common.{sym, refl, ◌∙◌}
use Rattle.definitions.specs.Lists.{any}
use Rattle.definitions.specs.Clauses.{width}
use Rattle.clause.proofs.ClauseWalks.{rows_done, rows_size, rows_first}
use Rattle.judge.proofs.bulk.some_holds.Goals as goal

pub loop-row-init : goal.loop-row-init
unfolding width
loop-row-init c =
    let start = c.into_iter-row-iterator.ensures.into_iter_gives in
    let chunks = c.chunks_exact-row-items.ensures in
    record { size = rw start chunks.size; rest = rw (start, chunks.rest) refl }

pub returns-then-has_literal : goal.returns-then-has_literal
unfolding any
returns-then-has_literal c =
    let i = c.loop-row.invariant in
    sym
    (i.rest
    ∙ rw (rows_first c.loop-row.row-iterator i.size c.in-Some.row c.next.new.self c.in-Some.ensures.steps, ← c.has_literal.ensures, c.if-has_literal.true))

pub loop-row-preserved : goal.loop-row-preserved
unfolding any
loop-row-preserved c =
    let i = c.loop-row.invariant in
    let s = c.in-Some.ensures.steps in
    record {
      size = rows_size c.loop-row.row-iterator i.size c.in-Some.row c.next.new.self s;
      rest =
          i.rest
          ∙ rw (rows_first c.loop-row.row-iterator i.size c.in-Some.row c.next.new.self s, ← c.has_literal.ensures, c.if-has_literal.false);
    }

pub returns : goal.returns
unfolding any
returns c =
    let i = c.loop-row.invariant in
    sym (i.rest ∙ rw (rows_done c.loop-row.row-iterator i.size c.next.new.self c.in-None.ensures.steps))
