-- Question 10 of each clause that is left.
use Rattle.std.proofs.Common.{◌∙◌, [], refl, ap}
use Rattle.definitions.specs.Answer.{refused, ask_at, ◌>>=◌}
use Rattle.definitions.specs.Literal.{holds_in}
use Rattle.definitions.specs.Clauses.{width}
use Rattle.clause.specs.Rows.{clauses_of}
use Rattle.clause.proofs.RowWalks.{walk_start}
use Rattle.clause.proofs.ClauseWalks.{clauses_passed, clause_there, clause_read, next_walked}
use Rattle.checker.proofs.Checking.{first_asked, none_asked}
use Rattle.checker.proofs.check_true.Goals as goal

pub loop-number-init : goal.loop-number-init
unfolding width
loop-number-init c =
    let it = c.enumerate-number-items.ensures in
    let start = c.into_iter-number-iterator.ensures.into_iter_gives in
    let chunks = c.chunks_exact.ensures in
    record {
      walked = rw (start, it.source, it.count) (walk_start chunks.size chunks.rest);
      rest = rw (start, it.count) refl;
    }

pub returns-then-not-holds : goal.returns-then-not-holds
unfolding ask_at ◌>>=◌
returns-then-not-holds c =
    let i = c.loop-number.invariant in
    let s = c.in-Some.ensures.steps in
    rw (
      ← i.rest,
      first_asked (holds_in c.args.state.now) (clauses_of c.args.clauses.now) _ [] _ (clause_read i.walked c.in-Some.row c.next.new.self.iter s.0 refl)
          (clause_there i.walked c.in-Some.row c.next.new.self.iter s.0),
      ← c.holds.ensures,
      c.if-not-holds.true,
      ← s.1,
    )
    (ap refused c.at.ensures)

pub loop-number-preserved : goal.loop-number-preserved
unfolding ask_at ◌>>=◌
loop-number-preserved c =
    let i = c.loop-number.invariant in
    let s = c.in-Some.ensures.steps in
    record {
      walked = next_walked i.walked c.in-Some.row c.next.new.self.iter s.0 s.2;
      rest =
          rw (
            s.2,
            ← i.rest,
            first_asked (holds_in c.args.state.now) (clauses_of c.args.clauses.now) _ [] _ (clause_read i.walked c.in-Some.row c.next.new.self.iter s.0 refl)
                (clause_there i.walked c.in-Some.row c.next.new.self.iter s.0),
            ← c.holds.ensures,
            c.if-not-holds.false,
          )
          refl;
    }

pub returns : goal.returns
returns c =
    let i = c.loop-number.invariant in
    none_asked (holds_in c.args.state.now) (clauses_of c.args.clauses.now) _ (clauses_passed i.walked _ c.in-None.ensures.steps.0) ∙ i.rest
