use Rattle.std.proofs.Common.{◌<◌, ◌∙◌, length, sym, refl, arith}
use Rattle.definitions.specs.Clauses.{width}
use Rattle.clause.specs.Rows.{clauses_of}
use Rattle.clause.proofs.RowWalks.{walk_start, walk_inside}
use Rattle.clause.proofs.ClauseWalks.{clauses_passed, clause_there, clause_read, next_walked}
use Rattle.judge.specs.Judging.{lacks_flag}
use Rattle.judge.proofs.Flagged.{flag_set, flag_stay, flag_end}
use Rattle.judge.proofs.bulk.flag_lacking.Goals as goal

pub loop-number-init : goal.loop-number-init
unfolding width
loop-number-init c =
    let it = c.enumerate-number-items.ensures in
    let start = c.into_iter-number-iterator.ensures.into_iter_gives in
    let chunks = c.chunks_exact.ensures in
    record {
      walked = rw (start, it.source, it.count) (walk_start chunks.size chunks.rest);
      rest = rw (start, it.count) refl;
    }

pub bounds-fails-number : goal.bounds-fails-number
bounds-fails-number c =
    let s = c.in-Some.ensures.steps in
    omega (arith, s.1, walk_inside c.loop-number.invariant.walked c.in-Some.row c.next.new.self.iter s.0, c.loop-number.auto.fails, c.requires)

pub loop-number-preserved-then-lacks_flag : goal.loop-number-preserved-then-lacks_flag
loop-number-preserved-then-lacks_flag c =
    let i = c.loop-number.invariant in
    let s = c.in-Some.ensures.steps in
    let low : c.loop-number.number-iterator.count < length c.loop-number.fails =
    omega (arith, walk_inside i.walked c.in-Some.row c.next.new.self.iter s.0, c.loop-number.auto.fails, c.requires) in
    record {
      walked = next_walked i.walked c.in-Some.row c.next.new.self.iter s.0 s.2;
      rest =
          i.rest
          ∙ rw (s.2, s.1)
          (flag_set (lacks_flag _ _) (clauses_of c.args.judged.now) _ _ _ (clause_read i.walked c.in-Some.row c.next.new.self.iter s.0 refl)
          (clause_there i.walked c.in-Some.row c.next.new.self.iter s.0) low (sym c.lacks_flag.ensures ∙ c.if-lacks_flag.true));
    }

pub loop-number-preserved : goal.loop-number-preserved
loop-number-preserved c =
    let i = c.loop-number.invariant in
    let s = c.in-Some.ensures.steps in
    let low : c.loop-number.number-iterator.count < length c.loop-number.fails =
    omega (arith, walk_inside i.walked c.in-Some.row c.next.new.self.iter s.0, c.loop-number.auto.fails, c.requires) in
    record {
      walked = next_walked i.walked c.in-Some.row c.next.new.self.iter s.0 s.2;
      rest =
          i.rest
          ∙ rw s.2
          (flag_stay (lacks_flag _ _) (clauses_of c.args.judged.now) _ _ _ (clause_read i.walked c.in-Some.row c.next.new.self.iter s.0 refl)
          (clause_there i.walked c.in-Some.row c.next.new.self.iter s.0) low (sym c.lacks_flag.ensures ∙ c.if-lacks_flag.false));
    }

pub returns : goal.returns
returns c =
    let i = c.loop-number.invariant in
    sym (i.rest ∙ flag_end (lacks_flag _ _) (clauses_of c.args.judged.now) _ _ (clauses_passed i.walked _ c.in-None.ensures.steps.0))
