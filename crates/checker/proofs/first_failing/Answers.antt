-- `checker::first_failing`: the first rows are judged, and the first flag among them taken.
use Rattle.std.proofs.Common.{length, sym, arith, length-take-le}
use Rattle.definitions.specs.Clauses.{width}
use Rattle.judge.proofs.Keeping.{given_operator}
use Rattle.checker.proofs.Prefix.{prefix_inside, prefix_count, prefix_judged, prefix_first}
use Rattle.checker.proofs.first_failing.Goals as goal

pub overflow_mul-end : goal.overflow_mul-end
unfolding width
overflow_mul-end c = omega (arith, prefix_inside c.args.clauses.now _ c.requires.inside)

pub slice_bounds-judge-end : goal.slice_bounds-judge-end
unfolding width
slice_bounds-judge-end c = sym (length-take-le _ c.args.clauses.now (prefix_inside c.args.clauses.now _ c.requires.inside))

pub judge-requires : goal.judge-requires
unfolding width
judge-requires c =
    let p = c.requires in
    let r = p.read in
    record {
      given = given_operator _ _ _ _ _ r.task r.counted r.few p.operator_of_lem r.clauses c.operator_block-block.ensures;
      judged = prefix_judged c.args.clauses.now _ p.inside _ r.clauses;
      room = p.marked;
      flagged = sym (prefix_count c.args.clauses.now _ p.inside);
    }

pub returns : goal.returns
unfolding width
returns c =
    prefix_first c.args.clauses.now (length c.args.fails.now) c.requires.inside _ _ _ _ _ _ c.first_flag.ensures c.judge.ensures
    c.operator_block-block.ensures.operator
