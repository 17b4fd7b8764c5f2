-- `next_set::test::test`: the flags of an operator's failing clauses are added to those of the operators before.
use mathlib.Core.Path.{sym, ◌∙◌}
use Rattle.clause.proofs.RowLaws.{clauses_length}
use Rattle.next_set.proofs.Noting.{tested_start, tested_next}
use Rattle.next_set.proofs.Testing.{read_sizes}
use Rattle.next_set.proofs.test.test.Goals as goal

pub loop-operator-init : goal.loop-operator-init
loop-operator-init c = rw (c.clear.ensures, c.clear-2.ensures) (tested_start _ _ _ _ (c.requires.1 ∙ sym (clauses_length c.args.clauses.now)))

pub loop-operator-preserved : goal.loop-operator-preserved
loop-operator-preserved c =
    let l = c.loop-operator in
    let o = c.test_operator in
    let read = c.requires.0.read in
    tested_next _ _ (read_sizes _ _ _ read) c.args.atoms l.operator read.counted l.failing _ l.due _ l.invariant o.ensures o.auto.due
