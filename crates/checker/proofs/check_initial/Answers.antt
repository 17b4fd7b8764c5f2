-- The initial state is written into a local array, and the clauses tested there.
use Rattle.std.proofs.Common.{◌∙◌, ◌≤◌, length, arith}
use Rattle.judge.proofs.Parts.{came_back}
use Rattle.checker.proofs.Checking.{false_true}
use Rattle.checker.proofs.check_initial.Goals as goal

pub returns : goal.returns
returns c =
    let fits : c.args.atoms ≤ length c.state-state.result = omega (arith, c.state-state.ensures, c.requires.few) in
    let came = came_back c.args.atoms c.state-state.result c.write_initial.new.state fits c.write_initial.auto.state in
    c.check_true.ensures ∙ false_true _ _ _ (came.part ∙ c.write_initial.ensures)
