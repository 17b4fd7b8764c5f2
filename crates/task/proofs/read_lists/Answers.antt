-- The initial atoms, the goal, then the operators.
use Rattle.std.proofs.Common.{◌∙◌, arith}
use Rattle.directory.proofs.Laws.{directory_lies}
use Rattle.answer.proofs.Laws.{left_by, handed_on, goes_on}
use Rattle.task.specs.Walk.{lists_answer}
use Rattle.task.proofs.read_lists.Goals as goal

pub part-initial-requires : goal.part-initial-requires
part-initial-requires c = directory_lies _ _ 0 c.requires.directory (omega arith)

pub returns-in_err-ask : goal.returns-in_err-ask
unfolding lists_answer
returns-in_err-ask c =
    left_by _ _ c.from_residual.ensures.1 ∙ rw (← c.part-initial.ensures, ← c.is_atom_list.ensures) (handed_on _ _ _ c.in_err-ask.ensures)

pub part-goal-requires : goal.part-goal-requires
part-goal-requires c = directory_lies _ _ 1 c.requires.directory (omega arith)

pub returns-in_err-ask-2 : goal.returns-in_err-ask-2
unfolding lists_answer
returns-in_err-ask-2 c =
    left_by _ _ c.from_residual-in_err-ask-2.ensures.1
    ∙ rw (← c.part-initial.ensures, ← c.is_atom_list.ensures, ← c.part-goal.ensures, ← c.is_literal_list.ensures)
    (handed_on _ _ _ c.in_err-ask-2.ensures ∙ goes_on _ _ _ c.in_ok-ask.ensures)

pub returns : goal.returns
unfolding lists_answer
returns c =
    rw (← c.part-initial.ensures, ← c.is_atom_list.ensures, ← c.part-goal.ensures, ← c.is_literal_list.ensures)
    (c.check_operators.ensures ∙ goes_on _ _ _ c.in_ok-ask-2.ensures ∙ goes_on _ _ _ c.in_ok-ask.ensures)
