-- The directory, then the lists.
use Rattle.std.proofs.Common.{◌∙◌, sym, arith}
use Rattle.answer.proofs.Laws.{left_by, handed_on, goes_on, asked_yes}
use Rattle.definitions.specs.Answer.{ask}
use Rattle.task.specs.Walk.{parts_answer}
use Rattle.task.proofs.Questions.{counts_atoms, counts_operators}
use Rattle.task.proofs.read_parts.Goals as goal

pub is_directory-laid-requires : goal.is_directory-laid-requires
is_directory-laid-requires c = omega (arith, c.wide-operators.ensures.0, counts_operators _ c.requires.1)

pub returns-in_err-ask : goal.returns-in_err-ask
unfolding parts_answer
returns-in_err-ask c =
    left_by _ _ c.from_residual.ensures.1
    ∙ rw (← c.wide-operators.ensures.0, ← c.is_directory-laid.ensures) (handed_on _ _ _ c.in_err-ask.ensures)

pub read_lists-requires : goal.read_lists-requires
unfolding ask
read_lists-requires c = record {
  few = omega (arith, c.wide.ensures.0, counts_atoms _ c.requires.1);
  few_operators = omega (arith, c.wide-operators.ensures.0, counts_operators _ c.requires.1);
  directory = sym c.is_directory-laid.ensures ∙ asked_yes _ _ _ _ c.in_ok-ask.ensures;
}

pub returns : goal.returns
unfolding parts_answer
returns c =
    rw (← c.wide-operators.ensures.0, ← c.is_directory-laid.ensures, ← c.wide.ensures.0)
    (c.read_lists.ensures ∙ goes_on _ _ _ c.in_ok-ask.ensures)
