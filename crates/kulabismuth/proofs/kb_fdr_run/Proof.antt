use mathlib.Core.Path.{ap, ◌∙◌}
use Prim.Native.Nat.{ℕ}
use Rattle.definitions.specs.Answer.{Outcome, outcome}
use Rattle.kulabismuth.specs.Returned.{returned_count}
use borrow.Author.Rules.{rules}
use Rattle.kulabismuth.proofs.kb_fdr_run.Statement.{statement}
use Rattle.kulabismuth.proofs.kb_fdr_run.Tie as tie

run-requires : tie.Need-run-requires
run-requires c κs = search rules

count-requires : tie.Need-count-requires
count-requires c κs = search rules

same_length : tie.Need-shape_of-state
same_length c = search rules

-- the places of the function
abbrev after_run : tie.After-count-arg-1 → tie.After-run
after_run c = c.before.before.before

abbrev after_count_arg : tie.After-count → tie.After-count-arg-1
after_count_arg c = c.before.before

returns : tie.Need-returns
unfolding outcome
returns c = (
  c.count.ensures ∙ ap returned_count (ap (λ (x : Outcome ℕ). x.answer) (after_run (after_count_arg c)).run.ensures),
  ap (λ (x : Outcome ℕ). x.lent) (after_run (after_count_arg c)).run.ensures,
)

pub kb_fdr_run_spec : {M : Type 1} → statement M
kb_fdr_run_spec = tie.close (tie.spec
    run-requires
    count-requires
    same_length
    returns)
