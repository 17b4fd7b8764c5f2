-- `fdr::change::new_value`: by what is noted for the variable; a noted value lies in the variable's domain, which fits a word.
use Rattle.std.proofs.Common.{arith, ◌*◌}
use Rattle.fdr_image.proofs.DomainLaws.{values_at_lem}
use Rattle.fdr.proofs.Applied.{become_stays, become_none, become_value}
use Rattle.fdr.proofs.change.new_value.Goals as goal

pub overflow_cast-result-in_default : goal.overflow_cast-result-in_default
overflow_cast-result-in_default c =
    let w = c.args.domains.now in
    omega (arith, c.requires.inside, values_at_lem w c.args.variable c.requires.low, c.type_inv.domains (2 * c.args.variable))

pub returns-in-0 : goal.returns-in-0
returns-in-0 c = become_stays _ _ _ c.in-0.is

pub returns-in-1 : goal.returns-in-1
returns-in-1 c = become_none _ _ _ _ c.size.ensures.0 c.in-1.is

pub returns-in_default : goal.returns-in_default
returns-in_default c = become_value _ _ _ (λ e. omega arith) (λ e. omega arith)
