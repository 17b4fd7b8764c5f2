-- `literal::is_state`: the closure tests one byte.
use Rattle.std.proofs.Common.{rules, tests, ltb, sym, ◌∙◌, ne_eqb}
use Rattle.std.proofs.lemmas.Iterator.{YieldsList-from_slice}
use Rattle.definitions.proofs.Chains.{all_of}
use Rattle.literal.proofs.State.{state_long, state_bytes}
use Rattle.literal.proofs.is_state.Goals as goal

pub returns-then-state-atoms : goal.returns-then-state-atoms
returns-then-state-atoms c =
    all_of (λ x. ltb x 2) _ _ c.all.ensures.ran (YieldsList-from_slice c.args.state.now cc) (λ x b q k. search (rules, tests))
    ∙ sym (state_bytes _ _ c.if-state-atoms.true)

pub returns-else-state-atoms : goal.returns-else-state-atoms
returns-else-state-atoms c = ne_eqb _ _ c.if-state-atoms.false ∙ state_long _ _ c.if-state-atoms.false
