use Rattle.std.proofs.Common.{rules}
use Rattle.definitions.specs.Step.{fires}
use Rattle.state.proofs.effect.flag_fired.Goals as goal

pub loop-effect-preserved : goal.loop-effect-preserved
unfolding fires
loop-effect-preserved c = search rules
