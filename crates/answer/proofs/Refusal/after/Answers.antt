use Rattle.std.proofs.Common.{refl}
use Rattle.definitions.specs.StepLists.{refused_after}
use Rattle.answer.proofs.Refusal.after.Goals as goal

pub returns : goal.returns
unfolding refused_after
returns c = refl
