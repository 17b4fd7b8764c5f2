-- `fdr_image::is_state`: the domains are those of the task.
use mathlib.Core.Path.{◌∙◌, ap}
use mathlib.Core.List.{List}
use Rattle.definitions.specs.Groups.{Domain}
use Rattle.definitions.specs.FdrImage.{values_right}
use Rattle.definitions.specs.FdrStep.{is_fdr_state}
use Rattle.fdr_image.proofs.is_state.Goals as goal

pub returns : goal.returns
unfolding is_fdr_state
returns c = c.are_values.ensures ∙ ap (λ (D : List Domain). values_right D c.args.state.now) c.domains.ensures
