-- `dimacs_form::header::is_head`: five bytes that are pairwise equal are the same words.
use Rattle.dimacs_form.proofs.FormLaws.{same_pairwise}
use Rattle.definitions.specs.Dimacs.{head_bytes}
use Rattle.dimacs_form.proofs.header.is_head.Goals as goal

pub returns : goal.returns
unfolding head_bytes
returns c = same_pairwise _ _ c.starts_with.ensures.value
