-- The flags that are lent are zeros.
use Rattle.std.proofs.Common.{ℕ, ◌*◌, ◌∙◌, ap, arith}
use lib.ListN.{replicate}
use Rattle.definitions.specs.Literal.{most_literals}
use Rattle.state.proofs.Flags.{take_zeros}
use Rattle.state.proofs.run_read.Goals as goal

pub run_flagged-requires : goal.run_flagged-requires
run_flagged-requires c =
    (c.requires, take_zeros (2 * c.atoms-count.result) most_literals (omega arith) ∙ ap (λ (k : ℕ). replicate (2 * k) 0) c.atoms-count.ensures.0)
