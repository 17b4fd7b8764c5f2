-- All atoms are made false, then those of the initial list true.
use Rattle.std.proofs.Common.{ℕ, List, ◌∙◌, ap, length}
use lib.ListN.{replicate}
use Rattle.state.specs.Flags.{set_true}
use Rattle.state.proofs.Flags.{initial_made}
use Rattle.state.proofs.write_initial.Goals as goal

pub returns : goal.returns
returns c =
    let s = c.args.state.now in
    let zeros : List ℕ = replicate (length s) 0 in
    c.set_true.ensures
    ∙ ap (set_true c.initial.result.now) c.clear.ensures
    ∙ ap (λ (xs : List ℕ). set_true xs zeros) c.initial.ensures
    ∙ initial_made _ _ c.requires.1
