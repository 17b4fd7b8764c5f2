use Rattle.std.proofs.Common.{arith, ◌∙◌}
use Rattle.cases.proofs.Laws.{values_end, bytes_listed}
use Rattle.cases.proofs.input.load_small.Goals as goal

pub load_bytes-requires : goal.load_bytes-requires
load_bytes-requires c =
    let from = c.start.ensures in
    let count = c.stored.ensures in
    let within = c.requires in
    let e = values_end c.args.words.now c.args.at 3 (omega arith) (omega arith) in
    omega arith

pub returns : goal.returns
returns c = c.load_bytes.ensures ∙ bytes_listed _ _ _ _ _ c.start.ensures c.stored.ensures
