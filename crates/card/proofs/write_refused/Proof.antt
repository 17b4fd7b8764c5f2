use native.Mathlib.Omega.{arith}
use Rattle.answer.specs.Answer.{placed}
use Rattle.card.proofs.Size.{refusal_size}
use borrow.Author.Rules.{rules}
use Rattle.card.proofs.write_refused.Statement.{statement}
use Rattle.card.proofs.write_refused.Tie as tie

write-refusal-requires : tie.Need-write_refusal-requires
write-refusal-requires c κs = let p = c.requires in let h = refusal_size (placed c.args.f) in omega arith

same_length : tie.Need-shape_of-out
same_length c = search rules

returns : tie.Need-returns
returns c = search rules

pub write_refused_spec : {M : Type 1} → statement M
write_refused_spec = tie.close (tie.spec
    write-refusal-requires
    same_length
    returns)
