-- `literal::is_literal_list`: the whole test is the test of what is left at the first word.
use Rattle.literal.proofs.Ascends.{literals_ascend}
use Rattle.literal.proofs.is_literal_list.Goals as goal

pub loop-word-init : goal.loop-word-init
loop-word-init c = literals_ascend _ _
