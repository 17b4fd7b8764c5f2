-- `reencoding::block::sign`: a literal is negative if its code is odd.
use Rattle.reencoding.proofs.WordLaws.{sign_is}
use Rattle.reencoding.proofs.block.sign.Goals as goal

pub returns : goal.returns
returns c = sign_is _ _ _ c.is_positive.ensures c.from.ensures
