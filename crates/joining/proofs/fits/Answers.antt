-- `joining::fits`: the four limits of question 27, the image's length by those of both images.
use Rattle.std.proofs.Common.{arith}
use Rattle.std.proofs.lemmas.Grind.{common_steps}
use Rattle.joining.proofs.PartLaws.{words_are, limits_are}
use Rattle.joining.proofs.fits.Goals as goal

pub overflow_sub-words : goal.overflow_sub-words
overflow_sub-words c = omega (arith, words_are _ _ c.requires.0 c.requires.1)

pub returns-then-words-le-MOST_WORDS : goal.returns-then-words-le-MOST_WORDS
returns-then-words-le-MOST_WORDS c = rw (← limits_are _ _ c.requires.0 c.requires.1 c.args.room) (grind (arith, common_steps))

pub returns-else-words-le-MOST_WORDS : goal.returns-else-words-le-MOST_WORDS
returns-else-words-le-MOST_WORDS c = rw (← limits_are _ _ c.requires.0 c.requires.1 c.args.room) (grind (arith, common_steps))
