-- `card::line::write_clause`: field i is the next one to be written, its separator and then its literal.
use Rattle.writing.proofs.Writes.{write_last, word_room}
use Rattle.card.proofs.LineLaws.{clause_begun, separator_room, literal_room, field_written, clause_end}
use Rattle.card.proofs.line.write_clause.Goals as goal

pub loop-i-init : goal.loop-i-init
loop-i-init c = clause_begun _

pub separate-to-requires : goal.separate-to-requires
separate-to-requires c = separator_room _ _ c.loop-i.invariant c.loop-i-test.true c.requires

pub write_literal-to-requires : goal.write_literal-to-requires
write_literal-to-requires c = literal_room _ _ c.loop-i.invariant c.loop-i-test.true c.separate-to.ensures c.requires

pub loop-i-preserved : goal.loop-i-preserved
loop-i-preserved c = field_written _ _ c.loop-i.invariant c.loop-i-test.true c.separate-to.ensures c.write_literal-to.ensures

pub byte-requires : goal.byte-requires
byte-requires c = word_room (clause_end _ _ c.loop-i.invariant c.loop-i-test.false) c.requires

pub returns : goal.returns
returns c = write_last (clause_end _ _ c.loop-i.invariant c.loop-i-test.false) c.byte.ensures
