-- `text::write_named`: the word, and then the field.
use Rattle.writing.proofs.Writes.{wrote_both}
use Rattle.text.proofs.write_named.Goals as goal

pub returns : goal.returns
returns c = wrote_both c.write-to.ensures c.write_number.ensures
