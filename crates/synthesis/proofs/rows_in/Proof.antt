-- `synthesis::rows_in`: the lower of the two numbers. Assumes nothing.
use Rattle.definitions.specs.Clauses.{width, most_rows}
use Rattle.synthesis.proofs.Limits.{rows_few, rows_most}
use borrow.Author.Rules.{rules}
use Rattle.synthesis.proofs.rows_in.Statement.{statement}
use Rattle.synthesis.proofs.rows_in.Tie as tie

returns : tie.Need-returns-then-rows-lt-MOST_ROWS
unfolding width most_rows
returns c = rows_few c.args.words c.if-rows-lt-MOST_ROWS.true

returns-2 : tie.Need-returns-else-rows-lt-MOST_ROWS
unfolding width most_rows
returns-2 c = rows_most c.args.words c.if-rows-lt-MOST_ROWS.false

pub rows_in_spec : {M : Type 1} → statement M
rows_in_spec = tie.close (tie.spec
    returns
    returns-2)
