-- `synthesis::are_limits`: the tests one after the other. Assumes nothing.
use Rattle.definitions.specs.Clauses.{width}
use Rattle.synthesis.proofs.Limits.{limits_none, limits_wide, limits_rounds, limits_rest}
use borrow.Author.Rules.{rules}
use Rattle.synthesis.proofs.are_limits.Statement.{statement}
use Rattle.synthesis.proofs.are_limits.Tie as tie

-- where the number of literals is right
abbrev start : tie.Else-n-gt-WIDTH → tie.Start
start d = d.before.before

returns : tie.Need-returns-then-n-lt1
returns c = limits_none c.args.n c.args.limit c.if-n-lt1.true

returns-2 : tie.Need-returns-then-n-gt-WIDTH
unfolding width
returns-2 c =
    let a = c.args in
    limits_wide a.n a.limit c.if-n-lt1.false c.if-n-gt-WIDTH.true

returns-3 : tie.Need-returns-then-limit-lt1
unfolding width
returns-3 c =
    let d = c.before in
    let a = (start d).args in
    limits_rounds a.n a.limit d.if-n-lt1.false d.if-n-gt-WIDTH.false c.if-limit-lt1.true

returns-4 : tie.Need-returns
unfolding width
returns-4 c =
    let d = c.before in
    let a = (start d).args in
    limits_rest a.n a.limit d.if-n-lt1.false d.if-n-gt-WIDTH.false c.if-limit-lt1.false

pub are_limits_spec : {M : Type 1} → statement M
are_limits_spec = tie.close (tie.spec
    returns
    returns-2
    returns-3
    returns-4)
