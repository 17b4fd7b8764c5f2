-- `propagation::is_false`: the mark of the complement.
use mathlib.Core.Path.{◌≡◌, ◌∙◌, ap}
use Prim.Native.Nat.{ℕ}
use Rattle.definitions.specs.Literal.{complement}
use Rattle.definitions.specs.Marks.{marked}
use borrow.Author.Rules.{rules}
use Rattle.propagation.proofs.is_false.Statement.{statement}
use Rattle.propagation.proofs.is_false.Tie as tie

-- where the complement is known: the start, and its place
abbrev start : tie.After-index → tie.Start
start d = d.before.before.before

place : (d : tie.After-index) → d.index.result ≡ complement (start d).args.l
place d = d.index.ensures ∙ d.complement-opposite.ensures

complement-requires : tie.Need-complement-opposite-requires
complement-requires c κs = search rules

index-requires : tie.Need-index-requires
index-requires c κs = search rules

is-marked-requires : tie.Need-is_marked-requires
is-marked-requires c κs = search rules

returns : tie.Need-returns
returns c =
    let d = c.before in
    c.is_marked.ensures ∙ ap (λ (x : ℕ). marked (start d).args.marks.now x) (place d)

pub is_false_spec : {M : Type 1} → statement M
is_false_spec = tie.close (tie.spec
    complement-requires
    index-requires
    is-marked-requires
    returns)
