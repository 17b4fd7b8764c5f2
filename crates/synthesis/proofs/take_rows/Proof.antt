-- `synthesis::take_rows`: the rows copied to the start of the buffer. Assumes nothing.
use Prim.Native.Nat.{ℕ, ◌+◌, ◌*◌}
use mathlib.Core.List.{List, ◌++◌}
use mathlib.Core.Path.{◌≡◌, sym, ◌∙◌, ap}
use native.Mathlib.Omega.{arith}
use lib.ListN.{length, take, drop}
use lib.Seq.{length-take-le}
use Rattle.definitions.specs.Clauses.{width}
use Rattle.writing.proofs.Writes.{wrote_front}
use borrow.Author.Rules.{rules}
use Rattle.synthesis.proofs.take_rows.Statement.{statement}
use Rattle.synthesis.proofs.take_rows.Tie as tie

-- where the rows are shared: the start, and as many words as they have
abbrev start : tie.After-words-arg-1 → tie.Start
start d = d.before.before.before

size : (d : tie.After-words-arg-1) → let a = (start d).args in length (take (width * a.count) a.work.now) ≡ width * a.count
size d =
    let a = (start d).args in
    length-take-le (width * a.count) a.work.now (start d).requires.0

mul-end : tie.Need-overflow_mul-end
unfolding width
mul-end c = search rules

slice-aggregate-words : tie.Need-slice_bounds-words-end
unfolding width
slice-aggregate-words c = sym (length-take-le (width * c.args.count) c.args.work.now c.requires.0)

words-requires : tie.Need-words-requires
unfolding width
words-requires c κs = omega (arith, size c, (start c).requires.1)

same_length : tie.Need-shape_of-clauses
same_length c = search rules

returns : tie.Need-returns
unfolding width
returns c =
    let t = c.before.before in
    let d = t.before in
    let a = (start d).args in
    wrote_front (omega (arith, size d, (start d).requires.1)) t.words.ensures
    ∙ ap (λ (k : ℕ). take (width * a.count) a.work.now ++ drop k a.clauses.now) (size d)

pub take_rows_spec : {M : Type 1} → statement M
take_rows_spec = tie.close (tie.spec
    mul-end
    slice-aggregate-words
    words-requires
    same_length
    returns)
