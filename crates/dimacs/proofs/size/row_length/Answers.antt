-- `dimacs::size::row_length`: the bytes of one literal more; a line has less than 1000.
use Rattle.std.proofs.Common.{List, ℕ, ◌≡◌, ◌+◌, ◌<◌, ◌≤◌, refl, length, get_or, drop, arith}
use Rattle.definitions.specs.Lists.{each}
use Rattle.definitions.specs.Dimacs.{literal_word}
use Rattle.definitions.specs.Clauses.{width}
use Rattle.text.proofs.Lines.{sum_next, sum_end}
use Rattle.dimacs.specs.Write.{literal_field, row_line}
use Rattle.dimacs.proofs.Parts.{field_bytes, row_bytes, row_size}
use Rattle.dimacs.proofs.size.row_length.Goals as goal

pub loop-l-init : goal.loop-l-init
loop-l-init c = row_bytes c.args.literals.now

-- with one literal more, as the loop is left then
next :
    (xs : List ℕ) (i sum bytes : ℕ) → length (row_line xs) ≡ sum + length (each literal_field (drop i xs)) → i < length xs
    → bytes ≡ length (literal_word (get_or xs i 0)) → length (row_line xs) ≡ sum + (bytes + 1) + length (each literal_field (drop (i + 1) xs))
next xs i sum bytes e h q = sum_next literal_field xs i _ sum e 0 (get_or xs i 0) refl h _ (field_bytes (get_or xs i 0) bytes q)

-- the bytes of a line, and of those so far
low : (xs : List ℕ) (a b : ℕ) → length xs ≤ width → length (row_line xs) ≡ a + b → a < 1000
unfolding width
low xs a b h e = omega (arith, row_size xs h)

pub overflow_add-sum : goal.overflow_add-sum
overflow_add-sum c =
    omega (arith, low c.args.literals.now _ _ c.requires (next _ _ _ _ c.loop-l.invariant c.loop-l-test.true c.literal_length.ensures))

pub overflow_add-sum-in-loop-l : goal.overflow_add-sum-in-loop-l
overflow_add-sum-in-loop-l c =
    omega (arith, low c.args.literals.now _ _ c.requires (next _ _ _ _ c.loop-l.invariant c.loop-l-test.true c.literal_length.ensures))

pub loop-l-preserved : goal.loop-l-preserved
loop-l-preserved c = next _ _ _ _ c.loop-l.invariant c.loop-l-test.true c.literal_length.ensures

pub returns : goal.returns
returns c = sum_end literal_field c.args.literals.now c.loop-l.l-index _ c.loop-l.sum c.loop-l.invariant c.loop-l-test.false
