-- The digits from place i on stand there; those of what is left of the number go before them.
use Rattle.std.proofs.Common.{◌≡◌, drop}
use Rattle.definitions.specs.Text.{digits, decimal}
use Rattle.text.proofs.fill_digits.Given as goal

abbrev pub invariant-loop-i : goal.invariant-loop-i
invariant-loop-i l = decimal l.number ≡ digits l.i l.left (drop l.i l.room)
