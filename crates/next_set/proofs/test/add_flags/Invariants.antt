use Rattle.std.proofs.Common.{◌≡◌, Bool, List, ℕ, map, length}
use Rattle.definitions.specs.Closure.{bit}
use Rattle.clause.specs.Rows.{clauses_of}
use Rattle.clause.proofs.RowWalks.{Numbered}
use Rattle.next_set.proofs.Noting.{Adding}
use Rattle.next_set.proofs.test.add_flags.Given as goal

-- the flags of the rows passed are added and noted
abbrev pub invariant-loop-i : goal.invariant-loop-i
invariant-loop-i l = record {
  rows : Numbered l.clauses l.i-iterator (length l.yielded);
  adding : (p : List ℕ → Bool) → l.flags ≡ map (λ f. bit (p f)) (clauses_of l.clauses)
      → Adding p (clauses_of l.clauses) l.at l.fn.to l.to l.fn.due l.due (length l.yielded);
}
