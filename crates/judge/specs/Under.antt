-- What is judged under one operator, in the words of its struct. Assumes nothing.
use Rattle.std.specs.Prelude.{List, ℕ}
use Rattle.definitions.specs.Image.{Row, Operator}
use Rattle.clause.specs.Rows.{clauses_of}
use Rattle.task.specs.Walk.{operator_in}
use Rattle.judge.specs.declared.under.Under.{Under}
use Rattle.judge.specs.Promise.{ConsistentClosure}
use Rattle.judge.specs.Judging.{guaranteed_flags, violates, some_violates, flag_more}

abbrev pub operator_under : Under → Operator
operator_under u = operator_in u.block.now

-- the marks are those of the closure of the clauses and ls, which is not contradictory
abbrev pub IsClosure : Under → List ℕ → List ℕ → Type 0
IsClosure u ls marks = ConsistentClosure u.atoms u.clauses.now ls marks

-- the flags of the literals that the operator guarantees where the clauses and ls hold
abbrev pub guaranteed_under : Under → List ℕ → List ℕ
guaranteed_under u ls = guaranteed_flags u.atoms (clauses_of u.clauses.now) (operator_under u) ls

-- the flags of the judged clauses with those that the row violates, and with those that some row violates
abbrev pub flag_by_row : Under → Row → List ℕ → List ℕ
flag_by_row u r fails = flag_more (violates u.atoms (clauses_of u.clauses.now) (operator_under u) r) (clauses_of u.judged.now) fails

abbrev pub flag_by_rows : Under → List Row → List ℕ → List ℕ
flag_by_rows u rs fails = flag_more (some_violates u.atoms (clauses_of u.clauses.now) (operator_under u) rs) (clauses_of u.judged.now) fails
