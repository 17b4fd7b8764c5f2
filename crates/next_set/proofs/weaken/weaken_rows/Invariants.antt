use Rattle.std.proofs.Common.{◌-◌}
use mathlib.Core.Option.{some}
use Rattle.definitions.specs.Lists.{each, range}
use Rattle.clause.specs.Rows.{row_count, clauses_of}
use Rattle.clause.specs.Place.{Placed}
use Rattle.clause_set.specs.Put.{put_all}
use Rattle.clause_set.specs.Held.{held}
use Rattle.clause_set.proofs.Pending.{Pending}
use Rattle.next_set.specs.Build.{added_row}
use Rattle.next_set.proofs.weaken.weaken_rows.Given as goal

-- what is added for the rows from the place on is to be put in
abbrev pub invariant-loop-place : goal.invariant-loop-place
invariant-loop-place l =
    let added = added_row (clauses_of l.clauses) l.flags l.list l.k in
    record {
      placed : Placed l.clauses l.place;
      pending : Pending l.rows (each added (range l.place.number (row_count l.clauses - l.place.number)))
          (put_all l.rows (each added (range 0 (row_count l.clauses))) (some (held l.fn.count l.fn.work))) l.taken l.work;
    }

abbrev pub decreases-loop-place : goal.decreases-loop-place
decreases-loop-place l = row_count l.clauses - l.place.number
