-- `next_set::weaken::weaken_row`: nothing is added, or the clause with each literal of the list. Assumes nothing.
use mathlib.Core.Bool.{true}
use mathlib.Core.Path.{◌≡◌, sym, ◌∙◌, ap, subst}
use mathlib.Core.Option.{Option, some}
use mathlib.Core.List.{List}
use Prim.Native.Nat.{ℕ}
use Rattle.definitions.specs.Clauses.{clause_of, row_at}
use Rattle.clause.specs.Rows.{clauses_of}
use Rattle.clause.proofs.RowLaws.{clauses_at_lem}
use Rattle.clause_set.specs.Held.{held, Holds}
use Rattle.next_set.specs.Build.{is_due}
use Rattle.next_set.proofs.Due.{row_none, row_some, row_extensible}
use borrow.Author.Rules.{rules}
use Rattle.next_set.proofs.weaken.weaken_row.Statement.{statement}
use Rattle.next_set.proofs.weaken.weaken_row.Tie as tie

-- where the row was asked for: the start
abbrev start_of : tie.After-slice_known-1 → tie.Start
start_of k = let p = k.before.before.before in p.before

abbrev start : tie.After-is_due → tie.Start
start q = start_of q.before

-- where the row is due: its literals are those of its clause
abbrev read : Type 0
read = tie.After-put_with_each-arg-1

abbrev else_of : read → tie.Else-not-is_due
else_of d = d.before.before.before

abbrev asked : read → tie.After-is_due
asked d = (else_of d).before

abbrev start_at : read → tie.Start
start_at d = start (asked d)

due : (d : read) → let a = (start_at d).args in is_due (clauses_of a.clauses.now) a.flags.now a.k a.place.number ≡ true
due d = sym (asked d).is_due.ensures ∙ (else_of d).if-not-is_due.false

clause : (d : read) → let a = (start_at d).args in d.literals-literals.result.now ≡ clause_of (row_at a.clauses.now a.place.number)
clause d = d.literals-literals.ensures ∙ ap clause_of d.row.ensures

is-due-requires : tie.Need-is_due-requires
is-due-requires c κs = ((start_of c).requires.0.flagged, (start_of c).requires.2)

returns : tie.Need-returns-then-not-is_due
returns c =
    let s = start c.before in
    let a = s.args in
    let no = sym c.is_due.ensures ∙ c.if-not-is_due.true in (
      s.requires.1,
      row_none a.rows (clauses_of a.clauses.now) a.flags.now a.list.now a.k a.place.number (some (held a.count a.work.now)) no,
    )

row-requires : tie.Need-row-requires
row-requires c κs = (start c.before).requires.2

literals-requires : tie.Need-literals-literals-requires
literals-requires c κs = search rules

put-with-each-requires : tie.Need-put_with_each-requires
put-with-each-requires c κs =
    let s = start_at c in
    let a = s.args in
    let p = s.requires in (
      p.1,
      row_extensible a.clauses.now a.flags.now a.list.now c.literals-literals.result.now a.k a.place.number p.0 p.2.inside
          (due c) (clause c),
      p.0.low,
    )

same_length : tie.Need-shape_of-work
same_length c = search rules

returns-2 : tie.Need-returns
returns-2 c =
    let o = c.before.before in
    let d = o.before in
    let s = start_at d in
    let a = s.args in
    let D : Option (List (List ℕ)) = some (held a.count a.work.now) in
    subst (λ (z : Option (List (List ℕ))). Holds a.rows o.put_with_each.result o.put_with_each.new.work z)
    (row_some a.rows (clauses_of a.clauses.now) a.flags.now a.list.now a.k a.place.number D (due d)
    d.literals-literals.result.now (clause d ∙ sym (clauses_at_lem a.clauses.now a.place.number s.requires.2.inside)))
    o.put_with_each.ensures

pub weaken_row_spec : {M : Type 1} → statement M
weaken_row_spec =
    tie.close
    (tie.spec
    is-due-requires
    returns
    row-requires
    literals-requires
    put-with-each-requires
    same_length
    returns-2)
