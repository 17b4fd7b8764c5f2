-- `cover::none::omit_all`: none of a group is omitted by the rows before the place, or by those that are left.
use Prim.Native.Nat.{ℕ, ◌-◌}
use mathlib.Core.Path.{◌≡◌, refl, sym, ◌∙◌, ap}
use mathlib.Core.Bool.{cond}
use mathlib.Core.List.{List}
use native.Mathlib.Omega.{arith}
use lib.ListN.{length, get_or}
use Rattle.definitions.specs.Lists.{any}
use Rattle.definitions.specs.Clauses.{clause_of, row_at}
use Rattle.clause.specs.Rows.{row_count, clauses_of}
use Rattle.clause.specs.Place.{Placed, AtRow}
use Rattle.clause.proofs.RowPlaces.{placed_first, is_row, no_row, has_next, placed_next, fewer_left}
use Rattle.cover.specs.None.{lies_in}
use Rattle.cover.proofs.Omitting.{flag_after, omit_on, omit_end}
use borrow.Author.Rules.{rules}
use Rattle.cover.proofs.none.omit_all.Statement.{statement}
use Rattle.cover.proofs.none.omit_all.Tie as tie

abbrev invariant-loop : tie.invariant-loop-at_row
invariant-loop clauses places none₀ at-row₀ none at_row =
    Placed clauses at_row
    × (length none ≡ length none₀)
    × ((v : ℕ) → cond (any (lies_in places v) (clauses_of clauses)) 0 (get_or none₀ v 0) ≡ flag_after clauses places at_row.number v (get_or none v 0))

abbrev decreases-loop : tie.decreases-loop-at_row
decreases-loop clauses places none₀ at-row₀ none at_row = row_count clauses - at_row.number

-- at the loop's head: the start, the clause words
abbrev head : Type 0
head = tie.At-loop-at_row invariant-loop decreases-loop

abbrev start : head → tie.Start invariant-loop decreases-loop
start h =
    let known = h.before.before.before in
    known.before.before

abbrev words : head → List ℕ
words h = (start h).args.clauses.now

-- in the loop: the row, and its literals
abbrev turn : Type 0
turn = tie.In-loop-at_row invariant-loop decreases-loop

abbrev at : turn → head
at t = t.before.before

row : (t : turn) → AtRow (words (at t)) (at t).loop-at_row.at_row
row t = is_row (at t).loop-at_row.invariant.0 t.is_in.ensures t.loop-at_row-test.true

abbrev in_loop : tie.After-literals invariant-loop decreases-loop → turn
in_loop c = c.before.before

clause :
    (c : tie.After-literals invariant-loop decreases-loop) → let h = at (in_loop c) in
    c.literals.result.now ≡ clause_of (row_at (words h) h.loop-at_row.at_row.number)
clause c = c.literals.ensures ∙ ap clause_of c.row-row.ensures

-- after none is omitted
abbrev omitted : tie.After-slice_known-in-loop-at_row-1 invariant-loop decreases-loop → tie.After-omit invariant-loop decreases-loop
omitted c = c.before.before

abbrev listed : tie.After-omit invariant-loop decreases-loop → tie.After-literals invariant-loop decreases-loop
listed c = c.before.before

first-requires : tie.Need-first-at_row-requires invariant-loop decreases-loop
first-requires c κs = search rules

loop-holds : tie.Need-loop-at_row-init invariant-loop decreases-loop
loop-holds c = let a = c.first-at_row.ensures in (placed_first a, refl, rw a.number (λ v. refl))

is-in-requires : tie.Need-is_in-requires invariant-loop decreases-loop
is-in-requires c κs = c.loop-at_row.invariant.0

row-requires : tie.Need-row-row-requires invariant-loop decreases-loop
row-requires c κs = row c

literals-requires : tie.Need-literals-requires invariant-loop decreases-loop
literals-requires c κs = search rules

omit-requires : tie.Need-omit-requires invariant-loop decreases-loop
omit-requires c κs =
    let d = c.before in
    let t = in_loop d in
    let l = (at t).loop-at_row in
    let p = (start (at t)).requires in
    let some = p.0.some_literal l.at_row.number (row t).inside in
    let low = p.0.low l.at_row.number (row t).inside in
    (rw (clause d) some, rw (clause d) low, λ i. (let q = p.1 i in let e = l.invariant.1 in omega arith))

next-requires : tie.Need-next-at_row-requires invariant-loop decreases-loop
next-requires c κs =
    let t = in_loop (listed (omitted c)) in
    has_next (row t) (start (at t)).well_formed.0.0

loop-less : tie.Need-loop-at_row-smaller invariant-loop decreases-loop
loop-less c = fewer_left (row (in_loop (listed (omitted c.before)))) c.next-at_row.ensures

loop-again : tie.Need-loop-at_row-preserved invariant-loop decreases-loop
loop-again c =
    let o = omitted c.before in
    let d = listed o in
    let t = in_loop d in
    let l = (at t).loop-at_row in
    let a = c.next-at_row.ensures in
    let n = l.at_row.number in (
      placed_next (row t) a,
      o.omit.auto.none ∙ l.invariant.1,
      rw a.number (λ v. l.invariant.2 v ∙ omit_on _ _ n v (row t).inside _ _ _ (clause d) (o.omit.ensures v)),
    )

same_length : tie.Need-shape_of-none invariant-loop decreases-loop
same_length c = c.loop-at_row.invariant.1

returns : tie.Need-returns invariant-loop decreases-loop
returns c =
    let l = c.loop-at_row in
    let done = no_row l.invariant.0 c.is_in.ensures c.loop-at_row-test.false in
    λ v. sym (l.invariant.2 v ∙ omit_end _ _ l.at_row.number v done _)

pub omit_all_spec : {M : Type 1} → statement M
omit_all_spec =
    tie.close
    (tie.spec
    invariant-loop
    decreases-loop
    first-requires
    loop-holds
    is-in-requires
    row-requires
    literals-requires
    omit-requires
    next-requires
    loop-less
    loop-again
    same_length
    returns)
