use Prim.Native.Nat.{ℕ}
use mathlib.Core.Path.{◌≡◌, sym, ◌∙◌, ap}
use mathlib.Core.List.{List, ◌++◌}
use Rattle.definitions.specs.Lists.{each}
use Rattle.definitions.specs.Card.{clause_line}
use Rattle.clause.specs.Rows.{clauses_of}
use Rattle.clause.proofs.RowLaws.{clauses_length}
use Rattle.writing.proofs.Writes.{wrote_same, wrote_both, first_room, next_room}
use Rattle.card.specs.Text.{counts_line, set_text}
use borrow.Author.Rules.{rules}
use Rattle.card.proofs.line.write_set.Statement.{statement}
use Rattle.card.proofs.line.write_set.Tie as tie

-- the number of rows is that of clauses
abbrev lent : tie.After-rows → tie.After-shared_slice_known-1
lent c = c.before.before

abbrev start : tie.After-rows → tie.Start
start c = (lent c).before.before

abbrev lines : tie.Start → List ℕ
lines s = each clause_line (clauses_of s.args.clauses.now)

parts :
    (c : tie.After-rows) → let s = start c in
    set_text (clauses_of s.args.clauses.now) s.args.rounds ≡ counts_line c.rows.result s.args.rounds ++ lines s
unfolding set_text
parts c =
    let s = start c in
    ap (λ (k : ℕ). counts_line k s.args.rounds ++ lines s) (clauses_length s.args.clauses.now ∙ sym c.rows.ensures)

-- after the line of numbers
abbrev counted : tie.After-write_clauses-arg-1 → tie.After-write_counts-to
counted c = c.before.before.before

rows-requires : tie.Need-rows-requires
rows-requires c κs = search rules

write-counts-requires : tie.Need-write_counts-to-requires
write-counts-requires c κs =
    let s = start c in
    first_room _ (counts_line c.rows.result s.args.rounds) (lines s) s.args.out.now s.args.at (parts c) s.requires

write-clauses-requires : tie.Need-write_clauses-requires
write-clauses-requires c κs =
    let d = counted c in
    let r = d.before in
    let s = start r in
    let first = counts_line r.rows.result s.args.rounds in
    next_room _ first (lines s) s.args.out.now s.args.at (parts r) s.requires d.write_counts-to.ensures

same_length : tie.Need-shape_of-out
same_length c = search rules

returns : tie.Need-returns
returns c =
    let w = c.before.before in
    let d = counted w.before in
    wrote_same (parts d.before) (wrote_both d.write_counts-to.ensures w.write_clauses.ensures)

pub write_set_spec : {M : Type 1} → statement M
write_set_spec =
    tie.close
    (tie.spec
    rows-requires
    write-counts-requires
    write-clauses-requires
    same_length
    returns)
