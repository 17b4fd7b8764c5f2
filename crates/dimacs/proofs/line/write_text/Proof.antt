-- `dimacs::line::write_text`: the header line, then the lines of the rows.
use Prim.Native.Nat.{ℕ, ◌+◌, ◌≤◌}
use native.Mathlib.Omega.{arith}
use mathlib.Core.Path.{◌≡◌, sym, ◌∙◌}
use mathlib.Core.List.{List, ◌++◌}
use lib.ListN.{length}
use Rattle.definitions.specs.Lists.{each}
use Rattle.definitions.specs.Dimacs.{dimacs_text}
use Rattle.clause.specs.Rows.{clauses_of}
use Rattle.clause.proofs.RowLaws.{clauses_length}
use Rattle.writing.proofs.Writes.{wrote_same, wrote_both, first_room, next_room}
use Rattle.dimacs.specs.Write.{head_line, row_line}
use Rattle.dimacs.proofs.Parts.{text_parts}
use borrow.Author.Rules.{rules}
use Rattle.dimacs.proofs.line.write_text.Statement.{statement}
use Rattle.dimacs.proofs.line.write_text.Tie as tie

-- the number of rows is that of clauses
abbrev lent : tie.After-rows → tie.After-shared_slice_known-1
lent c = c.before.before

abbrev start : tie.After-rows → tie.Start
start c = (lent c).before.before

abbrev clauses : tie.Start → List (List ℕ)
clauses s = clauses_of s.args.clauses.now

abbrev lines : tie.Start → List ℕ
lines s = each row_line (clauses s)

room : (s : tie.Start) → 0 + length (dimacs_text s.args.atoms (clauses s)) ≤ length s.args.out.now
room s = omega (arith, s.requires)

abbrev head : tie.After-rows → List ℕ
head c = head_line (start c).args.atoms c.rows.result

parts : (c : tie.After-rows) → let s = start c in dimacs_text s.args.atoms (clauses s) ≡ head c ++ lines s
parts c = let s = start c in text_parts s.args.atoms c.rows.result (clauses s) (c.rows.ensures ∙ sym (clauses_length s.args.clauses.now))

-- after the header
abbrev headed : tie.After-write_rows-arg-1 → tie.After-write_head-to
headed c = c.before.before.before

rows-requires : tie.Need-rows-requires
rows-requires c κs = search rules

write-head-requires : tie.Need-write_head-to-requires
write-head-requires c κs = let s = start c in first_room _ (head c) (lines s) s.args.out.now 0 (parts c) (room s)

write-rows-requires : tie.Need-write_rows-requires
write-rows-requires c κs =
    let h = headed c in
    let r = h.before in
    let s = start r in
    next_room _ (head r) (lines s) s.args.out.now 0 (parts r) (room s) h.write_head-to.ensures

same_length : tie.Need-shape_of-out
same_length c = search rules

returns : tie.Need-returns
returns c =
    let w = c.before.before in
    let h = headed w.before in
    wrote_same (parts h.before) (wrote_both h.write_head-to.ensures w.write_rows.ensures)

pub write_text_spec : {M : Type 1} → statement M
write_text_spec = tie.close (tie.spec
    rows-requires
    write-head-requires
    write-rows-requires
    same_length
    returns)
