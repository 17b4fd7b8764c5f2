-- `dimacs::line::write_head`: the word and the number of atoms, the number of rows, the line's end.
use Prim.Native.Nat.{ℕ}
use mathlib.Core.List.{List, [], ◌∷◌, ◌++◌}
use Rattle.definitions.specs.Text.{decimal}
use Rattle.definitions.specs.Dimacs.{head_bytes}
use Rattle.writing.specs.Writing.{Writing}
use Rattle.writing.proofs.Writes.{write_start, write_same, write_part, write_last, part_room, word_room}
use Rattle.dimacs.specs.Write.{head_line}
use Rattle.dimacs.proofs.Parts.{head_parts}
use borrow.Author.Rules.{rules}
use Rattle.dimacs.proofs.line.write_head.Statement.{statement}
use Rattle.dimacs.proofs.line.write_head.Tie as tie

-- the fields of the line, each with what is left to be written at it
abbrev Left : tie.Start → List ℕ → ℕ → List ℕ → Type 0
Left s out to left = Writing s.args.out.now s.args.at (head_line s.args.atoms s.args.count) out to left

abbrev atoms : tie.Start → List ℕ
atoms s = head_bytes ++ (32 ∷ decimal s.args.atoms)

abbrev rows : tie.Start → List ℕ
rows s = 32 ∷ decimal s.args.count

first : (s : tie.Start) → Left s s.args.out.now s.args.at (atoms s ++ (rows s ++ (10 ∷ [])))
first s = write_same (head_parts s.args.atoms s.args.count) write_start

abbrev lent : tie.After-write_named-next → tie.After-write_named-arg-1
lent c = c.before.before.before

abbrev start : tie.After-write_named-next → tie.Start
start c = (lent c).before.before

second : (c : tie.After-write_named-next) → Left (start c) c.write_named-next.new.out c.write_named-next.result (rows (start c) ++ (10 ∷ []))
unfolding head_bytes
second c = write_part (first (start c)) c.write_named-next.ensures

abbrev back : tie.After-write_number-end → tie.After-slice_known-2-1
back c = c.before.before

abbrev named : tie.After-write_number-end → tie.After-write_named-next
named c = (back c).before.before

end : (c : tie.After-write_number-end) → Left (start (named c)) c.write_number-end.new.out c.write_number-end.result (10 ∷ [])
end c = write_part (second (named c)) c.write_number-end.ensures

abbrev wrote : tie.After-byte-arg-1 → tie.After-write_number-end
wrote c = c.before.before.before

write-named-requires : tie.Need-write_named-next-requires
unfolding head_bytes
write-named-requires c κs = let s = c.before.before.before in part_room (atoms s.before) (rows s.before ++ (10 ∷ [])) (first s.before) s.requires

write-number-requires : tie.Need-write_number-end-requires
write-number-requires c κs =
    let d = c.before.before.before in
    part_room (rows (start d)) (10 ∷ []) (second d) (start d).requires

byte-requires : tie.Need-byte-requires
byte-requires c κs = word_room (end (wrote c)) (start (named (wrote c))).requires

same_length : tie.Need-shape_of-out
same_length c = search rules

returns : tie.Need-returns
returns c = let b = c.before.before in write_last (end (wrote b.before)) b.byte.ensures

pub write_head_spec : {M : Type 1} → statement M
write_head_spec =
    tie.close
    (tie.spec
    write-named-requires
    write-number-requires
    byte-requires
    same_length
    returns)
