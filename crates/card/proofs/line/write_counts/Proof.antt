use Prim.Native.Nat.{ℕ}
use mathlib.Core.List.{List, [], ◌∷◌, ◌++◌}
use Rattle.definitions.specs.Text.{decimal}
use Rattle.definitions.specs.Card.{clauses_word, rounds_word}
use Rattle.writing.specs.Writing.{Writing}
use Rattle.writing.proofs.Writes.{write_start, write_same, write_part, write_last, part_room, word_room}
use Rattle.card.specs.Text.{counts_line}
use Rattle.card.proofs.TextLaws.{counts_parts}
use borrow.Author.Rules.{rules}
use Rattle.card.proofs.line.write_counts.Statement.{statement}
use Rattle.card.proofs.line.write_counts.Tie as tie

-- the fields of the line, each with what is left to be written at it
abbrev Left : tie.Start → List ℕ → ℕ → List ℕ → Type 0
Left s out to left = Writing s.args.out.now s.args.at (counts_line s.args.clauses s.args.rounds) out to left

abbrev clauses : tie.Start → List ℕ
clauses s = clauses_word ++ (32 ∷ decimal s.args.clauses)

abbrev rounds : tie.Start → List ℕ
rounds s = (32 ∷ rounds_word) ++ (32 ∷ decimal s.args.rounds)

first : (s : tie.Start) → Left s s.args.out.now s.args.at (clauses s ++ (rounds s ++ (10 ∷ [])))
first s = write_same (counts_parts s.args.clauses s.args.rounds) write_start

abbrev lent : tie.After-write_named-next → tie.After-write_named-arg-1
lent c = c.before.before.before

abbrev start : tie.After-write_named-next → tie.Start
start c = (lent c).before.before

second : (c : tie.After-write_named-next) → Left (start c) c.write_named-next.new.out c.write_named-next.result (rounds (start c) ++ (10 ∷ []))
unfolding clauses_word
second c = write_part (first (start c)) c.write_named-next.ensures

abbrev back : tie.After-write_named-end → tie.After-slice_known-2-1
back c = let p = c.before.before.before in p.before

abbrev counted : tie.After-write_named-end → tie.After-write_named-next
counted c = (back c).before.before

end : (c : tie.After-write_named-end) → Left (start (counted c)) c.write_named-end.new.out c.write_named-end.result (10 ∷ [])
unfolding rounds_word
end c = write_part (second (counted c)) c.write_named-end.ensures

abbrev wrote : tie.After-byte-arg-1 → tie.After-write_named-end
wrote c = c.before.before.before

write-named-requires : tie.Need-write_named-next-requires
unfolding clauses_word
write-named-requires c κs =
    let s = c.before.before.before in
    part_room (clauses s.before) (rounds s.before ++ (10 ∷ [])) (first s.before) s.requires

write-named-requires-2 : tie.Need-write_named-end-requires
unfolding rounds_word
write-named-requires-2 c κs =
    let d = c.before.before in
    let e = d.before.before in
    part_room (rounds (start e.before)) (10 ∷ []) (second e.before) (start e.before).requires

byte-requires : tie.Need-byte-requires
byte-requires c κs = word_room (end (wrote c)) (start (counted (wrote c))).requires

same_length : tie.Need-shape_of-out
same_length c = search rules

returns : tie.Need-returns
returns c =
    let b = c.before.before in
    write_last (end (wrote b.before)) b.byte.ensures

pub write_counts_spec : {M : Type 1} → statement M
write_counts_spec =
    tie.close
    (tie.spec
    write-named-requires
    write-named-requires-2
    byte-requires
    same_length
    returns)
