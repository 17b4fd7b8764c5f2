use Prim.Native.Nat.{ℕ}
use mathlib.Core.List.{List, [], ◌∷◌, ◌++◌}
use Rattle.definitions.specs.Text.{decimal}
use Rattle.definitions.specs.Card.{groups_word}
use Rattle.writing.specs.Writing.{Writing}
use Rattle.writing.proofs.Writes.{write_start, write_same, write_part, write_last, part_room, word_room}
use Rattle.card.specs.Text.{groups_line}
use Rattle.card.proofs.TextLaws.{groups_parts}
use borrow.Author.Rules.{rules}
use Rattle.card.proofs.line.write_count.Statement.{statement}
use Rattle.card.proofs.line.write_count.Tie as tie

-- the fields of the line, each with what is left to be written at it
abbrev Left : tie.Start → List ℕ → ℕ → List ℕ → Type 0
Left s out to left = Writing s.args.out.now s.args.at (groups_line s.args.groups) out to left

abbrev named : ℕ → List ℕ
named n = groups_word ++ (32 ∷ decimal n)

first : (s : tie.Start) → Left s s.args.out.now s.args.at (named s.args.groups ++ (10 ∷ []))
first s = write_same (groups_parts s.args.groups) write_start

abbrev lent : tie.After-write_named-end → tie.After-write_named-arg-1
lent c = c.before.before.before

abbrev start : tie.After-write_named-end → tie.Start
start c = (lent c).before.before

end : (c : tie.After-write_named-end) → Left (start c) c.write_named-end.new.out c.write_named-end.result (10 ∷ [])
unfolding groups_word
end c = write_part (first (start c)) c.write_named-end.ensures

abbrev wrote : tie.After-byte-arg-1 → tie.After-write_named-end
wrote c = c.before.before.before

write-named-requires : tie.Need-write_named-end-requires
unfolding groups_word
write-named-requires c κs =
    let s = c.before.before.before in
    part_room (named s.args.groups) (10 ∷ []) (first s.before) s.requires

byte-requires : tie.Need-byte-requires
byte-requires c κs = word_room (end (wrote c)) (start (wrote c)).requires

same_length : tie.Need-shape_of-out
same_length c = search rules

returns : tie.Need-returns
returns c =
    let b = c.before.before in
    write_last (end (wrote b.before)) b.byte.ensures

pub write_count_spec : {M : Type 1} → statement M
write_count_spec =
    tie.close
    (tie.spec
    write-named-requires
    byte-requires
    same_length
    returns)
