use native.Mathlib.Omega.{arith}
use mathlib.Core.Path.{sym}
use Rattle.cover.proofs.Covering.{no_places, no_sizes, all_none, places_taken, room_start}
use Rattle.card.proofs.CardText.{read_size}
use borrow.Author.Rules.{rules}
use Rattle.card.proofs.found.write_found.Statement.{statement}
use Rattle.card.proofs.found.write_found.Tie as tie

-- where the places are lent
abbrev start : tie.After-write_covered-arg-1 → tie.Start
start c = c.before.before.before

abbrev lent : tie.After-none-1 → tie.After-write_covered-arg-1
lent c = c.before.before.before

mul_words : tie.Need-overflow_mul-words
mul_words c = search rules

array-borrow-prefix-places : tie.Need-slice_bounds-places-end
array-borrow-prefix-places c = search rules

slice-aggregate-write-covered : tie.Need-slice_bounds-write_covered-end
unfolding no_places
slice-aggregate-write-covered c =
    let s = start c.before in
    sym (places_taken s.args.atoms s.requires.1)

slice-aggregate-write-covered-2 : tie.Need-slice_bounds-write_covered-end-2
slice-aggregate-write-covered-2 c = search rules

slice-aggregate-write-covered-3 : tie.Need-slice_bounds-write_covered-end-3
slice-aggregate-write-covered-3 c = search rules

write-covered-requires : tie.Need-write_covered-requires
unfolding no_places no_sizes all_none
write-covered-requires c κs =
    let s = start (lent c) in
    let most = s.requires.2 in
    let size = read_size s.args.atoms s.args.clauses.now s.args.rounds s.requires.0 s.requires.1 in
    (s.requires.0, room_start s.args.atoms s.requires.1, omega arith)

same_length : tie.Need-shape_of-out
same_length c = search rules

returns : tie.Need-returns
returns c = search rules

pub write_found_spec : {M : Type 1} → statement M
write_found_spec =
    tie.close
    (tie.spec
    mul_words
    array-borrow-prefix-places
    slice-aggregate-write-covered
    slice-aggregate-write-covered-2
    slice-aggregate-write-covered-3
    write-covered-requires
    same_length
    returns)
