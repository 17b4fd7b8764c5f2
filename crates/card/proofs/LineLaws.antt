-- Laws of lines that are written part after part. Assumes nothing.
use mathlib.Core.Path.{◌≡◌, refl, ◌∙◌, ap}
use mathlib.Core.List.{List, [], ◌∷◌, ◌++◌, map, append_assoc}
use Prim.Native.Nat.{ℕ, ◌+◌, ◌-◌, ◌*◌, ◌/◌, ◌≤◌, ◌<◌}
use native.Mathlib.Omega.{arith}
use lib.ListN.{length, get_or, take, drop, length-append}
use lib.Seq.{get_or-take, length-take-le, take_at, drop_at}
use borrow.Author.Tests.{eq-eqb, ne_eqb}
use Rattle.definitions.specs.Lists.{each, range}
use Rattle.definitions.specs.Clauses.{width, clause_of}
use Rattle.definitions.specs.Text.{decimal}
use Rattle.definitions.specs.Answer.{Refusal}
use Rattle.definitions.specs.Card.{literal_text, clause_line, none_word, refused_word, refused_text}
use Rattle.definitions.proofs.Walks.{below_left}
use Rattle.clause.specs.Rows.{clauses_of}
use Rattle.clause.proofs.RowLaws.{clauses_step, clauses_none}
use Rattle.writing.specs.Writing.{Wrote, Writing}
use Rattle.writing.proofs.Writes.{write_start, write_same, write_part, write_end, part_room}
use Rattle.writing.proofs.Ranges.{range_each, range_each_end}
use Rattle.text.specs.Fields.{separator, fields_from}
use Rattle.text.proofs.Lines.{line_fields, fields_next, fields_end}
use Rattle.card.specs.Text.{member_text, none_text, group_text, group_texts}
use Rattle.card.proofs.TextLaws.{refusal_parts}

-- ---- a clause
pub clause_begun : (ls : List ℕ) {out : List ℕ} {at : ℕ} → Writing out at (clause_line ls) out at (fields_from 0 (map literal_text ls))
unfolding clause_line
clause_begun ls = write_same (line_fields (map literal_text ls)) write_start

-- the fields from i on are left to be written
module _
    (ls : List ℕ) (i : ℕ) {at to : ℕ} {old now' : List ℕ}
    (left : Writing old at (clause_line ls) now' to (fields_from i (map literal_text (drop i ls))))
  where
    module _ (h : i < length ls) where
      abbrev this : List ℕ
      this = literal_text (get_or ls i 0)

      abbrev others : List ℕ
      others = fields_from (i + 1) (map literal_text (drop (i + 1) ls))

      field : Writing old at (clause_line ls) now' to (separator i ++ (this ++ others))
      field = write_same (fields_next literal_text ls i 0 (get_or ls i 0) refl h) left

      pub separator_room : at + length (clause_line ls) ≤ length old → to + length (separator i) ≤ length now'
      separator_room room = part_room (separator i) (this ++ others) field room

      -- after the separator
      module _ {mid : List ℕ} {next : ℕ} (w : Wrote now' to (separator i) mid next) where
        separated : Writing old at (clause_line ls) mid next (literal_text (get_or ls i 0) ++ fields_from (i + 1) (map literal_text (drop (i + 1) ls)))
        separated = write_part field w

        pub literal_room : at + length (clause_line ls) ≤ length old → next + length (literal_text (get_or ls i 0)) ≤ length mid
        literal_room room = part_room this others separated room

        pub field_written :
            {new : List ℕ} {end : ℕ} → Wrote mid next (literal_text (get_or ls i 0)) new end
            → Writing old at (clause_line ls) new end (fields_from (i + 1) (map literal_text (drop (i + 1) ls)))
        field_written e = write_part separated e

    -- after the last field
    pub clause_end : length ls ≤ i → Writing old at (clause_line ls) now' to (10 ∷ [])
    clause_end h = write_same (fields_end literal_text ls i h) left

-- ---- row after row: the rows left are v, of which `row` is the first, and its clause is f
pub rows_next :
    (row f : List ℕ) → length row ≡ width → f ≡ clause_of row → (v rest : List ℕ) → v ≡ row ++ rest
    → each clause_line (clauses_of v) ≡ clause_line f ++ each clause_line (clauses_of rest)
unfolding each
rows_next row f wide is v rest parts =
    let size = length-append row rest in
    let first = clauses_step (row ++ rest) (omega arith) in
    rw (parts, first, take_at row rest width wide, drop_at row rest width wide, is)

pub rows_end : (v : List ℕ) → length v < width → each clause_line (clauses_of v) ≡ []
unfolding each
rows_end v h = rw (clauses_none v h)

-- ---- the line of a refusal, of whose question q is the number
module _ (f : Refusal) (q : ℕ) (is : q ≡ f.number) {old : List ℕ} {at : ℕ} where
  pub refusal_begun :
      Writing old at (refused_text f) old at
      ((refused_word ++ (32 ∷ decimal q)) ++ ((32 ∷ decimal f.first) ++ ((32 ∷ decimal f.second) ++ (10 ∷ []))))
  refusal_begun = write_same (refusal_parts f q is) write_start

  -- after the word and the number
  module _ {mid : List ℕ} {to : ℕ} (number : Wrote old at (refused_word ++ (32 ∷ decimal q)) mid to) where
    pub first_left : Writing old at (refused_text f) mid to ((32 ∷ decimal f.first) ++ ((32 ∷ decimal f.second) ++ (10 ∷ [])))
    first_left = write_part refusal_begun number

    -- after the first place
    module _ {now' : List ℕ} {next : ℕ} (first : Wrote mid to (32 ∷ decimal f.first) now' next) where
      pub second_left : Writing old at (refused_text f) now' next ((32 ∷ decimal f.second) ++ (10 ∷ []))
      second_left = write_part first_left first

      pub refusal_end :
          {new : List ℕ} {end : ℕ} → Wrote now' next (32 ∷ decimal f.second) new end → Writing old at (refused_text f) new end (10 ∷ [])
      refusal_end second = write_part second_left second

-- ---- groups
pub none_omitted_lem : (n : ℕ) → n ≡ 0 → none_text n ≡ []
unfolding none_text
none_omitted_lem n e = rw (eq-eqb n 0 e)

pub none_there_lem : (n : ℕ) → (n ≡ 0 → ⊥) → none_text n ≡ 32 ∷ none_word
unfolding none_text
none_there_lem n h = rw (ne_eqb n 0 h)

module _ (ps : List ℕ) (v a x : ℕ) (at : x ≡ get_or ps (2 * a) 0) where
  pub member_not : (x ≡ v → ⊥) → member_text ps v a ≡ []
  unfolding member_text
  member_not h = rw (← at, ne_eqb x v h)

  pub member_there : (y : ℕ) → y ≡ get_or ps (2 * a + 1) 0 → x ≡ v → member_text ps v a ≡ separator y ++ decimal a
  unfolding member_text
  member_there y e h = rw (← at, eq-eqb x v h, e)

-- the line of a group
pub group_begun :
    (ps : List ℕ) (v none : ℕ) {out : List ℕ} {at : ℕ}
    → Writing out at (group_text ps v none) out at (each (member_text ps v) (range 0 (length ps / 2 - 0)) ++ (none_text none ++ (10 ∷ [])))
unfolding group_text
group_begun ps v none =
    write_same (ap (λ (z : List ℕ). z ++ (none_text none ++ (10 ∷ []))) (below_left (each (member_text ps v)) (length ps / 2))) write_start

-- the atoms from a on are left to be written, and the end of the line
module _
    (ps : List ℕ) (v none a : ℕ) {at to : ℕ} {old now' : List ℕ}
    (left : Writing old at (group_text ps v none) now' to (each (member_text ps v) (range a (length ps / 2 - a)) ++ (none_text none ++ (10 ∷ []))))
  where
    abbrev end : List ℕ
    end = none_text none ++ (10 ∷ [])

    module _ (h : a < length ps / 2) where
      member : Writing old at (group_text ps v none) now' to
          (member_text ps v a ++ (each (member_text ps v) (range (a + 1) (length ps / 2 - (a + 1))) ++ (none_text none ++ (10 ∷ []))))
      member =
          write_same
          (ap (λ (z : List ℕ). z ++ end) (range_each (member_text ps v) a (length ps / 2 - a) (length ps / 2 - (a + 1)) (omega arith))
          ∙ append_assoc (member_text ps v a) (each (member_text ps v) (range (a + 1) (length ps / 2 - (a + 1)))) end)
          left

      -- what writing atom a asks
      pub member_given :
          at + length (group_text ps v none) ≤ length old
          → (2 * a + 1 < length ps) × (to + length (member_text ps v a) ≤ length now')
      member_given room =
          (omega arith, part_room (member_text ps v a) (each (member_text ps v) (range (a + 1) (length ps / 2 - (a + 1))) ++ end) member room)

      pub member_written :
          {new : List ℕ} {to' : ℕ} → Wrote now' to (member_text ps v a) new to'
          → Writing old at (group_text ps v none) new to'
          (each (member_text ps v) (range (a + 1) (length ps / 2 - (a + 1))) ++ (none_text none ++ (10 ∷ [])))
      member_written w = write_part member w

    -- after the last atom
    pub group_end : length ps / 2 ≤ a → Writing old at (group_text ps v none) now' to (none_text none ++ (10 ∷ []))
    group_end h =
        write_same (ap (λ (z : List ℕ). z ++ end) (range_each_end (member_text ps v) a (length ps / 2 - a) (omega arith))) left

-- ---- the lines of n groups
pub groups_begun :
    (ps ns : List ℕ) (n : ℕ) {out : List ℕ} {at : ℕ}
    → Writing out at (group_texts ps ns n) out at (each (λ x. group_text ps x (get_or ns x 0)) (range 0 (n - 0)))
unfolding group_texts
groups_begun ps ns n = write_same (below_left (each (λ x. group_text ps x (get_or ns x 0))) n) write_start

-- those from v on are left to be written
module _
    (ps ns : List ℕ) (n v : ℕ) (few : n ≤ length ns) {at to : ℕ} {old now' : List ℕ}
    (left : Writing old at (group_texts ps ns n) now' to (each (λ x. group_text ps x (get_or ns x 0)) (range v (n - v))))
  where
    abbrev text : ℕ → List ℕ
    text x = group_text ps x (get_or ns x 0)

    module _ (h : v < length (take n ns)) where
      low : v < n
      low = omega (arith, length-take-le n ns few)

      group :
          Writing old at (group_texts ps ns n) now' to
          (group_text ps v (get_or (take n ns) v 0) ++ each (λ x. group_text ps x (get_or ns x 0)) (range (v + 1) (n - (v + 1))))
      group = rw (get_or-take n ns v 0 low) (write_same (range_each text v (n - v) (n - (v + 1)) (omega (arith, low))) left)

      pub group_room : at + length (group_texts ps ns n) ≤ length old → to + length (group_text ps v (get_or (take n ns) v 0)) ≤ length now'
      group_room room = part_room (group_text ps v (get_or (take n ns) v 0)) (each text (range (v + 1) (n - (v + 1)))) group room

      pub group_written :
          {new : List ℕ} {end : ℕ} → Wrote now' to (group_text ps v (get_or (take n ns) v 0)) new end
          → Writing old at (group_texts ps ns n) new end (each (λ y. group_text ps y (get_or ns y 0)) (range (v + 1) (n - (v + 1))))
      group_written w = write_part group w

    pub groups_written : length (take n ns) ≤ v → Wrote old at (group_texts ps ns n) now' to
    groups_written h = write_end (write_same (range_each_end text v (n - v) (omega (arith, length-take-le n ns few))) left)
