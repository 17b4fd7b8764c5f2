-- Laws of the words of literals, rows and operators, for the walks that write them. Assumes nothing.
use mathlib.Core.Bool.{Bool, true, false, not}
use mathlib.Core.Path.{◌≡◌, refl, sym, ◌∙◌, ap}
use mathlib.Core.List.{List, [], ◌∷◌, ◌++◌}
use Prim.Native.Nat.{ℕ, ◌+◌, ◌*◌, ◌%◌, ◌≤◌, ◌<◌}
use native.Mathlib.Omega.{arith}
use mir.Val.{bool_byte}
use lib.ListN.{length, get_or, set, drop, drop_of_length-le}
use borrow.Author.Tests.{eqb-true, eqb-false}
use Rattle.definitions.specs.Lists.{each}
use Rattle.definitions.specs.Literal.{atom, positive, all_below}
use Rattle.definitions.specs.Image.{Row, Operator, row_right}
use Rattle.definitions.proofs.ReadLaws.{row_effect}
use Rattle.definitions.proofs.LiteralLaws.{low_at}
use Rattle.definitions.proofs.Walks.{left_here}
use Rattle.definitions.proofs.FdrBack.{pair_words_lem}
use Rattle.task.specs.Walk.{row, operator_in}
use Rattle.task.specs.Post.{RowsOver, OperatorOver}
use Rattle.task.proofs.BlockSizes.{row_over, precondition_over, rows_over}
use Rattle.writing.specs.Writing.{Wrote, Writing}
use Rattle.writing.proofs.Writes.{write_start, write_same, write_word, write_part, write_last, write_end, part_room, word_room, write_room}
use Rattle.reencoding.specs.Words.{atoms_of, literal_by, literals_by, counted_by, row_by, rows_by, operator_by, Ready}

-- ---- lengths
pub literals_length : (places ls : List ℕ) → length (literals_by places ls) ≡ 2 * length ls
unfolding literals_by literal_by
literals_length places ls = pair_words_lem (literal_by places) (λ l. refl) ls

pub counted_length : (places ls : List ℕ) → length (counted_by places ls) ≡ 1 + 2 * length ls
unfolding counted_by
counted_length places ls = let a = literals_length places ls in omega arith

-- ---- a literal's place lies within the places
pub literal_inside : (places : List ℕ) (l : ℕ) → l < 2 * atoms_of places → 2 * atom l + 1 < length places
unfolding atoms_of atom
literal_inside places l h = omega arith

pub literal_length : (places : List ℕ) (l : ℕ) → length (literal_by places l) ≡ 2
unfolding literal_by
literal_length places l = refl

pub literal_words :
    (places : List ℕ) (l a s : ℕ) → a ≡ atom l → s ≡ l % 2
    → literal_by places l ≡ get_or places (2 * a) 0 ∷ (2 * get_or places (2 * a + 1) 0 + s) ∷ []
unfolding literal_by
literal_words places l a s ea es = rw (ea, es)

-- 1 if it is negative, as a number
pub sign_is : (l s : ℕ) (p : Bool) → p ≡ positive l → s ≡ bool_byte (not p) → s ≡ l % 2
unfolding positive
sign_is l s true e es = let z = eqb-true (l % 2) 0 (sym e) in omega arith
sign_is l s false e es = let n = eqb-false (l % 2) 0 (sym e) in omega arith

-- ---- literals: those from i on are left to be written
module _ (places ls : List ℕ) (i : ℕ) where
  literals_next : i < length ls → literals_by places (drop i ls) ≡ literal_by places (get_or ls i 0) ++ literals_by places (drop (i + 1) ls)
  unfolding literals_by each
  literals_next h = rw (left_here ls i 0 (get_or ls i 0) refl h)

  literals_end : length ls ≤ i → literals_by places (drop i ls) ≡ []
  unfolding literals_by each
  literals_end h = rw (drop_of_length-le ls {i = i} h)

  module _ {at to : ℕ} {old now' : List ℕ} (left : Writing old at (literals_by places ls) now' to (literals_by places (drop i ls))) where
    module _ (h : i < length ls) where
      literal_next :
          Writing old at (literals_by places ls) now' to (literal_by places (get_or ls i 0) ++ literals_by places (drop (i + 1) ls))
      literal_next = write_same (literals_next h) left

      -- what writing the next one asks
      pub literal_given :
          Ready places (literals_by places ls) old at → all_below (2 * atoms_of places) ls ≡ true
          → Ready places (literal_by places (get_or ls i 0)) now' to × (get_or ls i 0 < 2 * atoms_of places)
      literal_given r low = (
        record { low = r.low; room = part_room (literal_by places (get_or ls i 0)) (literals_by places (drop (i + 1) ls)) literal_next r.room },
        low_at (2 * atoms_of places) ls i low h,
      )

      pub literal_written :
          {new : List ℕ} {end : ℕ} → Wrote now' to (literal_by places (get_or ls i 0)) new end
          → Writing old at (literals_by places ls) new end (literals_by places (drop (i + 1) ls))
      literal_written w = write_part literal_next w

    pub literals_written : length ls ≤ i → Wrote old at (literals_by places ls) now' to
    literals_written h = write_end (write_same (literals_end h) left)

-- ---- a row
pub row_inside : (places : List ℕ) (r : Row) → row_right (atoms_of places) r ≡ true → 2 * atom r.effect + 1 < length places
row_inside places r right = literal_inside places r.effect (row_effect (atoms_of places) r right)

pub row_words_lem :
    (places : List ℕ) (e : ℕ) (cs : List ℕ) (a s : ℕ) → a ≡ atom e → s ≡ e % 2
    → row_by places (row e cs) ≡ s ∷ get_or places (2 * a) 0 ∷ get_or places (2 * a + 1) 0 ∷ counted_by places cs
unfolding row_by
row_words_lem places e cs a s ea es = rw (ea, es)

pub row_length : (places : List ℕ) (e : ℕ) (cs : List ℕ) → length (row_by places (row e cs)) ≡ 4 + 2 * length cs
row_length places e cs = let a = counted_length places cs in ap length (row_words_lem places e cs (atom e) (e % 2) refl refl) ∙ omega arith

-- ---- rows: those that are left are xs, the first of them r
module _
    (places : List ℕ) {xs rs : List Row} {r : Row} (e : xs ≡ r ∷ rs) {words : List ℕ} {at to : ℕ} {old now' : List ℕ}
    (left : Writing old at words now' to (rows_by places xs))
  where
    row_next : Writing old at words now' to (row_by places r ++ rows_by places rs)
    unfolding rows_by each
    row_next = rw e at left

    -- what writing it asks
    pub row_given :
        Ready places words old at → RowsOver (atoms_of places) xs
        → Ready places (row_by places r) now' to × (row_right (atoms_of places) r ≡ true) × (length r.conditions < 65536)
    row_given ready over =
        let o = row_over over e in (
          record { low = ready.low; room = part_room (row_by places r) (rows_by places rs) row_next ready.room },
          o.0,
          omega (arith, o.1),
        )

    pub row_written : {new : List ℕ} {end : ℕ} → Wrote now' to (row_by places r) new end → Writing old at words new end (rows_by places rs)
    row_written w = write_part row_next w

pub rows_written :
    (places : List ℕ) {xs : List Row} → xs ≡ [] → {words : List ℕ} {at to : ℕ} {old now' : List ℕ}
    → Writing old at words now' to (rows_by places xs) → Wrote old at words now' to
unfolding rows_by each
rows_written places e left = write_end (rw e at left)

-- ---- an operator of a block: its precondition, the number of rows, the rows
module _
    {places b target : List ℕ} {at : ℕ} (ready : Ready places (operator_by places (operator_in b)) target at) (over : OperatorOver (atoms_of places) b)
  where
    abbrev O : Operator
    O = operator_in b

    operator_start : Writing target at (operator_by places O) target at (counted_by places O.precondition ++ (length O.rows ∷ rows_by places O.rows))
    unfolding operator_by
    operator_start = write_start

    module _ {p : List ℕ} (ep : p ≡ O.precondition) where
      pub precondition_given :
          Ready places (counted_by places p) target at × (all_below (2 * atoms_of places) p ≡ true) × (length p < 65536)
      precondition_given =
          let o = precondition_over over in
          rw ep (
            record {
              low = ready.low;
              room = part_room (counted_by places O.precondition) (length O.rows ∷ rows_by places O.rows) operator_start ready.room;
            },
            o.0,
            omega (arith, o.1),
          )

      module _ {mid : List ℕ} {to : ℕ} (w : Wrote target at (counted_by places p) mid to) where
        pub rows_next : Writing target at (operator_by places O) mid to (length O.rows ∷ rows_by places O.rows)
        rows_next = write_part operator_start (rw ep at w)

        pub count_room : to < length mid
        count_room = word_room rows_next ready.room

        module _ {k : ℕ} {rs : List Row} (ek : k ≡ length rs) (er : rs ≡ O.rows) where
          rows_counted : Writing target at (operator_by places O) (set mid to k) (to + 1) (rows_by places rs)
          rows_counted = rw (ek, er) (write_word rows_next)

          pub rows_given : Ready places (rows_by places rs) (set mid to k) (to + 1) × RowsOver (atoms_of places) rs
          rows_given = (
            record { low = ready.low; room = write_room rows_counted ready.room },
            rw er (rows_over over),
          )

          pub operator_written :
              {new : List ℕ} {end : ℕ} → Wrote (set mid to k) (to + 1) (rows_by places rs) new end → Wrote target at (operator_by places O) new end
          operator_written w = write_last rows_counted w
