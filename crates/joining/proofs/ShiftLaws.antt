-- Numbers, rows and operators behind other atoms: the words that are left to be written, and what writing them asks. Assumes nothing.
use mathlib.Core.Bool.{true}
use mathlib.Core.Path.{◌≡◌, refl, ◌∙◌, ap, ap₂, subst}
use mathlib.Core.List.{List, [], ◌∷◌, ◌++◌, map}
use Prim.Native.Nat.{ℕ, ◌+◌, ◌-◌, ◌*◌, ◌≤◌, ◌<◌}
use native.Mathlib.Omega.{arith}
use lib.ListN.{length, get_or, set, take, drop, length-append, length-map, drop_of_length-le}
use Rattle.definitions.specs.Lists.{each}
use Rattle.definitions.specs.Literal.{most_atoms, most_literals, all_below}
use Rattle.definitions.specs.Image.{Row, Operator, operator_right}
use Rattle.definitions.specs.Step.{operator_at}
use Rattle.definitions.specs.TaskWords.{counted_literals, row_words, operator_words}
use Rattle.definitions.specs.Join.{shifted, shifted_row, shifted_operator}
use Rattle.definitions.proofs.ListLaws.{each_map}
use Rattle.definitions.proofs.LiteralLaws.{low_at, below_at, below_all}
use Rattle.definitions.proofs.ReadLaws.{row_effect, row_conditions}
use Rattle.definitions.proofs.Walks.{left_here}
use Rattle.definitions.proofs.JoinLaws.{shifted_length}
use Rattle.definitions.proofs.JoinRead.{operator_first}
use Rattle.task.specs.Walk.{row, operator_in, rows_at}
use Rattle.task.specs.Reads.{task_of, Reads}
use Rattle.task.specs.Post.{BlockGiven, BlockRead, RowsOver, OperatorOver}
use Rattle.task.proofs.BlockSizes.{block_over, row_over, precondition_over, rows_over}
use Rattle.task.proofs.BlockSizes.{each_next, each_end}
use Rattle.writing.specs.Writing.{Wrote, Writing}
use Rattle.writing.proofs.Writes.{write_start, write_same, write_word, write_part, write_last, write_end, write_room, word_room, part_room}
use Rattle.joining.specs.Behind.{rows_behind, operator_behind, operators_behind, NumbersGiven, CountedGiven, RowGiven}

-- ---- numbers
module _ (k : ℕ) (xs : List ℕ) (i : ℕ) where
  numbers_next : i < length xs → shifted k (drop i xs) ≡ (k + get_or xs i 0) ∷ shifted k (drop (i + 1) xs)
  unfolding shifted
  numbers_next h = rw (left_here xs i 0 (get_or xs i 0) refl h)

  numbers_end : length xs ≤ i → shifted k (drop i xs) ≡ []
  unfolding shifted
  numbers_end h = rw (drop_of_length-le xs {i = i} h)

  -- each stays below the most literals
  pub number_low : NumbersGiven k xs → i < length xs → k + get_or xs i 0 < most_literals
  number_low g h = let a = low_at (most_literals - k) xs i g.low h in let b = g.few in omega arith

-- those from i on are left to be written
module _ (k : ℕ) (xs : List ℕ) (i : ℕ) {at to : ℕ} {old now' : List ℕ} (w : Writing old at (shifted k xs) now' to (shifted k (drop i xs))) where
  module _ (h : i < length xs) where
    numbers_left : Writing old at (shifted k xs) now' to ((k + get_or xs i 0) ∷ shifted k (drop (i + 1) xs))
    numbers_left = write_same (numbers_next k xs i h) w

    pub number_room : at + length xs ≤ length old → (to < length now') × (length now' ≡ length old)
    number_room room = (word_room numbers_left (omega (arith, shifted_length k xs)), w.size)

    pub number_written : Writing old at (shifted k xs) (set now' to (k + get_or xs i 0)) (to + 1) (shifted k (drop (i + 1) xs))
    number_written = write_word numbers_left

  pub numbers_written : length xs ≤ i → Wrote old at (shifted k xs) now' to
  numbers_written h = write_end (write_same (numbers_end k xs i h) w)

pub numbers_given : (k n : ℕ) (xs : List ℕ) → all_below n xs ≡ true → k + n ≤ most_literals → NumbersGiven k xs
numbers_given k n xs low few =
    record {
      few = omega arith;
      low = below_all (most_literals - k) xs (λ x m. let h = below_at n xs low x m in omega arith);
    }

-- a list and another behind it
pub list_long : (k : ℕ) (xs ys : List ℕ) → length (xs ++ shifted k ys) ≡ length xs + length ys
list_long k xs ys = length-append xs (shifted k ys) ∙ ap (λ n. length xs + n) (shifted_length k ys)

-- ---- literals with their count
module _ {n : ℕ} {list target : List ℕ} {at : ℕ} (g : CountedGiven n list target at) where
  pub counted_numbers : NumbersGiven (2 * n) list
  counted_numbers = let f = g.few in numbers_given (2 * n) (2 * (most_atoms - n)) list g.low (omega arith)

pub counted_words_lem : (n : ℕ) (ls : List ℕ) → counted_literals (shifted (2 * n) ls) ≡ length ls ∷ shifted (2 * n) ls
unfolding counted_literals
counted_words_lem n ls = rw (shifted_length (2 * n) ls)

-- ---- a row
pub row_words_lem :
    (n e : ℕ) (cs : List ℕ) → row_words (shifted_row n (row e cs)) ≡ (2 * n + e) ∷ counted_literals (shifted (2 * n) cs)
unfolding row_words shifted_row
row_words_lem n e cs = refl

row_length : (n : ℕ) (r : Row) → length (row_words (shifted_row n r)) ≡ 2 + length r.conditions
unfolding row_words shifted_row counted_literals
row_length n r = let a = shifted_length (2 * n) r.conditions in omega arith

module _ {n e : ℕ} {cs target : List ℕ} {at : ℕ} (g : RowGiven n e cs target at) where
  abbrev N : ℕ
  N = most_atoms - n

  pub effect_low : 2 * n + e < most_literals
  effect_low = let f = g.few in let l = row_effect N (row e cs) g.right in omega arith

  pub conditions_given : {new : List ℕ} → length new ≡ length target → CountedGiven n cs new (at + 1)
  conditions_given same =
      record {
        few = g.few;
        low = row_conditions N (row e cs) g.right;
        short = g.short;
        room = (let r = g.room in omega arith);
      }

-- ---- rows: those that are left are xs, the first of them r
module _
    (n : ℕ) {xs rs : List Row} {r : Row} (e : xs ≡ r ∷ rs) {words : List ℕ} {at to : ℕ} {old now' : List ℕ}
    (left : Writing old at words now' to (rows_behind n xs))
  where
    row_next : Writing old at words now' to (row_words (shifted_row n r) ++ rows_behind n rs)
    unfolding rows_behind each
    row_next = rw e at left

    -- what writing it asks
    pub row_given :
        n ≤ most_atoms → RowsOver (most_atoms - n) xs → at + length words ≤ length old → RowGiven n r.effect r.conditions now' to
    row_given few over room =
        let o = row_over over e in
        let p = part_room (row_words (shifted_row n r)) (rows_behind n rs) row_next room in
        let l = row_length n r in
        record { few = few; right = o.0; short = o.1; room = omega arith }

    pub row_written : {new : List ℕ} {end : ℕ} → Wrote now' to (row_words (shifted_row n r)) new end → Writing old at words new end (rows_behind n rs)
    row_written w = write_part row_next w

pub rows_written :
    (n : ℕ) {xs : List Row} → xs ≡ [] → {words : List ℕ} {at to : ℕ} {old now' : List ℕ}
    → Writing old at words now' to (rows_behind n xs) → Wrote old at words now' to
unfolding rows_behind each
rows_written n e left = write_end (rw e at left)

-- ---- an operator of a block, over the atoms that are left behind n: its precondition, the number of rows, the rows
rows_are : (n : ℕ) (rs : List Row) → each row_words (map (shifted_row n) rs) ≡ rows_behind n rs
unfolding rows_behind
rows_are n rs = each_map row_words (shifted_row n) rs

operator_words_lem :
    (n : ℕ) (o : Operator)
    → operator_behind n o ≡ counted_literals (shifted (2 * n) o.precondition) ++ (length o.rows ∷ rows_behind n o.rows)
unfolding operator_behind operator_words shifted_operator
operator_words_lem n o =
    ap₂ (λ c l. counted_literals (shifted (2 * n) o.precondition) ++ (c ∷ l)) (length-map o.rows (shifted_row n)) (rows_are n o.rows)

-- its words, as its block gives it
module _ (n : ℕ) (b : List ℕ) (o : Operator) (end k : ℕ) (read : BlockRead b o end k) where
  abbrev pre : List ℕ
  pre = take (end - 1) (drop 1 b)

  abbrev rows : List Row
  rows = rows_at b (end + 1) k

  pub operator_length : length (operator_behind n o) ≡ 2 + length pre + length (rows_behind n rows)
  operator_length =
      let a = ap length (operator_words_lem n o) in
      let c = length-append (counted_literals (shifted (2 * n) o.precondition)) (length o.rows ∷ rows_behind n o.rows) in
      let d = ap length (counted_words_lem n o.precondition) in
      let s = shifted_length (2 * n) o.precondition in
      rw (read.precondition, read.rows) (omega (arith, a, c, d, s))

module _
    {n : ℕ} {b target : List ℕ} {at : ℕ} (few : n ≤ most_atoms) (over : OperatorOver (most_atoms - n) b)
    (room : at + length (operator_behind n (operator_in b)) ≤ length target)
  where
    operator_start :
        Writing target at (operator_behind n (operator_in b)) target at
        (counted_literals (shifted (2 * n) (operator_in b).precondition) ++ (length (operator_in b).rows ∷ rows_behind n (operator_in b).rows))
    operator_start = write_same (operator_words_lem n (operator_in b)) write_start

    module _ {p : List ℕ} (ep : p ≡ (operator_in b).precondition) where
      pub precondition_given : CountedGiven n p target at
      precondition_given =
          let o = precondition_over over in
          let q = operator_in b in
          let r = part_room (counted_literals (shifted (2 * n) q.precondition)) (length q.rows ∷ rows_behind n q.rows) operator_start room in
          let c = ap length (counted_words_lem n (operator_in b).precondition) in
          let l = shifted_length (2 * n) (operator_in b).precondition in
          rw ep (record { few = few; low = o.0; short = o.1; room = omega arith })

      module _ {mid : List ℕ} {to : ℕ} (w : Wrote target at (counted_literals (shifted (2 * n) p)) mid to) where
        pub rows_next : Writing target at (operator_behind n (operator_in b)) mid to (length (operator_in b).rows ∷ rows_behind n (operator_in b).rows)
        rows_next = write_part operator_start (rw ep at w)

        pub count_room : to < length mid
        count_room = word_room rows_next room

        module _ {k : ℕ} {rs : List Row} (ek : k ≡ length rs) (er : rs ≡ (operator_in b).rows) where
          rows_counted : Writing target at (operator_behind n (operator_in b)) (set mid to k) (to + 1) (rows_behind n rs)
          rows_counted = rw (ek, er) (write_word rows_next)

          pub rows_given :
              (n ≤ most_atoms) × (RowsOver (most_atoms - n) rs) × (to + 1 + length (rows_behind n rs) ≤ length (set mid to k))
          rows_given = (few, rw er (rows_over over), write_room rows_counted room)

          pub block_written :
              {new : List ℕ} {end : ℕ} → Wrote (set mid to k) (to + 1) (rows_behind n rs) new end → Wrote target at (operator_behind n (operator_in b)) new end
          block_written v = write_last rows_counted v

-- ---- the operators of an image
module _ (n : ℕ) (w : List ℕ) (i : ℕ) where
  operators_next :
      i < length (task_of w).operators
      → operators_behind n (drop i (task_of w).operators)
      ≡ operator_behind n (operator_at (task_of w) i) ++ operators_behind n (drop (i + 1) (task_of w).operators)
  unfolding operators_behind
  operators_next h = each_next w i (operator_behind n) h

  operators_end : length (task_of w).operators ≤ i → operators_behind n (drop i (task_of w).operators) ≡ []
  unfolding operators_behind
  operators_end h = each_end w i (operator_behind n) h

  -- one is over the atoms that are left
  operator_left :
      (b : List ℕ) → Reads w → i < length (task_of w).operators → BlockGiven b (task_of w) i → n + (task_of w).atoms ≤ most_atoms
      → OperatorOver (most_atoms - n) b
  operator_left b rd h given few =
      let o = block_over w rd i h b given in
      let N = (task_of w).atoms in
      record {
        parses = o.parses;
        right =
            subst (λ (k : ℕ). operator_right k (operator_in b) ≡ true) (omega arith)
            (operator_first N (most_atoms - n - N) (operator_in b) o.right);
        short = o.short;
      }

-- those from i on are left to be written
module _
    (n : ℕ) (w : List ℕ) (i : ℕ) {at to : ℕ} {old now' : List ℕ}
    (left : Writing old at (operators_behind n (task_of w).operators) now' to (operators_behind n (drop i (task_of w).operators)))
  where
    -- the block of operator i is read
    module _ (h : i < length (task_of w).operators) {b : List ℕ} (given : BlockGiven b (task_of w) i) where
      operator_next :
          Writing old at (operators_behind n (task_of w).operators) now' to
          (operator_behind n (operator_in b) ++ operators_behind n (drop (i + 1) (task_of w).operators))
      operator_next = rw given.operator (write_same (operators_next n w i h) left)

      -- what writing it asks
      pub operator_given :
          Reads w → n + (task_of w).atoms ≤ most_atoms → at + length (operators_behind n (task_of w).operators) ≤ length old
          → (n ≤ most_atoms) × (OperatorOver (most_atoms - n) b) × (to + length (operator_behind n (operator_in b)) ≤ length now')
      operator_given rd few room = (
        omega arith,
        operator_left n w i b rd h given few,
        part_room (operator_behind n (operator_in b)) (operators_behind n (drop (i + 1) (task_of w).operators)) operator_next room,
      )

      pub operator_written :
          {new : List ℕ} {end : ℕ} → Wrote now' to (operator_behind n (operator_in b)) new end
          → Writing old at (operators_behind n (task_of w).operators) new end (operators_behind n (drop (i + 1) (task_of w).operators))
      operator_written e = write_part operator_next e

    pub operators_written : length (task_of w).operators ≤ i → Wrote old at (operators_behind n (task_of w).operators) now' to
    operators_written h = write_end (write_same (operators_end n w i h) left)
