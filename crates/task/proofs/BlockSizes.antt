-- Sizes of a block and of its rows, and the operators of an image in turn. Assumes nothing.
use mathlib.Core.Bool.{true, false≢true}
use mathlib.Core.Option.{Option, none, some}
use mathlib.Core.Path.{◌≡◌, refl, sym, ◌∙◌, ap}
use mathlib.Core.List.{List, [], ◌∷◌, ◌++◌, map}
use Prim.Native.Nat.{ℕ, zero, suc, ◌+◌, ◌-◌, ◌*◌, ◌≤◌, ◌<◌}
use native.Mathlib.Omega.{arith}
use lib.ListN.{length, get_or, take, drop, length-take, length-drop, drop_of_length-le}
use Rattle.definitions.specs.Lists.{all, each}
use Rattle.definitions.specs.Literal.{all_below}
use Rattle.definitions.specs.Image.{most_image, Row, Operator, rows_size, operator_size, operators_size, rows_of, operator_of, row_right}
use Rattle.definitions.specs.Step.{no_operator, operator_at}
use Rattle.definitions.proofs.ListLaws.{and_left, and_right}
use Rattle.definitions.proofs.ReadLaws.{pre_low, rows_right_lem}
use Rattle.definitions.proofs.Walks.{left_here}
use Rattle.definitions.proofs.TaskBack.{rows_words, operator_words_lem}
use Rattle.definitions.proofs.ImageSize.{rows_size_lem, block_size, Sizes, read_sizes}
use Rattle.task.specs.Reads.{task_of, Reads}
use Rattle.task.specs.Walk.{some_operator, operator_or, block_parses, operator_in, some_rows, rows_or, parses_at, rows_at}
use Rattle.task.specs.Post.{BlockGiven, BlockRead, RowsOver, OperatorOver}
use Rattle.task.proofs.Questions.{operator_right_lem}

-- ---- the rows of a block
parsed : (b : List ℕ) (p k : ℕ) → parses_at b p k ≡ true → rows_of k (drop p b) ≡ some (rows_at b p k)
unfolding parses_at rows_at some_rows rows_or
parsed b p k h = go (rows_of k (drop p b)) h
  where
    go : (o : Option (List Row)) → some_rows o ≡ true → o ≡ some (rows_or o)
    go none e = absurd (false≢true e)
    go (some rs) e = refl

module _ (b : List ℕ) (p k : ℕ) (ok : parses_at b p k ≡ true) where
  pub rows_counted : length (rows_at b p k) ≡ k
  rows_counted = (rows_words k (drop p b) (rows_at b p k) (parsed b p k ok)).0

  pub rows_sized : rows_size (rows_at b p k) ≡ length b - p
  rows_sized =
      sym (rows_size_lem (rows_at b p k)) ∙ ap length (rows_words k (drop p b) (rows_at b p k) (parsed b p k ok)).1 ∙ length-drop p b

-- as the rows that are left are right, so are the first and the others
module _ (N : ℕ) (xs : List Row) (r : Row) (rs : List Row) (e : xs ≡ r ∷ rs) (right : all (row_right N) xs ≡ true) where
  pub first_right : row_right N r ≡ true
  unfolding all
  first_right = and_left (row_right N r) (all (row_right N) rs) (rw e at right)

  pub others_right : all (row_right N) rs ≡ true
  unfolding all
  others_right = and_right (row_right N r) (all (row_right N) rs) (rw e at right)

rows_many : (rs : List Row) → length rs ≤ rows_size rs
unfolding rows_size
rows_many [] = omega arith
rows_many (r ∷ rs) = let h = rows_many rs in omega arith

-- ---- a block that holds operator o, as its accessors give it: it has no fewer words than rows, or than its precondition
module _ (b : List ℕ) (o : Operator) (end k : ℕ) (read : BlockRead b o end k) where
  pub block_few : k ≤ length b
  block_few =
      let a = rows_counted b (end + 1) k read.parses in
      let c = rows_sized b (end + 1) k read.parses in
      let d = rows_many (rows_at b (end + 1) k) in
      omega arith

  pub precondition_few : length (take (end - 1) (drop 1 b)) ≤ length b
  precondition_few = let a = length-take (end - 1) (drop 1 b) in let c = length-drop 1 b in omega arith

-- the words of its operator
block_of : (b : List ℕ) → block_parses b ≡ true → operator_of b ≡ some (operator_in b)
unfolding block_parses operator_in some_operator operator_or
block_of b h = go (operator_of b) h
  where
    go : (o : Option Operator) → some_operator o ≡ true → o ≡ some (operator_or o)
    go none e = absurd (false≢true e)
    go (some o) e = refl

pub block_sized : (b : List ℕ) → block_parses b ≡ true → operator_size (operator_in b) ≡ length b
block_sized b ok = sym (block_size (operator_in b)) ∙ ap length (operator_words_lem b (operator_in b) (block_of b ok))

-- ---- the block of an operator of an image
pub task_sizes : (w : List ℕ) → Reads w → Sizes (task_of w)
task_sizes w rd = read_sizes w (task_of w) rd.found

operator_some : (o : Operator) → 2 ≤ operator_size o
unfolding operator_size
operator_some o = omega arith

operator_most : (os : List Operator) (i : ℕ) → i < length os → operator_size (get_or os i no_operator) ≤ operators_size os
unfolding operators_size
operator_most [] i h = absurd (omega arith)
operator_most (o ∷ os) zero h = omega arith
operator_most (o ∷ os) (suc i) h = let k = operator_most os i (omega arith) in omega arith

module _ (w : List ℕ) (rd : Reads w) (i : ℕ) (h : i < length (task_of w).operators) (b : List ℕ) (given : BlockGiven b (task_of w) i) where
  pub size_is : operator_size (operator_at (task_of w) i) ≡ length b
  size_is = ap operator_size (sym given.operator) ∙ block_sized b given.parses

  pub block_some : 2 ≤ length b
  block_some = let a = size_is in let c = operator_some (operator_at (task_of w) i) in omega arith

  pub block_most : length b ≤ most_image
  unfolding operator_at
  block_most =
      let a = size_is in
      let c = operator_most (task_of w).operators i h in
      let d = (task_sizes w rd).words in
      omega arith

  pub block_over : OperatorOver (task_of w).atoms b
  block_over = record { parses = given.parses; right = rw given.operator (operator_right_lem w rd i h); short = block_most }

-- its precondition and its rows
module _ {N : ℕ} {b : List ℕ} (o : OperatorOver N b) where
  pub precondition_over : (all_below (2 * N) (operator_in b).precondition ≡ true) × (length (operator_in b).precondition ≤ most_image)
  unfolding operator_size
  precondition_over = let a = block_sized b o.parses in let s = o.short in (pre_low N (operator_in b) o.right, omega arith)

  pub rows_over : RowsOver N (operator_in b).rows
  unfolding operator_size
  rows_over = let a = block_sized b o.parses in let s = o.short in record { right = rows_right_lem N (operator_in b) o.right; short = omega arith }

  pub rows_few : length (operator_in b).rows ≤ most_image
  rows_few = let a = rows_many (operator_in b).rows in let s = rows_over.short in omega arith

-- the first row, and the others
module _ {N : ℕ} {xs rs : List Row} {r : Row} (over : RowsOver N xs) (e : xs ≡ r ∷ rs) where
  pub row_over : (row_right N r ≡ true) × (length r.conditions ≤ most_image)
  unfolding rows_size
  row_over = let s = rw e at over.short in (first_right N xs r rs e over.right, omega arith)

  pub others_over : RowsOver N rs
  unfolding rows_size
  others_over = let s = rw e at over.short in record { right = others_right N xs r rs e over.right; short = omega arith }

-- ---- all operators: what is left at i
module _ (w : List ℕ) (i : ℕ) where
  pub operators_left : i < length (task_of w).operators → drop i (task_of w).operators ≡ operator_at (task_of w) i ∷ drop (i + 1) (task_of w).operators
  unfolding operator_at
  operators_left h = left_here (task_of w).operators i no_operator (get_or (task_of w).operators i no_operator) refl h

  pub operators_done : length (task_of w).operators ≤ i → drop i (task_of w).operators ≡ []
  operators_done h = drop_of_length-le (task_of w).operators {i = i} h

  -- what is made of each operator
  module _ {A : Type 0} where
    pub made_next :
        (f : Operator → A) (x : A) → x ≡ f (operator_at (task_of w) i) → i < length (task_of w).operators
        → map f (drop i (task_of w).operators) ≡ x ∷ map f (drop (i + 1) (task_of w).operators)
    made_next f x e h = rw (operators_left h, e)

    pub made_end : (f : Operator → A) → length (task_of w).operators ≤ i → map f (drop i (task_of w).operators) ≡ []
    made_end f h = rw (operators_done h)

    -- the words of each operator
    pub each_next :
        (f : Operator → List A) → i < length (task_of w).operators
        → each f (drop i (task_of w).operators) ≡ f (operator_at (task_of w) i) ++ each f (drop (i + 1) (task_of w).operators)
    unfolding each
    each_next f h = rw (operators_left h)

    pub each_end : (f : Operator → List A) → length (task_of w).operators ≤ i → each f (drop i (task_of w).operators) ≡ []
    unfolding each
    each_end f h = rw (operators_done h)
