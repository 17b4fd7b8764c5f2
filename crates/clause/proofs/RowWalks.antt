-- Walks over the rows of clause words by `chunks_exact(WIDTH)`: the item after k others is row k, and there are as many as rows. Assumes nothing.
use mathlib.Core.Path.{◌≡◌, sym, ◌∙◌, ap}
use mathlib.Core.List.{List, ◌++◌, map}
use Prim.Native.Nat.{ℕ, zero, suc, ◌+◌, ◌-◌, ◌*◌, ◌≤◌, ◌<◌}
use native.Mathlib.Nat.{mul-suc, mul-zero}
use native.Mathlib.Numerals.{add-one}
use native.Mathlib.Omega.{arith}
use lib.ListN.{length, take, drop, length-append, length-drop}
use lib.Seq.{drop-drop, take_at, drop_at}
use denote.Ref.{Bor}
use Rattle.std.specs.Prelude.{Some, None}
use Rattle.std.specs.declared.iter.Enumerate.{Enumerate}
use Rattle.std.specs.declared.slice.ChunksExact.{ChunksExact}
use Rattle.std.specs.Iterator.Adapters.{enumerate_source, enumerate_count, enumerate_steps}
use Rattle.std.specs.Slice.Iter.{chunks_exact_rest, chunks_exact_size, chunks_exact_steps}
use Rattle.std.specs.Iterator.{AlwaysYields}
use Rattle.std.proofs.lemmas.Iterator.{YieldsList}
use Rattle.definitions.specs.Lists.{range, below}
use Rattle.definitions.specs.Clauses.{width, row_at}
use Rattle.clause.specs.Rows.{row_count}

-- the rows before row n are passed
pub record Walked (w : List ℕ) (it : ChunksExact ℕ) (n : ℕ) : Type 0 where
  pub size : chunks_exact_size it ≡ width
  pub rest : chunks_exact_rest it ≡ drop (width * n) w
  pub inside : n ≤ row_count w

pub walk_start : {w : List ℕ} {it : ChunksExact ℕ} → chunks_exact_size it ≡ width → chunks_exact_rest it ≡ w → Walked w it 0
walk_start {w} size rest = record { size = size; rest = rest ∙ sym (ap (λ (k : ℕ). drop k w) (mul-zero width)); inside = omega arith }

module _ {w : List ℕ} {it : ChunksExact ℕ} {n : ℕ} (walked : Walked w it n) where
  left : length (chunks_exact_rest it) ≡ length w - width * n
  left = ap length walked.rest ∙ length-drop (width * n) w

  -- no item comes: the rows are passed
  pub walk_end : (it' : ChunksExact ℕ) → chunks_exact_steps it None it' → row_count w ≤ n
  unfolding width row_count
  walk_end it' step = omega (arith, left, walked.size, step.1.0)

  -- an item comes: row n
  module _ (x : Bor (List ℕ)) (it' : ChunksExact ℕ) (step : chunks_exact_steps it (Some x) it') where
    parts : drop (width * n) w ≡ x.now ++ chunks_exact_rest it'
    parts = sym walked.rest ∙ step.1.0

    long : length x.now ≡ width
    long = step.1.1 ∙ walked.size

    pub walk_row : x.now ≡ row_at w n
    unfolding row_at
    walk_row = sym (ap (take width) parts ∙ take_at x.now (chunks_exact_rest it') width long)

    pub walk_inside : n < row_count w
    unfolding width row_count
    walk_inside = omega (arith, long, left, length-append x.now (chunks_exact_rest it'), ap length step.1.0)

    pub walk_on : Walked w it' (n + 1)
    walk_on =
        let e : width * (n + 1) ≡ width * n + width = rw add-one (mul-suc width n) in
        record {
          size = step.0 ∙ walked.size;
          rest = sym (rw (e, ← drop-drop width (width * n) w, parts) (drop_at x.now (chunks_exact_rest it') width long));
          inside = omega (arith, walk_inside);
        }

-- all items are the rows
rows_always :
    (w : List ℕ) (k n : ℕ) (it : ChunksExact ℕ) → Walked w it n → n + k ≡ row_count w
    → AlwaysYields (chunks_exact_steps {A = ℕ}) (λ x. x.now) it (map (row_at w) (range n k))
unfolding range
rows_always w zero n it walked e = λ x j step. let h = walk_inside walked x j step in absurd (omega arith)
rows_always w (suc k) n it walked e = (
  λ j step. let h = walk_end walked j step in absurd (omega arith),
  λ x j step. (walk_row walked x j step, rw (← add-one) (rows_always w k (n + 1) j (walk_on walked x j step) (omega arith))),
)

pub rows_yielded :
    (w : List ℕ) {it : ChunksExact ℕ} → chunks_exact_size it ≡ width → chunks_exact_rest it ≡ w
    → YieldsList (chunks_exact_steps {A = ℕ}) (λ x. x.now) it (map (row_at w) (below (row_count w)))
unfolding below
rows_yielded w {it} size rest = record { runs = rows_always w (row_count w) 0 it (walk_start size rest) (omega arith) }

-- ---- walks by `chunks_exact(WIDTH).enumerate()`: the rows before row n are passed, and the next number is n
pub record Numbered (w : List ℕ) (it : Enumerate (ChunksExact ℕ)) (n : ℕ) : Type 0 where
  pub number : enumerate_count it ≡ n
  pub walk : Walked w (enumerate_source it) n

pub numbered_start :
    {w : List ℕ} {it : Enumerate (ChunksExact ℕ)} {rows : ChunksExact ℕ} → enumerate_source it ≡ rows → enumerate_count it ≡ 0
    → chunks_exact_size rows ≡ width → chunks_exact_rest rows ≡ w → Numbered w it 0
numbered_start source number size rest = record { number = number; walk = rw source (walk_start size rest) }

module _ {w : List ℕ} {it : Enumerate (ChunksExact ℕ)} {n : ℕ} (numbered : Numbered w it n) where
  pub numbered_end : (it' : Enumerate (ChunksExact ℕ)) → enumerate_steps (chunks_exact_steps {A = ℕ}) it None it' → row_count w ≤ n
  numbered_end it' step = walk_end numbered.walk (enumerate_source it') step.0

  module _
      (i : ℕ) (row : Bor (List ℕ)) (it' : Enumerate (ChunksExact ℕ)) (step : enumerate_steps (chunks_exact_steps {A = ℕ}) it (Some (i, row)) it') where
    pub numbered_is : i ≡ n
    numbered_is = step.1 ∙ numbered.number

    pub numbered_row : row.now ≡ row_at w n
    numbered_row = walk_row numbered.walk row (enumerate_source it') step.0

    pub numbered_inside : n < row_count w
    numbered_inside = walk_inside numbered.walk row (enumerate_source it') step.0

    pub numbered_on : Numbered w it' (n + 1)
    numbered_on =
        record { number = omega (arith, step.2, numbered.number); walk = walk_on numbered.walk row (enumerate_source it') step.0 }
