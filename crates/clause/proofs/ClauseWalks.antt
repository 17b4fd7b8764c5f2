-- Walks over the rows of clause words by `chunks_exact(WIDTH)`, as walks over the clauses: the item after n others is the row of clause n. Assumes nothing.
use mathlib.Core.Path.{◌≡◌, sym, ◌∙◌, ap, ap₂}
use mathlib.Core.List.{List, [], ◌∷◌, ◌++◌}
use Prim.Native.Nat.{ℕ, ◌+◌, ◌≤◌, ◌<◌}
use native.Mathlib.Omega.{arith}
use lib.ListN.{length, get_or, length-append}
use lib.Seq.{take_at, drop_at}
use denote.Ref.{Bor}
use Rattle.std.specs.Prelude.{Some, None}
use Rattle.std.specs.declared.slice.ChunksExact.{ChunksExact}
use Rattle.std.specs.Slice.Iter.{chunks_exact_rest, chunks_exact_size, chunks_exact_steps}
use Rattle.definitions.specs.Clauses.{width, clause_of}
use Rattle.clause.specs.Rows.{clauses_of}
use Rattle.clause.proofs.RowLaws.{clauses_length, clauses_at_lem, clauses_step, clauses_none}
use Rattle.clause.proofs.RowWalks.{Walked, walk_row, walk_inside, walk_end, walk_on}

module _ {w : List ℕ} {it : ChunksExact ℕ} {n : ℕ} (walked : Walked w it n) where
  pub clauses_passed : (it' : ChunksExact ℕ) → chunks_exact_steps it None it' → length (clauses_of w) ≤ n
  clauses_passed it' step = omega (arith, walk_end walked it' step, clauses_length w)

  module _ (x : Bor (List ℕ)) (it' : ChunksExact ℕ) (step : chunks_exact_steps it (Some x) it') where
    pub clause_there : n < length (clauses_of w)
    clause_there = omega (arith, walk_inside walked x it' step, clauses_length w)

    pub clause_read : {f : List ℕ} → f ≡ clause_of x.now → f ≡ get_or (clauses_of w) n []
    clause_read e = e ∙ ap clause_of (walk_row walked x it' step) ∙ sym (clauses_at_lem w n (walk_inside walked x it' step))

    -- the next number, by the count
    pub next_walked : {m : ℕ} → m ≡ n + 1 → Walked w it' m
    next_walked e = rw e (walk_on walked x it' step)

-- ---- by the words that are left: an item is the row of the first clause of them
module _ (it : ChunksExact ℕ) (size : chunks_exact_size it ≡ width) where
  pub rows_done : (it' : ChunksExact ℕ) → chunks_exact_steps it None it' → clauses_of (chunks_exact_rest it) ≡ []
  rows_done it' step = clauses_none (chunks_exact_rest it) (omega (arith, step.1.0, size))

  module _ (x : Bor (List ℕ)) (it' : ChunksExact ℕ) (step : chunks_exact_steps it (Some x) it') where
    long : length x.now ≡ width
    long = step.1.1 ∙ size

    pub rows_size : chunks_exact_size it' ≡ width
    rows_size = step.0 ∙ size

    pub rows_first : clauses_of (chunks_exact_rest it) ≡ clause_of x.now ∷ clauses_of (chunks_exact_rest it')
    rows_first =
        rw step.1.0
        (clauses_step (x.now ++ chunks_exact_rest it') (omega (arith, long, length-append x.now (chunks_exact_rest it')))
        ∙ ap₂ (λ r v. clause_of r ∷ clauses_of v) (take_at x.now (chunks_exact_rest it') width long)
        (drop_at x.now (chunks_exact_rest it') width long))
