-- Questions 12 and 13, and the rows of a buffer. Assumes nothing.
use mathlib.Core.Bool.{false}
use mathlib.Core.Path.{◌≡◌}
use Prim.Native.Nat.{ℕ, ◌/◌, ◌≤◌, ◌<◌}
use native.Mathlib.Omega.{arith}
use lib.Dec.{leb}
use borrow.Author.Tests.{le-leb, lt-leb}
use Rattle.definitions.specs.Clauses.{width, most_rows}
use Rattle.definitions.specs.Synthesis.{rows_in}
use Rattle.definitions.specs.Marks.{mark_bytes}
use Rattle.synthesis.specs.Asked.{limits_right, buffers_right}

module _ (n limit : ℕ) where
  pub limits_none : n < 1 → false ≡ limits_right n limit
  limits_none h = rw (lt-leb 1 n h)

  module _ (some_literal : 1 ≤ n) where
    pub limits_wide : width < n → false ≡ limits_right n limit
    limits_wide h = rw (le-leb 1 n some_literal, lt-leb n width h)

    module _ (narrow : n ≤ width) where
      pub limits_rounds : limit < 1 → false ≡ limits_right n limit
      limits_rounds h = rw (le-leb 1 n some_literal, le-leb n width narrow, lt-leb 1 limit h)

      pub limits_rest : 1 ≤ limit → leb limit 65535 ≡ limits_right n limit
      limits_rest h = rw (le-leb 1 n some_literal, le-leb n width narrow, le-leb 1 limit h)

module _ (atoms words work marks : ℕ) where
  pub buffers_marks : marks < mark_bytes atoms → false ≡ buffers_right atoms words work marks
  buffers_marks h = rw (lt-leb (mark_bytes atoms) marks h)

  pub buffers_work : mark_bytes atoms ≤ marks → leb words work ≡ buffers_right atoms words work marks
  buffers_work h = rw (le-leb (mark_bytes atoms) marks h)

pub rows_few : (words : ℕ) → words / width < most_rows → words / width ≡ rows_in words
unfolding rows_in
rows_few words h = omega arith

pub rows_most : (words : ℕ) → most_rows ≤ words / width → most_rows ≡ rows_in words
unfolding rows_in
rows_most words h = omega arith
