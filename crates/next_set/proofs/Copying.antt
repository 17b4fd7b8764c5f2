-- The loop that copies the rows without a flag. Assumes nothing.
use mathlib.Core.Path.{◌≡◌, refl, sym, ◌∙◌, ap}
use mathlib.Core.List.{List, [], ◌++◌, append_assoc, append-nil}
use Prim.Native.Nat.{ℕ, ◌+◌, ◌-◌, ◌*◌, ◌/◌, ◌≤◌, ◌<◌}
use native.Mathlib.Nat.{mul-suc, mul-zero}
use native.Mathlib.Numerals.{add-one}
use native.Mathlib.Omega.{arith}
use lib.ListN.{length, get_or, take, drop, length-append}
use lib.Seq.{take_at, length-take-le}
use Rattle.definitions.specs.Lists.{each, range}
use Rattle.definitions.specs.Clauses.{width, row_at}
use Rattle.clause.specs.Rows.{row_count}
use Rattle.clause.proofs.RowLaws.{row_length}
use Rattle.writing.specs.Writing.{Wrote}
use Rattle.writing.proofs.Writes.{wrote_between}
use Rattle.clause_set.proofs.Extended.{range_left, range_done}
use Rattle.next_set.specs.Build.{rows_without, words_without}
use Rattle.next_set.specs.Post.{Copied}
use Rattle.next_set.proofs.Flags.{has_one, has_not}

-- the rows before row n that have no flag, `count` of them, stand before word `to`, and the others are left
pub record Copying (c flags w₀ w : List ℕ) (to count n : ℕ) : Type 0 where
  pub position : to ≡ width * count
  pub few : count ≤ n
  pub inside : n ≤ row_count c
  pub same_length : length w ≡ length w₀
  pub words : words_without c flags ≡ take to w ++ each (rows_without c flags) (range n (row_count c - n))

module _ (c flags : List ℕ) where
  row_flagged : (i : ℕ) → get_or flags i 0 ≡ 1 → rows_without c flags i ≡ []
  unfolding rows_without
  row_flagged i h = rw (has_one flags i h)

  row_unflagged : (i : ℕ) → (get_or flags i 0 ≡ 1 → ⊥) → rows_without c flags i ≡ row_at c i
  unfolding rows_without
  row_unflagged i h = rw (has_not flags i h)

  pub copying_start : (w : List ℕ) → Copying c flags w w 0 0 0
  unfolding words_without
  copying_start w =
      let q : row_count c - 0 ≡ row_count c = omega arith in
      record { position = sym (mul-zero width); few = omega arith; inside = omega arith; same_length = refl; words = rw q refl }

  module _ {w₀ w : List ℕ} {to count n : ℕ} (inv : Copying c flags w₀ w to count n) where
    module _ (more : n < row_count c) where
      split :
          each (rows_without c flags) (range n (row_count c - n))
          ≡ rows_without c flags n ++ each (rows_without c flags) (range (n + 1) (row_count c - (n + 1)))
      split = range_left (rows_without c flags) n (row_count c - n) (row_count c - (n + 1)) (omega arith)

      pub copying_skip : get_or flags n 0 ≡ 1 → Copying c flags w₀ w to count (n + 1)
      copying_skip h =
          record {
            position = inv.position;
            few = omega (arith, inv.few);
            inside = omega arith;
            same_length = inv.same_length;
            words = inv.words ∙ rw (split, row_flagged n h);
          }

      -- there is room for the row
      pub copying_room : length c ≤ length w₀ → to + width ≤ length w
      unfolding width row_count
      copying_room fits = omega (arith, inv.position, inv.few, inv.same_length)

      pub copying_row :
          length c ≤ length w₀ → (get_or flags n 0 ≡ 1 → ⊥) → (r w' : List ℕ) (end : ℕ) → r ≡ row_at c n → length w' ≡ length w
          → Wrote w to r w' end → Copying c flags w₀ w' end (count + 1) (n + 1)
      copying_row fits unflagged r w' end read same wrote =
          let left = each (rows_without c flags) (range (n + 1) (row_count c - (n + 1))) in
          let long : length r ≡ width = ap length read ∙ row_length c n more in
          let room = copying_room fits in
          let first : length (take to w) ≡ to = length-take-le to w (omega arith) in
          let stands : w' ≡ take to w ++ r ++ drop (to + length r) w = wrote_between (omega arith) wrote in
          let both : length (take to w ++ r) ≡ end = rw length-append (omega (arith, wrote.next)) in
          let front : take end w' ≡ take to w ++ r = ap (take end) stands ∙ take_at (take to w ++ r) (drop (to + length r) w) end both in
          record {
            position = rw add-one (omega (arith, mul-suc width count, inv.position, wrote.next));
            few = omega (arith, inv.few);
            inside = omega arith;
            same_length = same ∙ inv.same_length;
            words = inv.words ∙ rw (split, row_unflagged n unflagged, front, ← read) (sym (append_assoc (take to w) r left));
          }

    pub copying_end : length c ≤ length w₀ → row_count c ≤ n → Copied c flags w count
    unfolding width row_count
    copying_end fits done =
        let none = range_done (rows_without c flags) n (row_count c - n) (omega arith) in
        let e : take to w ≡ words_without c flags = sym (inv.words ∙ rw none (append-nil (take to w))) in
        let q : width * count ≡ to = sym inv.position in
        record {
          few = omega (arith, inv.few, inv.inside, inv.position);
          words = rw q e;
          size = ap length (sym e) ∙ length-take-le to w (omega (arith, inv.few, inv.inside, inv.position, inv.same_length)) ∙ inv.position;
        }
