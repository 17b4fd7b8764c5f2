-- The first rows of clause words. Assumes nothing.
use mathlib.Core.Path.{◌≡◌, sym, ◌∙◌, ap, subst}
use mathlib.Core.List.{List, [], ◌++◌}
use Prim.Native.Nat.{ℕ, ◌+◌, ◌*◌, ◌≤◌, ◌<◌}
use native.Mathlib.Omega.{arith}
use lib.ListN.{length, take, drop, take-append-drop, length-append, length-drop}
use lib.Seq.{length-take-le, take-append-le, drop-append-le, get_or-take, ext_get_or}
use Rattle.definitions.specs.Clauses.{width, clause_of, clause_right, row_at}
use Rattle.clause.specs.Rows.{row_count, clauses_of, ClausesRead}
use Rattle.clause.proofs.RowLaws.{clauses_length, clauses_at_lem}
use Rattle.clause.proofs.ReadLaws.{read_right}
use Rattle.definitions.specs.Image.{Operator}
use Rattle.judge.specs.Judging.{fail_flags}
use Rattle.judge.specs.Promise.{Judged}
use Rattle.checker.specs.Search.{FirstFlag}

module _ (w : List ℕ) (low : ℕ) (inside : low ≤ row_count w) where
  pub prefix_inside : width * low ≤ length w
  unfolding row_count width
  prefix_inside = omega arith

  prefix_length : length (take (width * low) w) ≡ width * low
  prefix_length = length-take-le (width * low) w prefix_inside

  pub prefix_count : row_count (take (width * low) w) ≡ low
  unfolding row_count width
  prefix_count = let h = prefix_length in omega arith

  row_room : (i : ℕ) → i < low → width * i + width ≤ width * low
  unfolding width
  row_room i h = omega arith

  prefix_row : (i : ℕ) → i < low → row_at (take (width * low) w) i ≡ row_at w i
  unfolding row_at
  prefix_row i h =
      let a = take (width * low) w in
      let b = drop (width * low) w in
      let room = row_room i h in
      let len = prefix_length in
      let start : width * i ≤ length a = omega arith in
      let rest : width ≤ length (drop (width * i) a) = omega (arith, length-drop (width * i) a) in
      sym
      (ap (λ l. take width (drop (width * i) l)) (sym (take-append-drop (width * low) w))
      ∙ ap (take width) (drop-append-le (width * i) a b start)
      ∙ take-append-le width (drop (width * i) a) b rest)

  pub prefix_clauses : clauses_of (take (width * low) w) ≡ take low (clauses_of w)
  prefix_clauses =
      let v = take (width * low) w in
      let p : length (clauses_of v) ≡ low = clauses_length v ∙ prefix_count in
      let q : length (take low (clauses_of w)) ≡ low = length-take-le low (clauses_of w) (omega (arith, clauses_length w)) in
      ext_get_or [] (clauses_of v) (take low (clauses_of w)) (p ∙ sym q)
      (λ i h.
      let l : i < low = omega arith in
      clauses_at_lem v i (omega (arith, prefix_count)) ∙ ap clause_of (prefix_row i l)
      ∙ sym (get_or-take low (clauses_of w) i [] l ∙ clauses_at_lem w i (omega arith)))

  pub prefix_judged : (atoms : ℕ) → ClausesRead atoms w → Judged atoms (take (width * low) w)
  prefix_judged atoms read =
      record {
        right =
            λ i h.
            let l : i < low = omega (arith, prefix_count) in
            ap (clause_right atoms) (prefix_row i l) ∙ (read_right atoms w read).right i (omega arith);
      }

  -- the flags of the first rows' clauses
  pub prefix_first :
      (atoms i : ℕ) (C : List (List ℕ)) (o o' : Operator) (s : List ℕ) → FirstFlag s i
      → s ≡ fail_flags atoms C o (clauses_of (take (width * low) w)) → o ≡ o' → FirstFlag (fail_flags atoms C o' (take low (clauses_of w))) i
  prefix_first atoms i C o o' s first f eo = subst (λ (l : List ℕ). FirstFlag l i) (f ∙ rw (prefix_clauses, eo)) first

-- a buffer whose first part was lent and came back
pub part_kept :
    (e : ℕ) (a x : List ℕ) → e ≤ length a → length x ≡ length (take e a) → length (x ++ drop e a) ≡ length a
part_kept e a x room kept = omega (arith, length-append x (drop e a), length-drop e a, length-take-le e a room)
