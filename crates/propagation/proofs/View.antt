-- The set that marks stand for, and how it changes with them. Assumes nothing.
use mathlib.Core.Path.{◌≡◌, refl, sym, ◌∙◌, ap}
use mathlib.Core.Bool.{false}
use mathlib.Core.List.{List, ◌++◌}
use Prim.Native.Nat.{ℕ, ◌+◌, ◌-◌, ◌*◌, ◌/◌, ◌%◌, ◌^◌, ◌≤◌, ◌<◌}
use native.Mathlib.Omega.{arith}
use native.Mathlib.Decide.{ℕ_discrete}
use lib.ListN.{length, get_or, set, take, drop, replicate, length-set, length-append, length-replicate, take-append-drop}
use lib.Seq.{length-take-le, ext_get_or, get_or-set_same, get_or-set_other}
use Rattle.definitions.specs.Closure.{has, bit}
use Rattle.definitions.specs.Marks.{mark_bytes, marked}
use Rattle.definitions.proofs.ListLaws.{table_at, table_length}
use Rattle.definitions.proofs.EncodeLaws.{same_bool_lem}
use Rattle.definitions.proofs.MarkBits.{whole_cleared, whole_length, even_low, even_high, clear_part, part_length, part_low, part_high}
use Rattle.propagation.specs.Marks.{Marked}
use Rattle.propagation.specs.Walk.{set_of, In, Part, RestKept, Cleared, OneMore}
use Rattle.propagation.proofs.Sets.{in_below}
use Rattle.propagation.proofs.MarkedSets.{bit_back}

module _ (N : ℕ) (ms : List ℕ) where
  pub view_length : length (set_of N ms) ≡ 2 * N
  unfolding set_of
  view_length = table_length (λ l. bit (marked ms l)) (2 * N)

  view_byte : (l : ℕ) → l < 2 * N → get_or (set_of N ms) l 0 ≡ bit (marked ms l)
  unfolding set_of
  view_byte l h = table_at (λ l. bit (marked ms l)) (2 * N) l h

  pub view_has : (l : ℕ) → l < 2 * N → has (set_of N ms) l ≡ marked ms l
  unfolding has
  view_has l h = rw (view_byte l h) (bit_back (marked ms l))

  pub view_below : (l : ℕ) → In (set_of N ms) l → l < 2 * N
  view_below l p = rw view_length at (in_below (set_of N ms) l p)

  pub view_zero : (l : ℕ) → l < 2 * N → marked ms l ≡ false → get_or (set_of N ms) l 0 ≡ 0
  unfolding bit
  view_zero l h e = view_byte l h ∙ rw e

  pub view_inside : (l : ℕ) → l < 2 * N → l < length (set_of N ms)
  view_inside l h = rw view_length h

  -- the marks stand for a set with the same literals
  pub view_marks : (S : List ℕ) → mark_bytes N ≤ length ms → Part (set_of N ms) S → Part S (set_of N ms) → Marked N ms S
  view_marks S room to from =
      record {
        room = room;
        each = λ l h. same_bool_lem (marked ms l) (has S l) (λ e. to l (view_has l h ∙ e)) (λ e. sym (view_has l h) ∙ from l e);
      }

  -- marks that stand for a set
  module _ (S : List ℕ) (m : Marked N ms S) where
    pub view_part : Part (set_of N ms) S
    view_part l p = let h = view_below l p in sym (m.each l h) ∙ sym (view_has l h) ∙ p

    pub part_view : (l : ℕ) → l < 2 * N → In S l → In (set_of N ms) l
    part_view l h p = view_has l h ∙ m.each l h ∙ p

pub rest_self : (N : ℕ) (ms : List ℕ) → RestKept N ms ms
rest_self N ms = record { same_length = refl; beyond = λ l h. refl }

pub rest_on : (N : ℕ) (a b c : List ℕ) → RestKept N a b → RestKept N b c → RestKept N a c
rest_on N a b c p q = record { same_length = q.same_length ∙ p.same_length; beyond = λ l h. q.beyond l h ∙ p.beyond l h }

-- one literal more
module _ (N : ℕ) (ms ms' : List ℕ) (x : ℕ) (low : x < 2 * N) (more : OneMore ms x ms') where
  pub rest_more : RestKept N ms ms'
  rest_more = record { same_length = more.same_length; beyond = λ l h. more.others l (λ e. omega arith) }

  pub view_more : set_of N ms' ≡ set (set_of N ms) x 1
  unfolding bit
  view_more =
      ext_get_or 0 (set_of N ms') (set (set_of N ms) x 1) (view_length N ms' ∙ sym (length-set (set_of N ms) x 1 ∙ view_length N ms))
      (λ i h. same i (rw (view_length N ms') at h) (ℕ_discrete i x))
    where
      same : (i : ℕ) → i < 2 * N → Dec (i ≡ x) → get_or (set_of N ms') i 0 ≡ get_or (set (set_of N ms) x 1) i 0
      same i h (yes e) =
          view_byte N ms' i h ∙ rw (e, more.here) (sym (get_or-set_same (set_of N ms) x 1 0 (view_inside N ms x low)))
      same i h (no ne) =
          view_byte N ms' i h ∙ ap bit (more.others i ne) ∙ sym (view_byte N ms i h) ∙ sym (get_or-set_other (set_of N ms) x i 1 0 ne)

-- whole bytes of zeros in front
module _ (N : ℕ) (ms front : List ℕ) (room : mark_bytes N ≤ length ms) (zeros : front ≡ replicate (length (take (N / 4) ms)) 0) where
  pub zeros_front : front ++ drop (N / 4) ms ≡ whole_cleared N ms
  unfolding whole_cleared mark_bytes
  zeros_front =
      let size : length (take (N / 4) ms) ≡ N / 4 = length-take-le (N / 4) ms (omega arith) in
      rw (zeros, size)

-- where bits are left over, their byte is behind the first k bytes, whatever those were filled with
module _ (N k x : ℕ) (ms front : List ℕ) (room : mark_bytes N ≤ length ms) (filled : front ≡ replicate (length (take k ms)) x) where
  pub next_byte : (2 * (N % 4) ≡ 0 → ⊥) → N / 4 < length (front ++ drop k ms)
  unfolding mark_bytes
  next_byte some = rw (sym kept) (omega arith)
    where
      kept : length ms ≡ length (front ++ drop k ms)
      kept =
          ap length (sym (take-append-drop k ms)) ∙ length-append (take k ms) (drop k ms)
          ∙ sym (length-append front (drop k ms) ∙ ap (λ n. n + length (drop k ms)) (ap length filled ∙ length-replicate _ x))

-- the marks of N atoms cleared
module _ (N : ℕ) (ms ms₁ : List ℕ) (room : mark_bytes N ≤ length ms) (whole : ms₁ ≡ whole_cleared N ms) where
  pub cleared_whole : 2 * (N % 4) ≡ 0 → Cleared N ms ms₁
  unfolding mark_bytes
  cleared_whole e =
      let none : N % 4 ≡ 0 = omega arith in
      rw whole
      (record {
        rest = record { same_length = whole_length N ms (omega arith); beyond = even_high N ms none };
        none = even_low N ms none;
      })

  pub cleared_part :
      (inside : N / 4 < length ms)
      → Cleared N ms (set ms₁ (N / 4) (get_or ms₁ (N / 4) 0 - get_or ms₁ (N / 4) 0 % (1 * 2 ^ (2 * (N % 4)) % 256)))
  cleared_part inside =
      rw (clear_part N ms inside ms₁ whole)
      (record {
        rest = record { same_length = part_length N ms inside; beyond = part_high N ms inside };
        none = part_low N ms inside;
      })
