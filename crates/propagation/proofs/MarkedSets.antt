-- Marks and the sets that they stand for, for callers. Assumes nothing.
use mathlib.Core.Path.{◌≡◌, refl, sym, ◌∙◌, subst}
use mathlib.Core.Bool.{Bool, true, false}
use mathlib.Core.Logic.{◌⊎◌, inl, inr}
use mathlib.Core.List.{List}
use Prim.Native.Nat.{ℕ, ◌*◌, ◌≤◌, ◌<◌, zero-le}
use Rattle.std.specs.Bool.{MatchBool}
use Rattle.std.specs.List.{AllWithin, HoldsAt}
use Rattle.std.proofs.lemmas.List.{get_or_default}
use Rattle.std.proofs.lemmas.List.Sums.{list_all-from_AllPass}
use Rattle.definitions.specs.Lists.{all}
use Rattle.definitions.specs.Kept.{all_in}
use Rattle.definitions.proofs.Chains.{all_listed}
use Rattle.definitions.proofs.ListLaws.{decide, never, all_at, get_or_mem}
use native.Mathlib.Omega.{arith}
use lib.Dec.{eqb}
use lib.ListN.{length, get_or}
use Rattle.definitions.specs.Literal.{most_atoms, all_below}
use Rattle.definitions.specs.Closure.{bit, has, closure, contradictory}
use Rattle.definitions.specs.Marks.{mark_bytes}
use Rattle.definitions.proofs.LiteralLaws.{low_at}
use Rattle.propagation.specs.Marks.{Marked, ConsistentMarks, Closes}
use Rattle.propagation.specs.declared.Closing.{Closing}
use Rattle.propagation.specs.declared.Closing.TheVariants.{Consistent, Contradictory}

pub marked_room : (N : ℕ) (ms S : List ℕ) → Marked N ms S → mark_bytes N ≤ length ms
marked_room N ms S m = m.room

-- room for the marks of every task
pub room_size : mark_bytes most_atoms ≡ 256
unfolding mark_bytes
room_size = refl

pub most_bytes_lem : (N : ℕ) → N ≤ most_atoms → mark_bytes N ≤ 256
unfolding mark_bytes
most_bytes_lem N few = omega arith

pub consistent_by : (N : ℕ) (ms S : List ℕ) → Marked N ms S → contradictory N S ≡ false → ConsistentMarks N ms
consistent_by N ms S m e = record { set = S; marked = m; consistent = e }

-- what an answer says
module _ (N : ℕ) (C : List (List ℕ)) (ls ms : List ℕ) (r : Closing) (said : Closes N C ls ms r) where
  pub says_consistent : r ≡ Consistent → (contradictory N (closure N C ls) ≡ false) × Marked N ms (closure N C ls)
  says_consistent e = subst (λ (x : Closing). Closes N C ls ms x) e said

  pub says_contradictory : r ≡ Contradictory → contradictory N (closure N C ls) ≡ true
  says_contradictory e = subst (λ (x : Closing). Closes N C ls ms x) e said

pub bit_back : (b : Bool) → eqb (bit b) 1 ≡ b
unfolding bit
bit_back true = refl
bit_back false = refl

-- a literal of a list
pub place_below : (n : ℕ) (ls : List ℕ) (i x : ℕ) → all_below n ls ≡ true → x ≡ get_or ls i 0 → i < length ls → x < n
place_below n ls i x b e h = rw e (low_at n ls i b h)

-- whether all literals of a list are in a set, by an answer to each
pub all_marked :
    (N : ℕ) (S ls : List ℕ) (r : Bool) → all_below (2 * N) ls ≡ true
    → MatchBool r (AllWithin (λ l. l < 2 * N → has S l ≡ true) ls 0 (length ls)) ((k : ℕ) × (k < length ls) × HoldsAt (λ l. l < 2 * N → has S l ≡ false) ls k)
    → r ≡ all_in S ls
unfolding all_in
all_marked N S ls true low each =
    sym (list_all-from_AllPass (has S) ls (λ k d h. rw (get_or_default ls k d 0 h) (each k 0 zero-le h (low_at (2 * N) ls k low h)))) ∙ all_listed (has S) ls
all_marked N S ls false low one = go (decide (all (has S) ls))
  where
    go : (all (has S) ls ≡ true) ⊎ (all (has S) ls ≡ false) → false ≡ all (has S) ls
    go (inl e) =
        let there : has S (get_or ls one.0 0) ≡ true = all_at (has S) e (get_or_mem ls one.0 0 one.1) in
        never {A = false ≡ all (has S) ls} there (one.2 0 (low_at (2 * N) ls one.0 low one.1))
    go (inr e) = sym e
