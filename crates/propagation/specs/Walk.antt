-- What the functions of this crate ask and promise of one another. They speak of the set that the marks stand for; `stops` tells whether
-- propagation stops at the first complement met. Assumes nothing.
use Rattle.std.specs.Prelude.{◌≡◌, Bool, true, false, cond, not, ◌&&◌, ℕ, ◌+◌, ◌-◌, ◌*◌, ◌/◌, ◌≤◌, ◌<◌, eqb, length}
use mathlib.Core.List.{List, [], ◌∷◌, map, Memᴰ}
use Rattle.definitions.specs.Lists.{below, member}
use Rattle.definitions.specs.Literal.{most_atoms, fill, complement, all_below}
use Rattle.definitions.specs.Clauses.{clause_of}
use Rattle.definitions.specs.Closure.{has, bit, forces}
use Rattle.definitions.specs.Marks.{mark_bytes, marked}
use Rattle.clause.specs.Rows.{clauses_of, ClausesRead}
use Rattle.propagation.specs.declared.Scan.{Scan}
use Rattle.propagation.specs.declared.Scan.TheVariants as scan
use Rattle.propagation.specs.declared.Pass.{Pass}
use Rattle.propagation.specs.declared.Pass.TheVariants as pass

-- the set that the marks stand for, over so many atoms
unfoldable pub set_of : ℕ → List ℕ → List ℕ
set_of atoms ms = map (λ l. bit (marked ms l)) (below (2 * atoms))

-- literal l is in the set s
abbrev pub In : List ℕ → ℕ → Type 0
In s l = has s l ≡ true

abbrev pub Part : List ℕ → List ℕ → Type 0
Part s T = (l : ℕ) → In s l → In T l

-- the literals of the list are in the set
abbrev pub Lists : List ℕ → List ℕ → Type 0
Lists ls T = (l : ℕ) → member l ls ≡ true → In T l

-- what a clause forces is in the set
abbrev pub ClosedAt : List ℕ → List ℕ → Type 0
ClosedAt T f = (l : ℕ) → forces T l f ≡ true → In T l

abbrev pub ClosedUnder : List (List ℕ) → List ℕ → Type 0
ClosedUnder C T = (f : List ℕ) → Memᴰ f C → ClosedAt T f

-- a literal and its complement are in the set
pub record Clash (T : List ℕ) : Type 0 where
  pub it : ℕ
  pub here : In T it
  pub there : In T (complement it)

-- a set that has no contradiction, where propagation stops at one
abbrev pub Sound : Bool → List ℕ → Type 0
Sound stops s = stops ≡ true → Clash s → ⊥

-- the literals that are not in the set
unfoldable pub zeros : List ℕ → ℕ
zeros [] = 0
zeros (b ∷ bs) = 1 - b + zeros bs

-- marks that differ in literals of so many atoms alone
pub record RestKept (atoms : ℕ) (ms ms' : List ℕ) : Type 0 where
  pub same_length : length ms' ≡ length ms
  pub beyond : (l : ℕ) → 2 * atoms ≤ l → marked ms' l ≡ marked ms l

-- the literals of so many atoms are unmarked
pub record Cleared (atoms : ℕ) (ms ms' : List ℕ) : Type 0 where
  pub rest : RestKept atoms ms ms'
  pub none : (l : ℕ) → l < 2 * atoms → marked ms' l ≡ false

-- literal l, which was not marked, is marked, and no other mark differs
pub record OneMore (ms : List ℕ) (l : ℕ) (ms' : List ℕ) : Type 0 where
  pub same_length : length ms' ≡ length ms
  pub was_not : marked ms l ≡ false
  pub here : marked ms' l ≡ true
  pub others : (j : ℕ) → (j ≡ l → ⊥) → marked ms' j ≡ marked ms j

-- literal l is marked: whether it was not
abbrev pub Adds : List ℕ → ℕ → List ℕ → Bool → Type 0
Adds ms l ms' true = OneMore ms l ms'
Adds ms l ms' false = (ms' ≡ ms) × (marked ms l ≡ true)

-- what is asked of marks to add literals
pub record Room (stops : Bool) (atoms : ℕ) (ms : List ℕ) : Type 0 where
  pub few : atoms ≤ most_atoms
  pub room : mark_bytes atoms ≤ length ms
  pub sound : Sound stops (set_of atoms ms)

-- with clauses over the literals
pub record Ready (stops : Bool) (atoms : ℕ) (ws ms : List ℕ) : Type 0 where
  pub marks : Room stops atoms ms
  pub rows : ClausesRead atoms ws

-- a word is an open literal: no fill, and its complement is not marked
unfoldable pub open_word : List ℕ → ℕ → Bool
open_word ms w = not (eqb w fill) && not (marked ms (complement w))

-- the byte of the complement's mark is there, where a word is no fill
abbrev pub ComplementInside : List ℕ → ℕ → Type 0
ComplementInside ms w = (w ≡ fill → ⊥) → complement w / 8 < length ms

-- what a word w, whose complement is marked or not, adds to the scan of a row whose open literal so far is u, or fill if there is none
abbrev pub Scanned : Bool → ℕ → ℕ → Scan → Type 0
Scanned off w u scan.Same = (w ≡ fill → ⊥) → off ≡ true
Scanned off w u scan.First = (w ≡ fill → ⊥) × (off ≡ false) × (u ≡ fill)
Scanned off w u scan.Second = (w ≡ fill → ⊥) × (off ≡ false) × (u ≡ fill → ⊥)

-- the literals that follow from a row: its only open literal u, or, where that is fill, all
unfoldable pub forced_of : List ℕ → ℕ → List ℕ
forced_of row u = cond (eqb u fill) (clause_of row) (u ∷ [])

-- they are literals of so many atoms, and an open literal's complement is not in the set
pub record Forcing (atoms : ℕ) (s row : List ℕ) (u : ℕ) : Type 0 where
  pub low : all_below (2 * atoms) (forced_of row u) ≡ true
  pub opened : (u ≡ fill → ⊥) → has s (complement u) ≡ false

-- the literals of a list are added to the set s₀
pub record Added (stops : Bool) (s₀ ls s : List ℕ) : Type 0 where
  pub sound : Sound stops s
  pub above : Part s₀ s
  pub holds : Lists ls s
  pub least : (T : List ℕ) → Part s₀ T → Lists ls T → Part s T

-- what adding the literals of a list did
abbrev pub Seeded : Bool → List ℕ → List ℕ → List ℕ → Pass → Type 0
Seeded stops s₀ ls s pass.Same = (s ≡ s₀) × Lists ls s₀
Seeded stops s₀ ls s pass.Grown = Added stops s₀ ls s × (zeros s < zeros s₀)
Seeded stops s₀ ls s pass.Contradictory = (stops ≡ true) × ((T : List ℕ) → Part s₀ T → Lists ls T → Clash T)

-- the set s is between s₀ and every set that holds s₀ and is closed
pub record Reached (stops : Bool) (C : List (List ℕ)) (s₀ s : List ℕ) : Type 0 where
  pub sound : Sound stops s
  pub above : Part s₀ s
  pub least : (T : List ℕ) → ClosedUnder C T → Part s₀ T → Part s T

-- what one walk over the clauses did
abbrev pub Passed : Bool → List ℕ → List ℕ → List ℕ → Pass → Type 0
Passed stops ws s₀ s pass.Same = (s ≡ s₀) × ClosedUnder (clauses_of ws) s₀
Passed stops ws s₀ s pass.Grown = Reached stops (clauses_of ws) s₀ s × (zeros s < zeros s₀)
Passed stops ws s₀ s pass.Contradictory = (stops ≡ true) × ((T : List ℕ) → ClosedUnder (clauses_of ws) T → Part s₀ T → Clash T)

-- all walks: whether nothing more follows, and where something does, a contradiction was met
abbrev pub Saturated : Bool → List ℕ → List ℕ → List ℕ → Bool → Type 0
Saturated stops ws s₀ s true = Reached stops (clauses_of ws) s₀ s × ClosedUnder (clauses_of ws) s
Saturated stops ws s₀ s false = (stops ≡ true) × ((T : List ℕ) → ClosedUnder (clauses_of ws) T → Part s₀ T → Clash T)

-- the literals of a list are added, and what follows
pub record Closure (stops : Bool) (C : List (List ℕ)) (s₀ ls s : List ℕ) : Type 0 where
  pub sound : Sound stops s
  pub above : Part s₀ s
  pub holds : Lists ls s
  pub closed : ClosedUnder C s
  pub least : (T : List ℕ) → ClosedUnder C T → Part s₀ T → Lists ls T → Part s T

abbrev pub Propagated : Bool → List ℕ → List ℕ → List ℕ → List ℕ → Bool → Type 0
Propagated stops ws s₀ ls s true = Closure stops (clauses_of ws) s₀ ls s
Propagated stops ws s₀ ls s false = (stops ≡ true) × ((T : List ℕ) → ClosedUnder (clauses_of ws) T → Part s₀ T → Lists ls T → Clash T)
