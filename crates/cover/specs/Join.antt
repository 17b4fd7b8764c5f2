-- The groups so far, as the walk over the atoms holds them: variable and value of each atom, size of each group. Assumes nothing.
use Rattle.std.specs.Prelude.{◌≡◌, true, false, List, [], ℕ, ◌+◌, ◌*◌, ◌≤◌, ◌<◌, length, get_or, set}
use Rattle.definitions.specs.Lists.{all}
use Rattle.definitions.specs.Literal.{most_atoms}
use Rattle.definitions.specs.Groups.{mutex, groups_below, place_of}

-- a mark for atom a, and room for the places of all atoms
pub record AtomRoom (alone places : List ℕ) (a : ℕ) : Type 0 where
  pub inside : a < length alone
  pub room : 2 * length alone ≤ length places

-- the variables of the atoms below a are low
abbrev pub Low : List ℕ → ℕ → Type 0
Low places a = (x : ℕ) → x < a → get_or places (2 * x) 0 < most_atoms

-- a group is marked exactly if it holds an atom below b that is not mutex with a
pub record Apart (C : List (List ℕ)) (places : List ℕ) (a b : ℕ) (apart : List ℕ) : Type 0 where
  pub clean : (x : ℕ) → x < b → get_or apart (get_or places (2 * x) 0) 0 ≡ 0 → mutex C a x ≡ true
  pub marked : (g : ℕ) → (get_or apart g 0 ≡ 0 → ⊥) → (x : ℕ) × (x < b) × (get_or places (2 * x) 0 ≡ g) × (mutex C a x ≡ false)

-- r is the lowest of n groups that is not marked, or n
pub record Lowest (apart : List ℕ) (n r : ℕ) : Type 0 where
  pub inside : r ≤ n
  pub before : (g : ℕ) → g < r → get_or apart g 0 ≡ 0 → ⊥
  pub here : r < n → get_or apart r 0 ≡ 0

-- atom a joins group r of G, or opens it as the next
pub record Joins (C : List (List ℕ)) (a : ℕ) (G : List (List ℕ)) (r : ℕ) : Type 0 where
  pub inside : r ≤ length G
  pub before : (g : ℕ) → g < r → all (mutex C a) (get_or G g []) ≡ false
  pub here : r < length G → all (mutex C a) (get_or G r []) ≡ true

-- variable and value of each atom below k
pub record Placed (C : List (List ℕ)) (k : ℕ) (places : List ℕ) : Type 0 where
  pub variable : (x : ℕ) → x < k → get_or places (2 * x) 0 ≡ (place_of x 0 (groups_below C k)).variable
  pub value : (x : ℕ) → x < k → get_or places (2 * x + 1) 0 ≡ (place_of x 0 (groups_below C k)).value

-- the atoms below a have joined n groups
pub record Candidate (C : List (List ℕ)) (places : List ℕ) (a n : ℕ) : Type 0 where
  pub placed : Placed C a places
  pub count : n ≡ length (groups_below C a)
  pub few : n ≤ a

-- atom a has a place, and group g a size that may grow
pub record Free (ps ss : List ℕ) (a g : ℕ) : Type 0 where
  pub place : 2 * a + 1 < length ps
  pub group : g < length ss
  pub size : get_or ss g 0 < 65535
  pub word : g < 65536

-- atom a has entered group g as its last member
pub record Entered (ps ss : List ℕ) (a g : ℕ) (ps' ss' : List ℕ) : Type 0 where
  pub places : ps' ≡ set (set ps (2 * a) g) (2 * a + 1) (get_or ss g 0)
  pub sizes : ss' ≡ set ss g (get_or ss g 0 + 1)

-- the groups of the atoms below k: places of the atoms, size of each group, number of groups
pub record Grouped (C : List (List ℕ)) (k : ℕ) (places sizes : List ℕ) (n : ℕ) : Type 0 where
  pub placed : Placed C k places
  pub size : (v : ℕ) → get_or sizes v 0 ≡ length (get_or (groups_below C k) v [])
  pub count : n ≡ length (groups_below C k)
  pub few : n ≤ k
  pub small : (v : ℕ) → get_or sizes v 0 ≤ k
