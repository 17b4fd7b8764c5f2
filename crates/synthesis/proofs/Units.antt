-- The first set written into rows of fill. Assumes nothing.
use mathlib.Core.Bool.{Bool, true, false, cond}
use mathlib.Core.Logic.{◌⊎◌, inl, inr}
use mathlib.Core.Path.{◌≡◌, refl, sym, ◌∙◌, ap}
use mathlib.Core.List.{List, [], ◌∷◌, ◌++◌, map, append_assoc, append-nil}
use Prim.Native.Nat.{ℕ, zero, suc, ◌+◌, ◌-◌, ◌*◌, ◌≤◌, ◌<◌}
use native.Mathlib.Nat.{mul-suc, mul-zero}
use native.Mathlib.Numerals.{add-one}
use native.Mathlib.Omega.{arith}
use lib.Dec.{eqb, ltb}
use lib.ListN.{length, get_or, set, replicate, length-append, length-replicate, replicate-append-replicate}
use lib.Seq.{set_at}
use borrow.Author.Tests.{eq-eqb, eqb-true, eqb-false, lt-ltb}
use Rattle.definitions.specs.Lists.{each, range, below, member}
use Rattle.definitions.specs.Literal.{fill, all_below, is_state, state_of}
use Rattle.definitions.specs.Image.{Task, initial_state}
use Rattle.definitions.specs.Clauses.{width, row_of, clause_words}
use Rattle.definitions.specs.Synthesis.{first_set}
use Rattle.definitions.proofs.ListLaws.{decide, and_right, and_both, all_of, map_of, table_length}
use Rattle.literal.specs.Literal.{literal_of}
use Rattle.definitions.proofs.LiteralLaws.{low_at}
use Rattle.synthesis.specs.Rounds.{units_from}

some_width : 1 ≤ width
unfolding width
some_width = omega arith

-- ---- the literal of an atom that is true in a state
module _ (s : List ℕ) where
  state_low : (atoms a : ℕ) → is_state atoms s ≡ true → a < length s → get_or s a 0 < 2
  unfolding is_state
  state_low atoms a h k = low_at 2 s a (and_right (eqb (length s) atoms) (all_below 2 s) h) k

  pub unit_word : (atoms a : ℕ) → is_state atoms s ≡ true → a < length s → literal_of a (eqb (get_or s a 0) 1) ≡ 2 * a + (1 - get_or s a 0)
  unit_word atoms a h k = go (decide (eqb (get_or s a 0) 1))
    where
      go : (eqb (get_or s a 0) 1 ≡ true) ⊎ (eqb (get_or s a 0) 1 ≡ false) → literal_of a (eqb (get_or s a 0) 1) ≡ 2 * a + (1 - get_or s a 0)
      go (inl e) = let q = eqb-true (get_or s a 0) 1 e in rw e (omega arith)
      go (inr e) =
          let low = state_low atoms a h k in
          let q = eqb-false (get_or s a 0) 1 e in
          rw e (omega arith)

  -- ---- rows of one literal
  abbrev unit : ℕ → List ℕ
  unit a = (2 * a + (1 - get_or s a 0)) ∷ []

  unit_row : (x : ℕ) → row_of (x ∷ []) ≡ x ∷ replicate (width - 1) fill
  unfolding row_of
  unit_row x = refl

  units_length : (a k : ℕ) → length (clause_words (units_from s a k)) ≡ width * k
  unfolding units_from clause_words each range
  units_length a zero = sym (mul-zero width)
  units_length a (suc k) =
      let h = units_length (suc a) k in
      let w = some_width in
      rw (unit_row (2 * a + (1 - get_or s a 0)), length-append, length-replicate) (omega (arith, mul-suc width k))

  words_last : (a k : ℕ) → clause_words (units_from s a (suc k)) ≡ clause_words (units_from s a k) ++ row_of (unit (a + k))
  unfolding units_from clause_words each range
  words_last a zero =
      let e : a + 0 ≡ a = omega arith in
      rw e (append-nil (row_of (unit a)))
  words_last a (suc k) =
      let e : suc a + k ≡ a + suc k = omega arith in
      ap (λ (l : List ℕ). row_of (unit a) ++ l) (words_last (suc a) k ∙ rw e)
      ∙ sym (append_assoc (row_of (unit a)) (clause_words (units_from s (suc a) k)) (row_of (unit (a + suc k))))

  -- ---- rows of fill, of which the first are written
  pub units_start :
      (atoms : ℕ) (w : List ℕ) → w ≡ replicate (width * atoms) fill → w ≡ clause_words (units_from s 0 0) ++ replicate (width * (atoms - 0)) fill
  unfolding units_from clause_words each range
  units_start atoms w e = let q : atoms - 0 ≡ atoms = omega arith in rw q e

  module _ (atoms a : ℕ) (w : List ℕ) (inv : w ≡ clause_words (units_from s 0 a) ++ replicate (width * (atoms - a)) fill) where
    pub units_row :
        (l : ℕ) → a < atoms → l ≡ 2 * a + (1 - get_or s a 0)
        → set w (width * a) l ≡ clause_words (units_from s 0 (a + 1)) ++ replicate (width * (atoms - (a + 1))) fill
    units_row l h e =
        let k : width * (atoms - a) ≡ suc (width - 1 + width * (atoms - suc a)) =
        (let q : atoms - a ≡ suc (atoms - suc a) = omega arith in let p = some_width in rw q (omega (arith, mul-suc width (atoms - suc a)))) in
        let z : 0 + a ≡ a = omega arith in
        let rest : List ℕ = replicate (width - 1 + width * (atoms - suc a)) fill in
        let both : rest ≡ replicate (width - 1) fill ++ replicate (width * (atoms - suc a)) fill =
        sym (replicate-append-replicate (width - 1) (width * (atoms - suc a)) fill) in
        let stored : set w (width * a) l ≡ clause_words (units_from s 0 a) ++ l ∷ rest
        = rw (inv, k) (set_at (clause_words (units_from s 0 a)) fill rest l (width * a) (units_length 0 a)) in
        let row : clause_words (units_from s 0 (suc a)) ≡ clause_words (units_from s 0 a) ++ (l ∷ replicate (width - 1) fill)
        = words_last 0 a ∙ rw (z, unit_row (2 * a + (1 - get_or s a 0)), ← e) in
        stored
        ∙ rw (add-one, row, both)
        (sym (append_assoc (clause_words (units_from s 0 a)) (l ∷ replicate (width - 1) fill) (replicate (width * (atoms - suc a)) fill)))

-- ---- the first set
pub units_size : (s : List ℕ) (atoms : ℕ) → length (map (λ a. (2 * a + (1 - get_or s a 0)) ∷ []) (below atoms)) ≡ atoms
unfolding below range
units_size s atoms = go 0 atoms
  where
    go : (i k : ℕ) → length (map (λ a. (2 * a + (1 - get_or s a 0)) ∷ []) (range i k)) ≡ k
    go i zero = refl
    go i (suc k) = ap suc (go (suc i) k)

pub first_units : (t : Task) → clause_words (units_from (initial_state t) 0 t.atoms) ≡ clause_words (first_set t)
unfolding units_from first_set below
first_units t = refl

pub first_length : (t : Task) → length (clause_words (first_set t)) ≡ width * t.atoms
first_length t = ap length (sym (first_units t)) ∙ units_length (initial_state t) 0 t.atoms

state_bit : (trues : List ℕ) (a : ℕ) → state_of trues a < 2
unfolding state_of
state_bit trues a = go (member a trues)
  where
    go : (b : Bool) → cond b 1 0 < 2
    go true = omega arith
    go false = omega arith

pub initial_state_lem : (t : Task) → is_state t.atoms (initial_state t) ≡ true
unfolding is_state initial_state all_below
initial_state_lem t =
    and_both (eq-eqb (length (map (state_of t.initial) (below t.atoms))) t.atoms (table_length (state_of t.initial) t.atoms))
    (all_of (λ x. ltb x 2) (map (state_of t.initial) (below t.atoms))
    (λ x m. let o = map_of (state_of t.initial) (below t.atoms) m in rw o.same (bit_low o.it)))
  where
    bit_low : (a : ℕ) → ltb (state_of t.initial a) 2 ≡ true
    bit_low a = lt-ltb (state_of t.initial a) 2 (state_bit t.initial a)

-- the words before the units are written are fill
pub filled : (w w' : List ℕ) (atoms k : ℕ) → length w ≡ width * atoms → k ≡ atoms → w' ≡ replicate (length w) fill → w' ≡ replicate (width * k) fill
filled w w' atoms k h e q =
    let z : length w ≡ width * k = (let a : width * atoms ≡ width * k = ap (λ (m : ℕ). width * m) (sym e) in omega arith) in
    q ∙ rw z

initial_length : (t : Task) → length (initial_state t) ≡ t.atoms
unfolding initial_state
initial_length t = table_length (state_of t.initial) t.atoms

pub state_right : (t : Task) (s : List ℕ) → s ≡ initial_state t → is_state (length s) s ≡ true
state_right t s e =
    let l : length s ≡ t.atoms = ap length e ∙ initial_length t in
    rw (l, e) (initial_state_lem t)

pub units_first : (t : Task) (s w : List ℕ) → s ≡ initial_state t → w ≡ clause_words (units_from s 0 (length s)) → w ≡ clause_words (first_set t)
units_first t s w e q =
    let l : length s ≡ t.atoms = ap length e ∙ initial_length t in
    q ∙ rw (l, e) (first_units t)
