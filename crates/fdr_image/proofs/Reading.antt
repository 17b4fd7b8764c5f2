-- Question 17 by its tests, and what is known of an image that reads as a re-encoded task. Assumes nothing.
use mathlib.Core.Path.{◌≡◌, refl, sym, ap, ◌∙◌, subst}
use mathlib.Core.List.{List, ◌∷◌, map}
use mathlib.Core.Bool.{Bool, true, false, ◌&&◌}
use mathlib.Core.Option.{Option, none, some}
use Prim.Native.Nat.{ℕ, zero, suc, ◌+◌, ◌*◌, ◌%◌, ◌≤◌, ◌<◌}
use native.Mathlib.Omega.{arith}
use lib.Dec.{eqb, leb, ltb}
use lib.ListN.{length, get_or, length-map}
use borrow.Author.Tests.{leb-true, ltb-true, eq-eqb, ne_eqb, eqb-true}
use Rattle.definitions.specs.Lists.{all, range, below}
use Rattle.definitions.specs.Answer.{Answer, finding, refused, refuse, verdict, ask, ask_at, ◌>>=◌}
use Rattle.definitions.specs.Literal.{most_atoms}
use Rattle.definitions.specs.Image.{most_operators, part, directory}
use Rattle.definitions.specs.Groups.{Domain, Place}
use Rattle.definitions.specs.Fdr.{FdrOperator, FdrTask, no_domain, atom_values}
use Rattle.definitions.specs.FdrImage.{most_fdr_image, domains_in, places_in, literals_in, fdr_operator_of, is_atom_value, place_right}
use Rattle.definitions.specs.FdrImage.{fdr_literal_right, fdr_operator_right, each_given_once, read_fdr_operators, values_right, read_fdr}
use Rattle.definitions.specs.FdrStep.{no_fdr_operator}
use Rattle.definitions.proofs.ListLaws.{never, and_left, and_right, all_at}
use Rattle.definitions.proofs.ListLaws.{below_count, below_get_or, get_or_mem, get_or_map_low}
use Rattle.directory.specs.Directory.{Lies}
use Rattle.directory.proofs.Laws.{directory_lies, directory_short}
use Rattle.definitions.proofs.AnswerLaws.{not_finding}
use Rattle.fdr_image.specs.Reads.{fdr_in, fdr_of, ReadsFdr}
use Rattle.fdr_image.specs.Walk.{place, block_right, some_operator, operator_or, block_parses, operator_in, counts_right, domains_right}
use Rattle.fdr_image.specs.Walk.{atoms_right, goal_right, operators_right, rules_right, rest_right, parts_right, fdr_right}
use Rattle.fdr_image.specs.Post.{Laid, BlockGiven}
use Rattle.fdr_image.proofs.Pairs.{domains_length}
use Rattle.fdr_image.proofs.Below.{below_at}

-- ---- the questions in order, all of them 17
or_refuse : {A : Type 0} → Bool → Answer A → Answer A
or_refuse true a = a
or_refuse false a = refuse 17 0 0

module _ {A : Type 0} where
  -- a question, and what is asked after it
  ask_and : (b c : Bool) (k t : Answer A) → k ≡ or_refuse c t → (ask 17 b >>= λ _. k) ≡ or_refuse (b && c) t
  unfolding ask ask_at ◌>>=◌ or_refuse refuse
  ask_and true c k t e = e
  ask_and false c k t e = refl

  ask_three :
      (a b c d : Bool) (k t : Answer A) → k ≡ or_refuse d t
      → (ask 17 a >>= λ _. ask 17 b >>= λ _. ask 17 c >>= λ _. k) ≡ or_refuse ((a && (b && c)) && d) t
  unfolding ask ask_at ◌>>=◌ or_refuse refuse
  ask_three true true true d k t e = e
  ask_three true true false d k t e = refl
  ask_three true false c d k t e = refl
  ask_three false b c d k t e = refl

module _ {A B : Type 0} where
  found_and : (m : Bool) (R : Answer A) (x : A) (f : A → B) → R ≡ or_refuse m (finding x) → (R >>= λ a. finding (f a)) ≡ or_refuse m (finding (f x))
  unfolding or_refuse ◌>>=◌ refuse
  found_and true R x f e = rw e
  found_and false R x f e = rw e

-- the operators from operator i on
abbrev operator_there : (w : List ℕ) (i : ℕ) → FdrOperator
operator_there w i = operator_in (part w (i + 4))

abbrev pub block_there : (D : List Domain) (w : List ℕ) (i : ℕ) → Bool
block_there D w i = block_right D (fdr_operator_of (part w (i + 4)))

read_operators_lem :
    (D : List Domain) (w : List ℕ) (i k : ℕ)
    → read_fdr_operators D w i k ≡ or_refuse (all (block_there D w) (range i k)) (finding (map (operator_there w) (range i k)))
unfolding read_fdr_operators or_refuse all range operator_in block_right operator_or
read_operators_lem D w i zero = refl
read_operators_lem D w i (suc k) = go (fdr_operator_of (part w (i + 4))) refl (read_operators_lem D w (suc i) k)
  where
    more : Bool
    more = all (block_there D w) (range (suc i) k)

    go :
        (q : Option FdrOperator) → fdr_operator_of (part w (i + 4)) ≡ q
        → read_fdr_operators D w (suc i) k ≡ or_refuse more (finding (map (operator_there w) (range (suc i) k)))
        → read_fdr_operators D w i (suc k) ≡ or_refuse (block_right D (fdr_operator_of (part w (i + 4))) && more)
        (finding (operator_or (fdr_operator_of (part w (i + 4))) ∷ map (operator_there w) (range (suc i) k)))
    go none e rec = rw (e, read_fdr_operators)
    go (some o) e rec =
        rw (e, read_fdr_operators)
        (ask_and (fdr_operator_right D o) more (read_fdr_operators D w (suc i) k >>= λ os. finding (o ∷ os))
        (finding (o ∷ map (operator_there w) (range (suc i) k)))
        (found_and more (read_fdr_operators D w (suc i) k) (map (operator_there w) (range (suc i) k)) (λ os. o ∷ os) rec))

-- the task that is read
abbrev pub fdr_there : List ℕ → FdrTask
fdr_there w =
    record {
      domains = domains_in (part w 0);
      atoms = places_in (part w 1);
      initial = part w 2;
      goal = literals_in (part w 3);
      operators = map (λ i. operator_in (part w (i + 4))) (below (get_or w 1 0));
    }

read_right : (w : List ℕ) → read_fdr w ≡ or_refuse (fdr_right w) (finding (fdr_there w))
unfolding read_fdr fdr_right parts_right rest_right rules_right counts_right domains_right atoms_right goal_right operators_right below
read_right w =
    ask_and _ _ _ t
    (ask_and _ _ _ t
    (ask_and _ _ _ t
    (ask_and (values_right D (part w 2)) _ _ t
    (ask_three (eqb (length (part w 1) % 2) 0 && leb 1 (length P) && leb (length P) most_atoms) (all (place_right D) P) (each_given_once D P) _ _ t
    (ask_and (eqb (length (part w 3) % 2) 0 && all (fdr_literal_right D) (literals_in (part w 3))) (operators_right D w (get_or w 1 0)) _ t
    (found_and (operators_right D w (get_or w 1 0)) (read_fdr_operators D w 0 (get_or w 1 0)) (map (operator_there w) (range 0 (get_or w 1 0)))
    (λ os. record { domains = D; atoms = P; initial = part w 2; goal = literals_in (part w 3); operators = os })
    (read_operators_lem D w 0 (get_or w 1 0))))))))
  where
    D : List Domain
    D = domains_in (part w 0)

    P : List Place
    P = places_in (part w 1)

    t : Answer FdrTask
    t = finding (fdr_there w)

right_cases : {A : Type 0} (b : Bool) (a : Answer A) (x : A) → a ≡ or_refuse b (finding x) → verdict a ≡ ask 17 b
unfolding or_refuse refuse verdict ask ask_at
right_cases true a x e = rw e
right_cases false a x e = rw e

-- the answer of reading: one question
pub read_asks : (w : List ℕ) → ask 17 (fdr_right w) ≡ verdict (read_fdr w)
read_asks w = sym (right_cases (fdr_right w) (read_fdr w) (fdr_there w) (read_right w))

-- ---- an image that reads as a re-encoded task
found_is : (a : Answer FdrTask) → verdict a ≡ finding tt → a ≡ finding (fdr_in a)
unfolding verdict fdr_in
found_is (finding t) e = refl
found_is (refused r) e = absurd (not_finding e)

pub reads : (w : List ℕ) → finding tt ≡ verdict (read_fdr w) → ReadsFdr w
unfolding fdr_of
reads w e = record { found = found_is (read_fdr w) (sym e) }

right_of : {A : Type 0} (b : Bool) (a : Answer A) (x y : A) → a ≡ or_refuse b (finding x) → a ≡ finding y → (b ≡ true) × (y ≡ x)
unfolding or_refuse refuse
right_of true a x y e h = (refl, cc)
right_of false a x y e h = absurd (not_finding (sym e ∙ h))

-- what is known of it, by the words of the image
pub record FdrRead (w : List ℕ) : Type 0 where
  pub task : fdr_of w ≡ fdr_there w
  pub counts : counts_right w ≡ true
  pub directory : directory w (get_or w 1 0 + 4) ≡ true
  pub domains : domains_right (get_or w 0 0) (part w 0) ≡ true
  pub initial : values_right (domains_in (part w 0)) (part w 2) ≡ true
  pub atoms : atoms_right (domains_in (part w 0)) (part w 1) ≡ true
  pub goal : goal_right (domains_in (part w 0)) (part w 3) ≡ true
  pub operators : operators_right (domains_in (part w 0)) w (get_or w 1 0) ≡ true

pub fdr_read : (w : List ℕ) → ReadsFdr w → FdrRead w
unfolding fdr_right parts_right rest_right rules_right
fdr_read w r =
    let D = domains_in (part w 0) in
    let c = counts_right w in
    let d = directory w (get_or w 1 0 + 4) in
    let a = domains_right (get_or w 0 0) (part w 0) in
    let v = values_right D (part w 2) in
    let p = atoms_right D (part w 1) in
    let g = goal_right D (part w 3) in
    let o = operators_right D w (get_or w 1 0) in
    let h = right_of (fdr_right w) (read_fdr w) (fdr_there w) (fdr_of w) (read_right w) r.found in
    let h₁ = and_right c (d && (a && (v && (p && (g && o))))) h.0 in
    let h₂ = and_right d (a && (v && (p && (g && o)))) h₁ in
    let h₃ = and_right a (v && (p && (g && o))) h₂ in
    let h₄ = and_right v (p && (g && o)) h₃ in
    let h₅ = and_right p (g && o) h₄ in
    record {
      task = h.1;
      counts = and_left c (d && (a && (v && (p && (g && o))))) h.0;
      directory = and_left d (a && (v && (p && (g && o)))) h₁;
      domains = and_left a (v && (p && (g && o))) h₂;
      initial = and_left v (p && (g && o)) h₃;
      atoms = and_left p (g && o) h₄;
      goal = and_left g o h₅;
      operators = and_right g o h₅;
    }

-- ---- blocks
some_right :
    (D : List Domain) (q : Option FdrOperator) → block_right D q ≡ true → (some_operator q ≡ true) × (fdr_operator_right D (operator_or q) ≡ true)
unfolding block_right some_operator operator_or
some_right D none h = never h refl
some_right D (some o) h = (refl, h)

block_some :
    (D : List Domain) (b : List ℕ) → block_right D (fdr_operator_of b) ≡ true → (block_parses b ≡ true) × (fdr_operator_right D (operator_in b) ≡ true)
unfolding block_parses operator_in
block_some D b h = some_right D (fdr_operator_of b) h

-- ---- counts
module _ (w : List ℕ) (h : counts_right w ≡ true) where
  variables : ℕ
  variables = get_or w 0 0

  operators : ℕ
  operators = get_or w 1 0

  pub few_variables : get_or w 0 0 ≤ most_atoms
  unfolding counts_right variables operators
  few_variables =
      leb-true variables most_atoms
      (and_right (leb (length w) most_fdr_image && leb 1 variables) (leb variables most_atoms)
      (and_left (leb (length w) most_fdr_image && leb 1 variables && leb variables most_atoms) (leb operators most_operators) h))

  pub few_operators : get_or w 1 0 ≤ most_operators
  unfolding counts_right variables operators
  few_operators =
      leb-true operators most_operators
      (and_right (leb (length w) most_fdr_image && leb 1 variables && leb variables most_atoms) (leb operators most_operators) h)

pub domains_count : (n : ℕ) (d : List ℕ) → domains_right n d ≡ true → length (domains_in d) ≡ n
unfolding domains_right
domains_count n d h =
    let z = eqb-true (length d) (2 * n) (and_left (eqb (length d) (2 * n)) (all (λ d. leb d.none 1) (domains_in d)) h) in
    omega (arith, domains_length d)

atoms_tests : (D : List Domain) (a : List ℕ) → atoms_right D a ≡ true → (length (places_in a) ≤ most_atoms) × (all (place_right D) (places_in a) ≡ true)
unfolding atoms_right
atoms_tests D a h =
    let P = places_in a in
    let c = eqb (length a % 2) 0 && leb 1 (length P) in
    let counted = and_left (c && leb (length P) most_atoms) (all (place_right D) P && each_given_once D P) h in (
      leb-true (length P) most_atoms (and_right c (leb (length P) most_atoms) counted),
      and_left (all (place_right D) P) (each_given_once D P) (and_right (c && leb (length P) most_atoms) (all (place_right D) P && each_given_once D P) h),
    )

module _ (w : List ℕ) (r : ReadsFdr w) where
  read : FdrRead w
  read = fdr_read w r

  pub image_lies : (i : ℕ) → i < get_or w 1 0 + 4 → Lies w i
  image_lies i h = directory_lies w (get_or w 1 0 + 4) i read.directory h

  pub image_room : 2 ≤ length w
  image_room = let z = (image_lies 0 (omega arith)).pair in omega arith

  pub variables_are : (get_or w 0 0 ≡ length (fdr_of w).domains) × (get_or w 0 0 ≤ most_atoms)
  variables_are = (rw read.task (sym (domains_count (get_or w 0 0) (part w 0) read.domains)), few_variables w read.counts)

  pub operators_are : (get_or w 1 0 ≡ length (fdr_of w).operators) × (get_or w 1 0 ≤ most_operators)
  operators_are = (rw read.task (sym (table_size (get_or w 1 0))), few_operators w read.counts)
    where
      table_size : (k : ℕ) → length (map (operator_there w) (below k)) ≡ k
      table_size k = length-map (below k) (operator_there w) ∙ below_count k

  pub few_atoms : length (fdr_of w).atoms ≤ most_atoms
  few_atoms = rw read.task (atoms_tests (domains_in (part w 0)) (part w 1) read.atoms).0

  pub domains_are : (d : List ℕ) → d ≡ part w 0 → domains_in d ≡ (fdr_of w).domains
  domains_are d e = rw (read.task, e)

  pub places_are : (a : List ℕ) → a ≡ part w 1 → places_in a ≡ (fdr_of w).atoms
  places_are a e = rw (read.task, e)

  pub initial_is : (s : List ℕ) → s ≡ part w 2 → s ≡ (fdr_of w).initial
  initial_is s e = rw read.task e

  pub goal_is : (g : List ℕ) → g ≡ part w 3 → literals_in g ≡ (fdr_of w).goal
  goal_is g e = rw (read.task, e)

  -- all atoms have atom values, and the initial values are right
  pub places_right : all (place_right (fdr_of w).domains) (fdr_of w).atoms ≡ true
  places_right = rw read.task (atoms_tests (domains_in (part w 0)) (part w 1) read.atoms).1

  pub initial_right : values_right (fdr_of w).domains (fdr_of w).initial ≡ true
  initial_right = rw read.task read.initial

  pub variable_low : (a : ℕ) → a < length (fdr_of w).atoms → (get_or (fdr_of w).atoms a (place 0 0)).variable < length (fdr_of w).domains
  unfolding place_right is_atom_value
  variable_low a h =
      let D = (fdr_of w).domains in
      let p = get_or (fdr_of w).atoms a (place 0 0) in
      ltb-true p.variable (length D)
      (and_left (ltb p.variable (length D)) (ltb p.value (atom_values (get_or D p.variable no_domain)))
      (all_at (place_right D) places_right (get_or_mem (fdr_of w).atoms a (place 0 0) h)))

  -- the block of an operator
  pub block_given : (i : ℕ) → i < length (fdr_of w).operators → (b : List ℕ) → b ≡ part w (i + 4) → BlockGiven b (fdr_of w) i
  unfolding operators_right
  block_given i h b e =
      let low : i < get_or w 1 0 = (let z = operators_are.0 in omega arith) in
      let right = below_at (block_there (domains_in (part w 0)) w) (get_or w 1 0) read.operators i low in
      subst (λ (t : FdrTask). BlockGiven b t i) (sym read.task)
      (subst (λ (x : List ℕ). BlockGiven x (fdr_there w) i) (sym e) (given (part w (i + 4)) right (operator_at_lem i (get_or w 1 0) low)))
    where
      operator_at_lem : (i k : ℕ) → i < k → operator_in (part w (i + 4)) ≡ get_or (map (operator_there w) (below k)) i no_fdr_operator
      operator_at_lem i k h = sym (get_or_map_low (operator_there w) (below k) i 0 no_fdr_operator (rw (below_count k) h)
          ∙ ap (operator_there w) (below_get_or k i h))

      given :
          (b : List ℕ) → block_right (domains_in (part w 0)) (fdr_operator_of b) ≡ true → operator_in b ≡ get_or (fdr_there w).operators i no_fdr_operator
          → BlockGiven b (fdr_there w) i
      given b h e = let z = block_some (domains_in (part w 0)) b h in record { parses = z.0; operator = e; right = z.1 }

-- ---- the tests by the code's own values
pub goal_odd : (D : List Domain) (g : List ℕ) → (length g % 2 ≡ 0 → ⊥) → false ≡ goal_right D g
unfolding goal_right
goal_odd D g h = rw (ne_eqb (length g % 2) 0 h)

pub goal_even : (D : List Domain) (g : List ℕ) → length g % 2 ≡ 0 → all (fdr_literal_right D) (literals_in g) ≡ goal_right D g
unfolding goal_right
goal_even D g h = rw (eq-eqb (length g % 2) 0 h)

pub domains_few : (w d : List ℕ) (n : ℕ) → Laid w → n ≡ get_or w 0 0 → domains_right n d ≡ true → length (domains_in d) ≤ most_atoms
domains_few w d n l en h = let z = few_variables w l.counts in omega (arith, domains_count n d h)

module _ (w : List ℕ) where
  -- the image in order
  pub image_short : length w < 2 → false ≡ fdr_right w
  unfolding fdr_right
  image_short h = rw (directory_short w (get_or w 1 0 + 4) (omega arith)) (go (counts_right w))
    where
      go : (b : Bool) → false ≡ (b && false)
      go true = refl
      go false = refl

  module _ (l : Laid w) where
    pub laid_lies : (i : ℕ) → i < get_or w 1 0 + 4 → Lies w i
    laid_lies i h = directory_lies w (get_or w 1 0 + 4) i l.directory h

    pub laid_room : 2 ≤ length w
    laid_room = let z = (laid_lies 0 (omega arith)).pair in omega arith
