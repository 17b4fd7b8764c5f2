-- What joining two images writes is read as the joined task. Assumes nothing.
use mathlib.Core.Bool.{Bool, true, false, ◌&&◌, ◌||◌, cond}
use mathlib.Core.Logic.{◌⊎◌, inl, inr}
use mathlib.Core.Path.{◌≡◌, refl, sym, ◌∙◌, ap, ap₂, subst}
use mathlib.Core.List.Memᴰ
use mathlib.Core.List.{List, [], ◌∷◌, ◌++◌, map, append-nil, map-append, Memᴰ}
use Prim.Native.Nat.{ℕ, ◌+◌, ◌-◌, ◌*◌, ◌/◌, ◌≤◌, ◌<◌}
use native.Mathlib.Omega.{arith}
use lib.Dec.{ltb, leb}
use lib.ListN.{length, get_or, length-append, length-map}
use lib.Seq.{ext_get_or}
use borrow.Author.Tests.{ltb-true, ltb-false, lt-ltb, leb-true, le-leb}
use Rattle.definitions.specs.Lists.{all, ascending, below, member}
use Rattle.definitions.specs.Answer.{finding, ask, ask_at}
use Rattle.definitions.specs.Literal.{atom, all_below, literal_list, state_of, most_atoms}
use Rattle.definitions.specs.Image.{Row, Operator, Task, initial_state, row_right, operator_right, read_task, most_image, most_operators, rows_size}
use Rattle.definitions.specs.Image.{operator_size, operators_size}
use Rattle.definitions.specs.Groups.{Written}
use Rattle.definitions.specs.TaskWords.{task_words, within_limits}
use Rattle.definitions.specs.Join.{join_answer, shifted, shifted_row, shifted_operator, joined, join_fits, join_call}
use Rattle.definitions.proofs.ImageSize.{words_size, sizes_of}
use Rattle.definitions.proofs.ListLaws.{decide, and_left, and_right, and_both, all_at, all_of, map_of, table_at, table_length}
use Rattle.definitions.proofs.LiteralLaws.{list_low, below_at, below_all}
use Rattle.definitions.proofs.AnswerLaws.{same_finding, bind_of, ask_of}
use Rattle.definitions.proofs.ReadLaws.{row_effect, row_list, pre_list, rows_right_lem}
use Rattle.definitions.proofs.TaskBack.{Read, RightTask, right_of, of_right, read_words, read_of}
use Rattle.definitions.proofs.JoinLaws.{shifted_length, ascending_join, below_join, atoms_shift, member_shift, member_under, member_over}
use Rattle.definitions.proofs.JoinLaws.{member_append, value_first, value_second}

-- ---- the joined task is right
no_literals : (N : ℕ) → literal_list N [] ≡ true
unfolding literal_list ascending all_below all
no_literals N = refl

atoms_low : (N : ℕ) (ls : List ℕ) → all_below (2 * N) ls ≡ true → all_below N (map atom ls) ≡ true
unfolding atom
atoms_low N ls h =
    below_all N (map atom ls) (λ a m. let o = map_of atom ls m in half o.it a o.same (below_at (2 * N) ls h o.it o.mem))
  where
    half : (l a : ℕ) → a ≡ l / 2 → l < 2 * N → a < N
    half l a e h = omega arith

module _ (N L : ℕ) where
  -- literal lists put together
  literals_join : (ls ms : List ℕ) → literal_list N ls ≡ true → literal_list L ms ≡ true → literal_list (N + L) (ls ++ shifted (2 * N) ms) ≡ true
  unfolding literal_list
  literals_join ls ms h g =
      and_both
      (and_both
      (ascending_join (2 * N) ls ms (up N ls h) (list_low N ls h) (up L ms g))
      (subst (λ (k : ℕ). all_below k (ls ++ shifted (2 * N) ms) ≡ true) (omega arith)
      (below_join (2 * N) (2 * L) ls ms (list_low N ls h) (list_low L ms g))))
      (subst (λ (l : List ℕ). ascending l ≡ true) (sym (map-append atom ls (shifted (2 * N) ms) ∙ ap (λ l. map atom ls ++ l) (atoms_shift N ms)))
      (ascending_join N (map atom ls) (map atom ms) (apart N ls h) (atoms_low N ls (list_low N ls h)) (apart L ms g)))
    where
      up : (K : ℕ) (ls : List ℕ) → literal_list K ls ≡ true → ascending ls ≡ true
      up K ls h = and_left (ascending ls) (all_below (2 * K) ls) (and_left (ascending ls && all_below (2 * K) ls) (ascending (map atom ls)) h)

      apart : (K : ℕ) (ls : List ℕ) → literal_list K ls ≡ true → ascending (map atom ls) ≡ true
      apart K ls h = and_right (ascending ls && all_below (2 * K) ls) (ascending (map atom ls)) h

  pub list_first : (ls : List ℕ) → literal_list N ls ≡ true → literal_list (N + L) ls ≡ true
  unfolding shifted
  list_first ls h =
      subst (λ (l : List ℕ). literal_list (N + L) l ≡ true) (append-nil ls) (literals_join ls [] h (no_literals L))

  pub list_second : (ls : List ℕ) → literal_list L ls ≡ true → literal_list (N + L) (shifted (2 * N) ls) ≡ true
  list_second ls h = literals_join [] ls (no_literals N) h

  row_first : (r : Row) → row_right N r ≡ true → row_right (N + L) r ≡ true
  unfolding row_right
  row_first r h =
      let e = row_effect N r h in
      and_both (lt-ltb r.effect (2 * (N + L)) (omega arith)) (list_first r.conditions (row_list N r h))

  row_second : (r : Row) → row_right L r ≡ true → row_right (N + L) (shifted_row N r) ≡ true
  unfolding row_right shifted_row
  row_second r h =
      let e = row_effect L r h in
      and_both (lt-ltb (2 * N + r.effect) (2 * (N + L)) (omega arith)) (list_second r.conditions (row_list L r h))

  pub operator_first : (o : Operator) → operator_right N o ≡ true → operator_right (N + L) o ≡ true
  unfolding operator_right
  operator_first o h =
      and_both (list_first o.precondition (pre_list N o h))
      (all_of (row_right (N + L)) o.rows (λ r m. row_first r (all_at (row_right N) (rows_right_lem N o h) m)))

  operator_second : (o : Operator) → operator_right L o ≡ true → operator_right (N + L) (shifted_operator N o) ≡ true
  unfolding operator_right shifted_operator
  operator_second o h =
      and_both (list_second o.precondition (pre_list L o h))
      (all_of (row_right (N + L)) (map (shifted_row N) o.rows)
      (λ r m. let q = map_of (shifted_row N) o.rows m in
      subst (λ (z : Row). row_right (N + L) z ≡ true) (sym q.same)
      (row_second q.it (all_at (row_right L) (rows_right_lem L o h) q.mem))))

pub joined_right : (t u : Task) → RightTask t → RightTask u → RightTask (joined t u)
unfolding joined
joined_right t u r q =
    record {
      up = ascending_join t.atoms t.initial u.initial r.up r.low q.up;
      low = below_join t.atoms u.atoms t.initial u.initial r.low q.low;
      goal = literals_join t.atoms u.atoms t.goal u.goal r.goal q.goal;
      operators = λ o m. go o (Memᴰ.append_cases t.operators m);
    }
  where
    go :
        (o : Operator) → Memᴰ o t.operators ⊎ Memᴰ o (map (shifted_operator t.atoms) u.operators)
        → operator_right (t.atoms + u.atoms) o ≡ true
    go o (inl m) = operator_first t.atoms u.atoms o (r.operators o m)
    go o (inr m) =
        let k = map_of (shifted_operator t.atoms) u.operators m in
        subst (λ (z : Operator). operator_right (t.atoms + u.atoms) z ≡ true) (sym k.same)
        (operator_second t.atoms u.atoms k.it (q.operators k.it k.mem))

-- the joined initial state is the two initial states one after the other
pub joined_initial : (t u : Task) → RightTask t → initial_state (joined t u) ≡ initial_state t ++ initial_state u
unfolding initial_state joined state_of
joined_initial t u r =
    ext_get_or 0 (map (state_of trues) (below (N + L))) (initial_state t ++ initial_state u) same_length (λ a h. go a (low a h) (decide (ltb a N)))
  where
    N : ℕ
    N = t.atoms

    L : ℕ
    L = u.atoms

    trues : List ℕ
    trues = t.initial ++ shifted N u.initial

    long : length (initial_state t) ≡ N
    long = table_length (state_of t.initial) N

    same_length : length (map (state_of trues) (below (N + L))) ≡ length (initial_state t ++ initial_state u)
    same_length =
        let a = table_length (state_of trues) (N + L) in
        let b = length-append (initial_state t) (initial_state u) in
        let c = table_length (state_of u.initial) L in
        let d = long in
        omega arith

    low : (a : ℕ) → a < length (map (state_of trues) (below (N + L))) → a < N + L
    low a h = let b = table_length (state_of trues) (N + L) in omega arith

    or_none : (b : Bool) → (b || false) ≡ b
    or_none true = refl
    or_none false = refl

    of_first : (a : ℕ) → a < N → member a trues ≡ member a t.initial
    of_first a h =
        member_append a t.initial (shifted N u.initial)
        ∙ ap (λ b. member a t.initial || b) (member_under N a u.initial h)
        ∙ or_none (member a t.initial)

    of_second : (a : ℕ) → member (N + a) trues ≡ member a u.initial
    of_second a =
        member_append (N + a) t.initial (shifted N u.initial)
        ∙ ap₂ (λ x y. x || y) (member_over N (N + a) t.initial r.low (omega arith)) (member_shift N a u.initial)

    second : (b : ℕ) → b < L → get_or (map (state_of trues) (below (N + L))) (N + b) 0 ≡ get_or (initial_state t ++ initial_state u) (N + b) 0
    second b h =
        table_at (state_of trues) (N + L) (N + b) (omega arith)
        ∙ ap (λ x. cond x 1 0) (of_second b)
        ∙ sym (value_second N (initial_state t) (initial_state u) long b ∙ table_at (state_of u.initial) L b h)

    go :
        (a : ℕ) → a < N + L → (ltb a N ≡ true) ⊎ (ltb a N ≡ false)
        → get_or (map (state_of trues) (below (N + L))) a 0 ≡ get_or (initial_state t ++ initial_state u) a 0
    go a h (inl e) =
        let k = ltb-true a N e in
        table_at (state_of trues) (N + L) a h
        ∙ ap (λ x. cond x 1 0) (of_first a k)
        ∙ sym (value_first N (initial_state t) (initial_state u) long a k ∙ table_at (state_of t.initial) N a k)
    go a h (inr e) =
        let k = ltb-false a N e in
        let z : N + (a - N) ≡ a = omega arith in
        subst (λ (b : ℕ). get_or (map (state_of trues) (below (N + L))) b 0 ≡ get_or (initial_state t ++ initial_state u) b 0) z (second (a - N) (omega arith))

-- ---- its image is as long as both, less 6
rows_long : (n : ℕ) (rs : List Row) → rows_size (map (shifted_row n) rs) ≡ rows_size rs
unfolding rows_size shifted_row
rows_long n [] = refl
rows_long n (r ∷ rs) = let a = shifted_length (2 * n) r.conditions in let b = rows_long n rs in omega arith

pub operator_long : (n : ℕ) (o : Operator) → operator_size (shifted_operator n o) ≡ operator_size o
unfolding operator_size shifted_operator
operator_long n o = let a = shifted_length (2 * n) o.precondition in let b = rows_long n o.rows in omega arith

operators_long : (n : ℕ) (os : List Operator) → operators_size (map (shifted_operator n) os) ≡ operators_size os
unfolding operators_size
operators_long n [] = refl
operators_long n (o ∷ os) = ap₂ (λ a b. a + b) (operator_long n o) (operators_long n os)

operators_append : (os ps : List Operator) → operators_size (os ++ ps) ≡ operators_size os + operators_size ps
unfolding operators_size
operators_append [] ps = omega arith
operators_append (o ∷ os) ps = let a = operators_append os ps in omega arith

-- the number of its operators
pub joined_count : (t u : Task) → length (joined t u).operators ≡ length t.operators + length u.operators
unfolding joined
joined_count t u =
    length-append t.operators (map (shifted_operator t.atoms) u.operators)
    ∙ ap (λ m. length t.operators + m) (length-map u.operators (shifted_operator t.atoms))

pub joined_long : (t u : Task) → length (task_words (joined t u)) + 6 ≡ length (task_words t) + length (task_words u)
unfolding joined
joined_long t u =
    let n = t.atoms in
    let os = map (shifted_operator n) u.operators in
    let a = words_size (joined t u) in
    let b = words_size t in
    let c = words_size u in
    let d = joined_count t u in
    let e = length-append t.initial (shifted n u.initial) in
    let f = shifted_length n u.initial in
    let g = length-append t.goal (shifted (2 * n) u.goal) in
    let h = shifted_length (2 * n) u.goal in
    let i = operators_append t.operators os in
    let j = operators_long n u.operators in
    omega arith

-- ---- the call
-- what a yes to question 27 says
pub record Fits (t : Task) (target : ℕ) : Type 0 where
  pub atoms : t.atoms ≤ most_atoms
  pub operators : length t.operators ≤ most_operators
  pub image : length (task_words t) ≤ most_image
  pub room : length (task_words t) ≤ target

pub fits_of : (t : Task) (target : ℕ) → join_fits t target ≡ true → Fits t target
unfolding join_fits
fits_of t target h =
    let A = leb t.atoms most_atoms in
    let B = leb (length t.operators) most_operators in
    let D = leb (length (task_words t)) most_image in
    let F = leb (length (task_words t)) target in
    let abd = and_left (A && B && D) F h in
    let ab = and_left (A && B) D abd in
    record {
      atoms = leb-true t.atoms most_atoms (and_left A B ab);
      operators = leb-true (length t.operators) most_operators (and_right A B ab);
      image = leb-true (length (task_words t)) most_image (and_right (A && B) D abd);
      room = leb-true (length (task_words t)) target (and_right (A && B && D) F h);
    }

fits_within : (t : Task) (target : ℕ) → 1 ≤ t.atoms → Fits t target → within_limits t ≡ true
unfolding within_limits
fits_within t target h f =
    and_both
    (and_both (and_both (le-leb 1 t.atoms h) (le-leb t.atoms most_atoms f.atoms))
    (le-leb (length t.operators) most_operators f.operators))
    (le-leb (length (task_words t)) most_image f.image)

some_atom : (t u : Task) → 1 ≤ t.atoms → 1 ≤ (joined t u).atoms
unfolding joined
some_atom t u h = omega arith

-- what a join writes
abbrev pub join_written : Task → Task → Written
join_written t u = record { count = length (task_words (joined t u)); words = task_words (joined t u) }

-- what a finding of the join says: both images read, 27 is answered yes, and the words are those of the joined task
pub record Joins (w v : List ℕ) (target : ℕ) (x : Written) : Type 0 where
  pub first : Task
  pub second : Task
  pub read_first : read_task w ≡ finding first
  pub read_second : read_task v ≡ finding second
  pub fits : Fits (joined first second) target
  pub same : join_written first second ≡ x

module _ (w v : List ℕ) (target : ℕ) (t u : Task) (readt : read_task w ≡ finding t) (readu : read_task v ≡ finding u) where
  abbrev first_read : Read w t
  first_read = read_of w t readt

  abbrev second_read : Read v u
  second_read = read_of v u readu

  pub join_long : length (task_words (joined t u)) + 6 ≡ length w + length v
  join_long = joined_long t u ∙ ap₂ (λ a b. length a + length b) first_read.words second_read.words

  pub join_reads : Fits (joined t u) target → read_task (task_words (joined t u)) ≡ finding (joined t u)
  join_reads f =
      read_words (joined t u) (of_right (joined t u) (joined_right t u (right_of t first_read.right) (right_of u second_read.right)))
      (fits_within (joined t u) target (some_atom t u (sizes_of t first_read.within).some_atom) f)

pub join_of : (w v : List ℕ) (target : ℕ) (x : Written) → join_call w v target ≡ finding x → Joins w v target x
unfolding join_call join_answer ask
join_of w v target x e =
    let q = bind_of (read_task w) _ x e in
    let r = bind_of (read_task v) _ x q.2 in
    let J = joined q.0 r.0 in
    let k = bind_of (ask_at 27 0 (join_fits J target)) (λ _. finding (join_written q.0 r.0)) x r.2 in
    record {
      first = q.0;
      second = r.0;
      read_first = q.1;
      read_second = r.1;
      fits = fits_of J target (ask_of 27 0 (join_fits J target) k.0 k.1);
      same = same_finding (join_written q.0 r.0) x k.2;
    }
