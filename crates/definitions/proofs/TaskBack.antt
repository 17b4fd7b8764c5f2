-- The words of a right task are read back as it, and an image that reads is the words of its task. Assumes nothing.
use mathlib.Core.Bool.{Bool, true, false, ◌&&◌}
use mathlib.Core.Option.{Option, none, some}
use mathlib.Core.Path.{◌≡◌, refl, sym, ◌∙◌, ap, ap₂, subst}
use mathlib.Core.List.{List, [], ◌∷◌, ◌++◌, map}
use Prim.Native.Nat.{ℕ, zero, suc, ◌+◌, ◌*◌, ◌≤◌, ◌<◌}
use native.Mathlib.Omega.{arith}
use lib.Dec.{eqb, leb}
use lib.ListN.{length, get_or, take, drop, length-append, length-map, length-take, length-drop, drop_of_length-le, take-append-drop}
use lib.Seq.{take_at, drop_at, drop-cons, drop-drop, drop-length}
use borrow.Author.Tests.{eqb-true, le-leb, leb-true}
use Rattle.definitions.specs.Lists.{all, each, ascending, range}
use Rattle.definitions.specs.Answer.{finding, refuse, ask, ask_at, ◌>>=◌}
use Rattle.definitions.specs.Literal.{most_atoms, all_below, literal_list}
use Rattle.definitions.specs.Image.{most_image, most_operators, Row, Operator, Task, offset_at, length_at, part, chained, directory, rows_of}
use Rattle.definitions.specs.Image.{rest_of, operator_of, operator_right, read_operator, read_operators, read_task}
use Rattle.definitions.specs.Step.{no_operator}
use Rattle.definitions.specs.Fdr.{pair_words}
use Rattle.definitions.specs.TaskWords.{counted_literals, row_words, operator_words, task_parts, task_words, task_right, within_limits}
use Rattle.definitions.proofs.ListLaws.{none_some, same_some, and_left, and_right, and_both, all_at, all_of, get_or_map_low, get_or_mem}
use Rattle.definitions.proofs.AnswerLaws.{not_finding, same_finding, bind_of, ask_of, pass, through}
use Rattle.definitions.proofs.ReadLaws.{Right, read_operators_right}
use Rattle.definitions.proofs.PackLaws.{all_words, pack, pack_length, pack_part, pack_directory}

-- ---- reading what was written
-- counted numbers in front of other words
module _ (ls rest : List ℕ) where
  counted_fits : leb (length ls) (length (ls ++ rest)) ≡ true
  counted_fits = let a = length-append ls rest in le-leb (length ls) (length (ls ++ rest)) (omega arith)

  counted_take : take (length ls) (ls ++ rest) ≡ ls
  counted_take = take_at ls rest (length ls) refl

  counted_drop : drop (length ls) (ls ++ rest) ≡ rest
  counted_drop = drop_at ls rest (length ls) refl

rows_back : (rs : List Row) → rows_of (length rs) (each row_words rs) ≡ some rs
unfolding rows_of each row_words counted_literals
rows_back [] = refl
rows_back (r ∷ rs) =
    rw (counted_fits r.conditions (each row_words rs), rows_of)
    (rw (counted_drop r.conditions (each row_words rs), rows_back rs)
    (rw (counted_take r.conditions (each row_words rs))))

pub operator_back : (o : Operator) → operator_of (operator_words o) ≡ some o
unfolding operator_of operator_words counted_literals rest_of
operator_back o =
    rw (counted_fits o.precondition (length o.rows ∷ each row_words o.rows), operator_of)
    (rw (
      counted_drop o.precondition (length o.rows ∷ each row_words o.rows),
      counted_take o.precondition (length o.rows ∷ each row_words o.rows),
    )
    (rw (rows_back o.rows, rest_of)))

-- what is asked of a task, one by one
pub record RightTask (t : Task) : Type 0 where
  pub up : ascending t.initial ≡ true
  pub low : all_below t.atoms t.initial ≡ true
  pub goal : literal_list t.atoms t.goal ≡ true
  pub operators : Right t

pub right_of : (t : Task) → task_right t ≡ true → RightTask t
unfolding task_right
right_of t h =
    let N = t.atoms in
    let a = and_left (ascending t.initial && all_below N t.initial && literal_list N t.goal) (all (operator_right N) t.operators) h in
    let c = and_right (ascending t.initial && all_below N t.initial && literal_list N t.goal) (all (operator_right N) t.operators) h in
    let b = and_left (ascending t.initial && all_below N t.initial) (literal_list N t.goal) a in
    record {
      up = and_left (ascending t.initial) (all_below N t.initial) b;
      low = and_right (ascending t.initial) (all_below N t.initial) b;
      goal = and_right (ascending t.initial && all_below N t.initial) (literal_list N t.goal) a;
      operators = λ o m. all_at (operator_right N) c m;
    }

pub of_right : (t : Task) → RightTask t → task_right t ≡ true
unfolding task_right
of_right t r =
    and_both (and_both (and_both r.up r.low) r.goal) (all_of (operator_right t.atoms) t.operators r.operators)

module _ (t : Task) where
  pub packed : task_words t ≡ pack t.atoms (length t.operators) (task_parts t)
  unfolding task_words pack
  packed = refl

  pub parts_length : length (task_parts t) ≡ length t.operators + 2
  unfolding task_parts
  parts_length = let a = length-map t.operators operator_words in omega arith

  long : 6 ≤ length (task_words t)
  long =
      let a = pack_length t.atoms (length t.operators) (task_parts t) in
      let b = parts_length in
      let c = ap length packed in
      omega arith

  the_part : (i : ℕ) → i < length t.operators + 2 → part (task_words t) i ≡ get_or (task_parts t) i []
  the_part i h =
      rw packed (pack_part t.atoms (length t.operators) (task_parts t) i (let a = parts_length in omega arith))

  initial_part : part (task_words t) 0 ≡ t.initial
  unfolding task_parts
  initial_part = the_part 0 (omega arith)

  goal_part : part (task_words t) 1 ≡ t.goal
  unfolding task_parts
  goal_part = the_part 1 (omega arith)

  operator_part : (i : ℕ) → i < length t.operators → part (task_words t) (i + 2) ≡ operator_words (get_or t.operators i no_operator)
  unfolding task_parts
  operator_part i h =
      let e : i + 2 ≡ suc (suc i) = omega arith in
      the_part (i + 2) (omega arith)
      ∙ ap (λ j. get_or (task_parts t) j []) e
      ∙ get_or_map_low operator_words t.operators i no_operator [] h

  first_word : get_or (task_words t) 0 0 ≡ t.atoms
  unfolding task_words
  first_word = refl

  second_word : get_or (task_words t) 1 0 ≡ length t.operators
  unfolding task_words
  second_word = refl

  module _ (right : RightTask t) where
    operators_back : (k i : ℕ) → i + k ≡ length t.operators → read_operators t.atoms (task_words t) i k ≡ finding (drop i t.operators)
    unfolding read_operators read_operator ask_at ◌>>=◌
    operators_back zero i e = ap finding (sym (drop_of_length-le t.operators {i = i} (omega arith)))
    operators_back (suc k) i e =
        let low : i < length t.operators = omega arith in
        let o = get_or t.operators i no_operator in
        rw (operator_part i low, operator_back o, read_operator)
        (rw (right.operators o (get_or_mem t.operators i no_operator low), operators_back k (suc i) (omega arith))
        (ap finding (sym (drop-cons t.operators i no_operator low))))

    read_within : within_limits t ≡ true → read_task (task_words t) ≡ finding t
    unfolding read_task ask within_limits
    read_within h =
        let counts = leb 1 t.atoms && leb t.atoms most_atoms && leb (length t.operators) most_operators in
        let short = leb (length (task_words t)) most_image in
        pass 1 _ _ _ (and_both (le-leb 6 (length (task_words t)) long) (and_right counts short h))
        (pass 2 _ _ _ (rw (first_word, second_word) (and_left counts short h))
        (pass 3 _ _ _ (rw (second_word, ← parts_length, packed) (pack_directory t.atoms (length t.operators) (task_parts t)))
        (pass 4 _ _ _ (rw (first_word, initial_part) (and_both right.up right.low))
        (pass 5 _ _ _ (rw (first_word, goal_part) right.goal)
        (through _ t.operators _ _ (rw (first_word, second_word) (operators_back (length t.operators) 0 (omega arith)))
        (rw (first_word, initial_part, goal_part)))))))

-- a right task within the limits is read from its words
pub read_words : (t : Task) → task_right t ≡ true → within_limits t ≡ true → read_task (task_words t) ≡ finding t
read_words t r h = read_within t (right_of t r) h

-- ---- writing what was read
pub rows_words : (k : ℕ) (xs : List ℕ) (rs : List Row) → rows_of k xs ≡ some rs → (length rs ≡ k) × (each row_words rs ≡ xs)
unfolding rows_of each row_words counted_literals
rows_words zero [] rs e = (ap length (sym (same_some e)), ap (each row_words) (sym (same_some e)))
rows_words zero (x ∷ xs) rs e = none_some e
rows_words (suc k) [] rs e = none_some e
rows_words (suc k) (x ∷ []) rs e = none_some e
rows_words (suc k) (x ∷ (c ∷ xs)) rs e = first (leb c (length xs)) refl (λ rs h. rows_words k (drop c xs) rs h)
  where
    first :
        (b :
        Bool) → leb c (length xs) ≡ b → ((rs : List Row) → rows_of k (drop c xs) ≡ some rs
        → (length rs ≡ k) × (each row_words rs ≡ drop c xs))
        → (length rs ≡ suc k) × (each row_words rs ≡ x ∷ (c ∷ xs))
    first false h rec = none_some (rw (h, rows_of) at e)
    first true h rec = second (rows_of k (drop c xs)) refl
      where
        second : (y : Option (List Row)) → rows_of k (drop c xs) ≡ y → (length rs ≡ suc k) × (each row_words rs ≡ x ∷ (c ∷ xs))
        second none q = none_some (rw q at (rw (h, rows_of) at e))
        second (some ts) q =
            let fits = leb-true c (length xs) h in
            let z = same_some {a = record { effect = x; conditions = take c xs } ∷ ts} (rw q at (rw (h, rows_of) at e)) in
            let r = rec ts q in
            let n : length (take c xs) ≡ c = let a = length-take c xs in omega arith in (
              ap length (sym z) ∙ ap suc r.0,
              ap (each row_words) (sym z) ∙ ap₂ (λ m l. x ∷ (m ∷ (take c xs ++ l))) n r.1 ∙ ap (λ l. x ∷ (c ∷ l)) (take-append-drop c xs),
            )

pub operator_words_lem : (b : List ℕ) (o : Operator) → operator_of b ≡ some o → operator_words o ≡ b
unfolding operator_of rest_of operator_words counted_literals
operator_words_lem [] o e = none_some e
operator_words_lem (c ∷ xs) o e = first (leb c (length xs)) refl
  where
    rest : (pre ys : List ℕ) → rest_of pre ys ≡ some o → operator_words o ≡ length pre ∷ (pre ++ ys)
    rest pre [] q = none_some q
    rest pre (k ∷ ys) q = by (rows_of k ys) refl
      where
        by : (z : Option (List Row)) → rows_of k ys ≡ z → operator_words o ≡ length pre ∷ (pre ++ (k ∷ ys))
        by none p = none_some (rw (p, rest_of) at q)
        by (some rs) p =
            let z = same_some {a = record { precondition = pre; rows = rs }} (rw (p, rest_of) at q) in
            let r = rows_words k ys rs p in
            ap operator_words (sym z) ∙ ap₂ (λ m l. length pre ∷ (pre ++ (m ∷ l))) r.0 r.1

    first : (b : Bool) → leb c (length xs) ≡ b → operator_words o ≡ c ∷ xs
    first false h = none_some (rw (h, operator_of) at e)
    first true h =
        let fits = leb-true c (length xs) h in
        let n : length (take c xs) ≡ c = let a = length-take c xs in omega arith in
        rest (take c xs) (drop c xs) (rw (h, operator_of) at e)
        ∙ ap₂ (λ m l. m ∷ l) n (take-append-drop c xs)

read_block : (N i : ℕ) (b : List ℕ) (o : Operator) → read_operator N i b ≡ finding o → operator_words o ≡ b
unfolding read_operator refuse
read_block N i b o e = go (operator_of b) refl
  where
    go : (x : Option Operator) → operator_of b ≡ x → operator_words o ≡ b
    go none p = absurd (not_finding (rw (p, read_operator) at e))
    go (some q) p =
        let m = bind_of (ask_at 7 i (operator_right N q)) (λ _. finding q) o (rw (p, read_operator) at e) in
        ap operator_words (sym (same_finding q o m.2)) ∙ operator_words_lem b q p

-- the parts of an image from part i on
unfoldable parts_from : List ℕ → ℕ → ℕ → List (List ℕ)
parts_from w i k = map (part w) (range i k)

read_blocks :
    (N : ℕ) (w : List ℕ) (k i : ℕ) (os : List Operator) → read_operators N w i k ≡ finding os → map operator_words os ≡ parts_from w (i + 2) k
unfolding read_operators parts_from range
read_blocks N w zero i os e = ap (map operator_words) (sym (same_finding [] os e))
read_blocks N w (suc k) i os e =
    let p = bind_of (read_operator N i (part w (i + 2))) (λ o. read_operators N w (suc i) k >>= λ os. finding (o ∷ os)) os e in
    let q = bind_of (read_operators N w (suc i) k) (λ os. finding (p.0 ∷ os)) os p.2 in
    let j : suc i + 2 ≡ suc (i + 2) = omega arith in
    ap (map operator_words) (sym (same_finding (p.0 ∷ q.0) os q.2))
    ∙ ap₂ (λ b bs. b ∷ bs) (read_block N i (part w (i + 2)) p.0 p.1)
    (read_blocks N w k (suc i) q.0 q.1 ∙ ap (λ j. map (part w) (range j k)) j)

operators_count : (N : ℕ) (w : List ℕ) (k i : ℕ) (os : List Operator) → read_operators N w i k ≡ finding os → length os ≡ k
unfolding read_operators
operators_count N w zero i os e = ap length (sym (same_finding [] os e))
operators_count N w (suc k) i os e =
    let p = bind_of (read_operator N i (part w (i + 2))) (λ o. read_operators N w (suc i) k >>= λ os. finding (o ∷ os)) os e in
    let q = bind_of (read_operators N w (suc i) k) (λ os. finding (p.0 ∷ os)) os p.2 in
    ap length (sym (same_finding (p.0 ∷ q.0) os q.2)) ∙ ap suc (operators_count N w k (suc i) q.0 q.1)

-- the lengths of k pairs from pair i
unfoldable sum_lengths : List ℕ → ℕ → ℕ → ℕ
sum_lengths w i zero = 0
sum_lengths w i (suc k) = length_at w i + sum_lengths w (suc i) k

chain_sum : (w : List ℕ) (k i at : ℕ) → chained w i at k ≡ true → at + sum_lengths w i k ≡ length w
unfolding chained sum_lengths
chain_sum w zero i at h = let e = eqb-true at (length w) h in omega arith
chain_sum w (suc k) i at h =
    let e = chain_sum w k (suc i) (at + length_at w i) (and_right (eqb (offset_at w i) at) (chained w (suc i) (at + length_at w i) k) h) in
    omega arith

-- a part has the length of its pair
part_length : (w : List ℕ) (i at : ℕ) → offset_at w i ≡ at → at + length_at w i ≤ length w → length (part w i) ≡ length_at w i
unfolding part
part_length w i at e h =
    let a = length-take (length_at w i) (drop (offset_at w i) w) in
    let b = length-drop (offset_at w i) w in
    omega arith

-- pair i, and the words behind it
pair_there : (w : List ℕ) (i : ℕ) → 3 + 2 * i < length w → drop (2 + 2 * i) w ≡ offset_at w i ∷ (length_at w i ∷ drop (2 + 2 * suc i) w)
unfolding offset_at length_at
pair_there w i h =
    let e : suc (2 + 2 * i) ≡ 3 + 2 * i = omega arith in
    let f : suc (3 + 2 * i) ≡ 2 + 2 * suc i = omega arith in
    drop-cons w (2 + 2 * i) 0 (omega arith)
    ∙ ap (λ j. offset_at w i ∷ drop j w) e
    ∙ ap (λ l. offset_at w i ∷ l) (drop-cons w (3 + 2 * i) 0 h ∙ ap (λ j. length_at w i ∷ drop j w) f)

-- k pairs from pair i stand where the parts' pairs stand
pairs_there :
    (w : List ℕ) (k i at : ℕ) → 2 + 2 * (i + k) ≤ length w → chained w i at k ≡ true
    → take (2 * k) (drop (2 + 2 * i) w) ≡ pair_words at (parts_from w i k)
unfolding chained parts_from range pair_words sum_lengths
pairs_there w zero i at h c = refl
pairs_there w (suc k) i at h c =
    let c1 = eqb-true (offset_at w i) at (and_left (eqb (offset_at w i) at) (chained w (suc i) (at + length_at w i) k) c) in
    let c2 = and_right (eqb (offset_at w i) at) (chained w (suc i) (at + length_at w i) k) c in
    let s : at + length_at w i + sum_lengths w (suc i) k ≡ length w = chain_sum w k (suc i) (at + length_at w i) c2 in
    let n : length (part w i) ≡ length_at w i = part_length w i at c1 (omega arith) in
    let e2 : 2 * suc k ≡ suc (suc (2 * k)) = omega arith in
    ap₂ (λ m l. take m l) e2 (pair_there w i (omega arith))
    ∙ ap₂ (λ a l. a ∷ (l ∷ take (2 * k) (drop (2 + 2 * suc i) w))) c1 (sym n)
    ∙ ap (λ l. at ∷ (length (part w i) ∷ l))
    (pairs_there w k (suc i) (at + length_at w i) (omega arith) c2 ∙ ap (λ a. pair_words (at + a) (parts_from w (suc i) k)) (sym n))

-- and their words behind
words_there : (w : List ℕ) (k i at : ℕ) → chained w i at k ≡ true → drop at w ≡ all_words (parts_from w i k)
unfolding chained parts_from range each part
words_there w zero i at c = ap (λ j. drop j w) (eqb-true at (length w) c) ∙ drop-length w
words_there w (suc k) i at c =
    let c1 = eqb-true (offset_at w i) at (and_left (eqb (offset_at w i) at) (chained w (suc i) (at + length_at w i) k) c) in
    let c2 = and_right (eqb (offset_at w i) at) (chained w (suc i) (at + length_at w i) k) c in
    sym (take-append-drop (length_at w i) (drop at w))
    ∙ ap₂ (λ p q. p ++ q) (ap (λ j. take (length_at w i) (drop j w)) (sym c1))
    (drop-drop (length_at w i) at w ∙ words_there w k (suc i) (at + length_at w i) c2)

parts_count : (w : List ℕ) (i k : ℕ) → length (parts_from w i k) ≡ k
unfolding parts_from range
parts_count w i zero = refl
parts_count w i (suc k) = ap suc (parts_count w (suc i) k)

-- an image whose directory is right is its two words, its directory and its parts
image_packed : (w : List ℕ) (k : ℕ) → directory w k ≡ true → w ≡ pack (get_or w 0 0) (get_or w 1 0) (parts_from w 0 k)
unfolding directory pack
image_packed w k d =
    let h = leb-true (2 + 2 * k) (length w) (and_left (leb (2 + 2 * k) (length w)) (chained w 0 (2 + 2 * k) k) d) in
    let c = and_right (leb (2 + 2 * k) (length w)) (chained w 0 (2 + 2 * k) k) d in
    let n : length (parts_from w 0 k) ≡ k = parts_count w 0 k in
    let p : take (2 * k) (drop 2 w) ≡ pair_words (2 + 2 * k) (parts_from w 0 k) = pairs_there w k 0 (2 + 2 * k) (omega arith) c in
    let q : drop (2 * k) (drop 2 w) ≡ all_words (parts_from w 0 k) = drop-drop (2 * k) 2 w ∙ words_there w k 0 (2 + 2 * k) c in
    drop-cons w 0 0 (omega arith)
    ∙ ap (λ l. get_or w 0 0 ∷ l) (drop-cons w 1 0 (omega arith))
    ∙ ap (λ l. get_or w 0 0 ∷ (get_or w 1 0 ∷ l)) (sym (take-append-drop (2 * k) (drop 2 w)) ∙ ap₂ (λ a b. a ++ b) p q)
    ∙ ap (λ m. get_or w 0 0 ∷ (get_or w 1 0 ∷ (pair_words (2 + 2 * m) (parts_from w 0 k) ++ all_words (parts_from w 0 k)))) (sym n)

written_back :
    (w : List ℕ) (os : List Operator) → length os ≡ get_or w 1 0 → map operator_words os ≡ parts_from w 2 (get_or w 1 0)
    → directory w (get_or w 1 0 + 2) ≡ true
    → task_words (record { atoms = get_or w 0 0; initial = part w 0; goal = part w 1; operators = os }) ≡ w
unfolding parts_from range task_parts
written_back w os n b d =
    let M = get_or w 1 0 in
    let j : M + 2 ≡ suc (suc M) = omega arith in
    packed (record { atoms = get_or w 0 0; initial = part w 0; goal = part w 1; operators = os })
    ∙ ap₂ (λ m ps. pack (get_or w 0 0) m (part w 0 ∷ (part w 1 ∷ ps))) n b
    ∙ ap (λ k. pack (get_or w 0 0) M (map (part w) (range 0 k))) (sym j)
    ∙ sym (image_packed w (M + 2) d)

-- what reading asked, and the image as the words of its task
pub record Read (w : List ℕ) (t : Task) : Type 0 where
  pub right : task_right t ≡ true
  pub within : within_limits t ≡ true
  pub words : task_words t ≡ w

pub read_of : (w : List ℕ) (t : Task) → read_task w ≡ finding t → Read w t
unfolding read_task ask task_right within_limits
read_of w t e =
    let N = get_or w 0 0 in
    let M = get_or w 1 0 in
    let q1 = bind_of (ask_at 1 0 (leb 6 (length w) && leb (length w) most_image)) _ t e in
    let q2 = bind_of (ask_at 2 0 (leb 1 N && leb N most_atoms && leb M most_operators)) _ t q1.2 in
    let q3 = bind_of (ask_at 3 0 (directory w (M + 2))) _ t q2.2 in
    let q4 = bind_of (ask_at 4 0 (ascending (part w 0) && all_below N (part w 0))) _ t q3.2 in
    let q5 = bind_of (ask_at 5 0 (literal_list N (part w 1))) _ t q4.2 in
    let q6 = bind_of (read_operators N w 0 M) (λ os. finding (record { atoms = N; initial = part w 0; goal = part w 1; operators = os })) t q5.2 in
    let os = q6.0 in
    let x : Task = record { atoms = N; initial = part w 0; goal = part w 1; operators = os } in
    let a1 = ask_of 1 0 (leb 6 (length w) && leb (length w) most_image) q1.0 q1.1 in
    let a2 = ask_of 2 0 (leb 1 N && leb N most_atoms && leb M most_operators) q2.0 q2.1 in
    let a3 = ask_of 3 0 (directory w (M + 2)) q3.0 q3.1 in
    let a4 = ask_of 4 0 (ascending (part w 0) && all_below N (part w 0)) q4.0 q4.1 in
    let a5 = ask_of 5 0 (literal_list N (part w 1)) q5.0 q5.1 in
    let n : length os ≡ M = operators_count N w M 0 os q6.1 in
    let same : task_words x ≡ w = written_back w os n (read_blocks N w M 0 os q6.1) a3 in
    subst (λ (z : Task). Read w z) (same_finding x t q6.2)
    (record {
      right = and_both (and_both a4 a5) (all_of (operator_right N) os (read_operators_right N w M 0 os q6.1));
      within =
          and_both (subst (λ (m : ℕ). (leb 1 N && leb N most_atoms && leb m most_operators) ≡ true) (sym n) a2)
          (subst (λ (v : List ℕ). leb (length v) most_image ≡ true) (sym same) (and_right (leb 6 (length w)) (leb (length w) most_image) a1));
      words = same;
    })
