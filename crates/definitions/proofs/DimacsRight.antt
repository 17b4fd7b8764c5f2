-- Whatever reading a text finds passes questions 8 and 9: it is the distinct clauses of the text. Assumes nothing.
use mathlib.Core.Bool.{Bool, true, false, ◌&&◌, cond, false≢true}
use mathlib.Core.Logic.{◌⊎◌, inl, inr}
use mathlib.Core.Path.{◌≡◌, refl, sym, ap, subst}
use mathlib.Core.List.Memᴰ
use mathlib.Core.List.{List, [], ◌∷◌, map, Memᴰ}
use Prim.Native.Nat.{ℕ, ◌+◌, ◌-◌, ◌*◌, ◌≤◌, ◌<◌}
use native.Mathlib.Omega.{arith}
use lib.Dec.{ltb, leb}
use lib.ListN.{length, drop}
use borrow.Author.Tests.{eqb-false, leb-true, lt-ltb}
use Rattle.definitions.specs.Lists.{all}
use Rattle.definitions.specs.Answer.{finding, ask_at, ask}
use Rattle.definitions.specs.Literal.{most_atoms, all_below}
use Rattle.definitions.specs.Image.{Task, read_task}
use Rattle.definitions.specs.Clauses.{width, most_rows, clause_words, read_clauses}
use Rattle.definitions.specs.Groups.{Written}
use Rattle.definitions.specs.Dimacs.{split, ended, all_ended, Number, headed, is_number, words_in, numbers_in, is_zero, is_the, literal_of}
use Rattle.definitions.specs.Dimacs.{says_clauses, is_dimacs, clauses_in, fits_row, sorted, distinct, read_dimacs}
use Rattle.definitions.proofs.ListLaws.{and_left, and_right, and_both, all_at, map_of, Origin}
use Rattle.definitions.proofs.SetLaws.{insert_all_of}
use Rattle.definitions.proofs.OrderLaws.{up, insert_all_up}
use Rattle.definitions.specs.Clauses.{GoodClause}
use Rattle.definitions.proofs.AnswerLaws.{same_finding, bind_of, ask_of}
use Rattle.definitions.proofs.ReadLaws.{read_right}
use Rattle.definitions.proofs.Accepts.{read_back}
use Rattle.definitions.proofs.DimacsLaws.{split_all, ended_all}
use Rattle.definitions.proofs.DimacsRows.{good_sorted}
use Rattle.definitions.proofs.Inserted.{all_in_lem}

-- a variable that is not above N is a literal over N atoms
literal_low : (N : ℕ) (x : Number) → is_zero x ≡ false → leb x.size N ≡ true → ltb (literal_of x) (2 * N) ≡ true
unfolding is_zero literal_of
literal_low N x h k =
    let a = eqb-false x.size 0 h in
    let b = leb-true x.size N k in
    lt-ltb (2 * (x.size - 1) + cond x.negative 1 0) (2 * N) (go x.negative a b)
  where
    go : (s : Bool) → ((x.size ≡ 0) → ⊥) → x.size ≤ N → 2 * (x.size - 1) + cond s 1 0 < 2 * N
    go true a b = omega arith
    go false a b = omega arith

literals_low :
    (N : ℕ) (ps : List (List Number)) → all (all (λ x. ltb (literal_of x) (2 * N))) ps ≡ true
    → all (all_below (2 * N)) (map (map literal_of) ps) ≡ true
unfolding all all_below
literals_low N [] h = refl
literals_low N (p ∷ ps) h =
    and_both (one p (and_left (all (λ x. ltb (literal_of x) (2 * N)) p) (all (all (λ x. ltb (literal_of x) (2 * N))) ps) h))
    (literals_low N ps (and_right (all (λ x. ltb (literal_of x) (2 * N)) p) (all (all (λ x. ltb (literal_of x) (2 * N))) ps) h))
  where
    one : (p : List Number) → all (λ x. ltb (literal_of x) (2 * N)) p ≡ true → all (λ x. ltb x (2 * N)) (map literal_of p) ≡ true
    one [] k = refl
    one (x ∷ p) k =
        and_both (and_left (ltb (literal_of x) (2 * N)) (all (λ x. ltb (literal_of x) (2 * N)) p) k)
        (one p (and_right (ltb (literal_of x) (2 * N)) (all (λ x. ltb (literal_of x) (2 * N)) p) k))

says_low :
    (N : ℕ) (ns : List Number) → says_clauses N ns ≡ true → all (all_below (2 * N)) (map (map literal_of) (ended (split is_zero (drop 2 ns)))) ≡ true
unfolding says_clauses
says_low N [] h = absurd (false≢true h)
says_low N (n ∷ []) h = absurd (false≢true h)
says_low N (n ∷ (k ∷ xs)) h =
    literals_low N (ended (split is_zero xs))
    (ended_all (all (λ x. ltb (literal_of x) (2 * N))) (split is_zero xs)
    (split_all is_zero (λ x. ltb (literal_of x) (2 * N)) xs (λ x m e. literal_low N x e (all_at (λ x. leb x.size N) sizes m))))
  where
    sizes : all (λ x. leb x.size N) xs ≡ true
    sizes =
        and_right (is_the N n && is_the (length (ended (split is_zero xs))) k && all_ended (split is_zero xs)) (all (λ x. leb x.size N) xs) h

-- the clauses of a text of the form are over N atoms
pub clauses_low : (N : ℕ) (text : List ℕ) → is_dimacs N text ≡ true → all (all_below (2 * N)) (clauses_in text) ≡ true
unfolding is_dimacs clauses_in
clauses_low N text h = says_low N (numbers_in text) (and_right (headed text && all is_number (words_in text)) (says_clauses N (numbers_in text)) h)

-- what they make is right
sort_good :
    (N : ℕ) (D : List (List ℕ)) → all (all_below (2 * N)) D ≡ true → all fits_row D ≡ true → (f : List ℕ) → Origin sorted f D
    → GoodClause N width f
sort_good N D low fit f o =
    subst (λ (z : List ℕ). GoodClause N width z) (sym o.same)
    (good_sorted N o.it (all_at fits_row fit o.mem) (all_at (all_below (2 * N)) low o.mem))

pub distinct_up : (D : List (List ℕ)) → up (distinct D) ≡ true
unfolding distinct up
distinct_up D = insert_all_up (map sorted D) [] refl

-- ---- the rows are the clauses of the text
-- every row is a clause of the text, sorted
pub distinct_of : {f : List ℕ} (D : List (List ℕ)) → Memᴰ f (distinct D) → Origin sorted f D
unfolding distinct
distinct_of {f} D m = go (insert_all_of (map sorted D) [] m)
  where
    go : Memᴰ f (map sorted D) ⊎ Memᴰ f [] → Origin sorted f D
    go (inl k) = map_of sorted D k
    go (inr k) = absurd (Memᴰ.not-nil k)

-- they are right
pub distinct_good :
    (N : ℕ) (D : List (List ℕ)) → all (all_below (2 * N)) D ≡ true → all fits_row D ≡ true
    → (f : List ℕ) → Memᴰ f (distinct D) → GoodClause N width f
distinct_good N D low fit f m = sort_good N D low fit f (distinct_of D m)

-- the rows are the clauses of the text, in literal order
pub distinct_in :
    {f : List ℕ} (N : ℕ) (D : List (List ℕ)) → N ≤ most_atoms → all (all_below (2 * N)) D ≡ true → all fits_row D ≡ true
    → Memᴰ f (map sorted D) → Memᴰ f (distinct D)
unfolding distinct
distinct_in N D few low fit m =
    all_in_lem N (map sorted D) [] _ few (λ f k. sort_good N D low fit f (map_of sorted D k)) (λ f k. absurd (Memᴰ.not-nil k)) m

-- what reading found: the distinct clauses of the text, and their words pass questions 8 and 9
pub record TextFound (w text : List ℕ) (target : ℕ) (x : Written) : Type 0 where
  pub task : Task
  pub read : read_task w ≡ finding task
  pub form : is_dimacs task.atoms text ≡ true
  pub fit : all fits_row (clauses_in text) ≡ true
  pub rows : x.count ≡ length (distinct (clauses_in text))
  pub words : x.words ≡ clause_words (distinct (clauses_in text))
  pub room : width * x.count ≤ target
  pub passes : read_clauses task.atoms x.words ≡ finding (distinct (clauses_in text))

found :
    (w text : List ℕ) (target : ℕ) (x : Written) (t : Task) → read_task w ≡ finding t → is_dimacs t.atoms text ≡ true
    → all fits_row (clauses_in text) ≡ true
    → (leb (length (distinct (clauses_in text))) most_rows && leb (width * length (distinct (clauses_in text))) target) ≡ true
    → record { count = length (distinct (clauses_in text)); words = clause_words (distinct (clauses_in text)) } ≡ x → TextFound w text target x
found w text target x t read form fit enough is =
    let C = distinct (clauses_in text) in
    let few = leb-true (length C) most_rows (and_left (leb (length C) most_rows) (leb (width * length C) target) enough) in
    record {
      task = t;
      read = read;
      form = form;
      fit = fit;
      rows = sym (ap (λ z. z.count) is);
      words = sym (ap (λ z. z.words) is);
      room = rw (← is) (leb-true (width * length C) target (and_right (leb (length C) most_rows) (leb (width * length C) target) enough));
      passes =
          rw (← is)
          (read_back t.atoms width (read_right w t read).few (omega arith) C
          (distinct_good t.atoms (clauses_in text) (clauses_low t.atoms text form) fit) (distinct_up (clauses_in text)) few);
    }

pub text_found : (w text : List ℕ) (target : ℕ) (x : Written) → read_dimacs w text target ≡ finding x → TextFound w text target x
unfolding read_dimacs ask
text_found w text target x e =
    let D = clauses_in text in
    let q1 = bind_of (read_task w) _ x e in
    let q2 = bind_of (ask_at 24 0 (is_dimacs q1.0.atoms text)) _ x q1.2 in
    let q3 = bind_of (ask_at 25 0 (all fits_row D)) _ x q2.2 in
    let q4 = bind_of (ask_at 26 0 (leb (length (distinct D)) most_rows && leb (width * length (distinct D)) target)) _ x q3.2 in
    found w text target x q1.0 q1.1
    (ask_of 24 0 (is_dimacs q1.0.atoms text) q2.0 q2.1)
    (ask_of 25 0 (all fits_row D) q3.0 q3.1)
    (ask_of 26 0 (leb (length (distinct D)) most_rows && leb (width * length (distinct D)) target) q4.0 q4.1)
    (same_finding (record { count = length (distinct D); words = clause_words (distinct D) }) x q4.2)
