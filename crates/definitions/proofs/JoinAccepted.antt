-- The union of a set accepted for each of two tasks is accepted for the joined task. Assumes nothing.
use mathlib.Core.Bool.{true}
use mathlib.Core.Logic.{◌⊎◌, inl, inr}
use mathlib.Core.Path.{◌≡◌, sym, ◌∙◌, ap, ap₂, subst}
use mathlib.Core.List.{List, ◌++◌, map, Memᴰ}
use mathlib.Core.List.Memᴰ
use Prim.Native.Nat.{ℕ, ◌+◌, ◌*◌, ◌≤◌}
use native.Mathlib.Nat.{le_of_mul-le-mul_left}
use native.Mathlib.Omega.{arith}
use lib.ListN.{length}
use borrow.Author.Tests.{le-leb}
use Rattle.definitions.specs.Lists.{all}
use Rattle.definitions.specs.Answer.{finding}
use Rattle.definitions.specs.Literal.{complement, holds_in, most_atoms}
use Rattle.definitions.specs.Image.{Row, Operator, Task, initial_state, read_task}
use Rattle.definitions.specs.Clauses.{width, most_rows, clause_words}
use Rattle.definitions.specs.Kept.{kept}
use Rattle.definitions.specs.Checker.{accept, Accepted, check}
use Rattle.definitions.specs.Join.{shifted, shifted_row, shifted_operator, shifted_clauses, joined, union, union_words}
use Rattle.definitions.specs.Marks.{mark_bytes}
use Rattle.definitions.proofs.ListLaws.{and_both, map_of, map_in, all_append, all_map, all_agree, in_left, in_right}
use Rattle.definitions.proofs.LiteralLaws.{complement_low, below_at}
use Rattle.definitions.proofs.ReadLaws.{effect_low, read_right}
use Rattle.definitions.proofs.AnswerLaws.{same_finding}
use Rattle.definitions.proofs.Accepts.{width_pos, words_length, accepts, check_accepts}
use Rattle.definitions.proofs.TaskBack.{RightTask, right_of, read_of}
use Rattle.definitions.proofs.JoinLaws.{shifted_of, complement_shift, holds_first, holds_second}
use Rattle.definitions.proofs.JoinKept.{AllLow, kept_shift, kept_more, kept_untouched}
use Rattle.definitions.proofs.JoinRead.{joined_initial}
use Rattle.definitions.proofs.StateLaws.{initial_long}
use Rattle.definitions.proofs.RowsRead.{RightSet, rows_right_lem}
use Rattle.definitions.proofs.CheckSound.{Checked, checked, clauses_low}
use Rattle.definitions.proofs.JoinUnion.{AllGood, union_up, union_good, union_words_lem}

-- ---- acceptance
-- every clause is over the task's atoms, holds initially and is kept under every operator
record SetKept (t : Task) (C : List (List ℕ)) : Type 0 where
  lows : AllLow t.atoms C
  keeps : (o : Operator) → Memᴰ o t.operators → (f : List ℕ) → Memᴰ f C → kept t.atoms C o f ≡ true
  starts : all (holds_in (initial_state t)) C ≡ true

module _ (t u : Task) (C D : List (List ℕ)) (rt : RightTask t) (ru : RightTask u) (st : SetKept t C) (su : SetKept u D) where
  abbrev N : ℕ
  N = t.atoms

  abbrev L : ℕ
  L = u.atoms

  abbrev U : List (List ℕ)
  U = union t.atoms C D

  union_true : all (holds_in (initial_state (joined t u))) U ≡ true
  unfolding union shifted_clauses
  union_true =
      subst (λ (s : List ℕ). all (holds_in s) (C ++ map (shifted (2 * N)) D) ≡ true) (sym (joined_initial t u rt))
      (all_append (holds_in s) C (map (shifted (2 * N)) D) ∙ and_both first second)
    where
      s : List ℕ
      s = initial_state t ++ initial_state u

      long : length (initial_state t) ≡ N
      long = initial_long t

      first : all (holds_in s) C ≡ true
      first =
          all_agree (holds_in s) (holds_in (initial_state t)) C (λ f m. holds_first N (initial_state t) (initial_state u) long f (st.lows f m))
          ∙ st.starts

      second : all (holds_in s) (map (shifted (2 * N)) D) ≡ true
      second =
          all_map (holds_in s) (shifted (2 * N)) D
          ∙ all_agree (λ f. holds_in s (shifted (2 * N) f)) (holds_in (initial_state u)) D (λ f m. holds_second N (initial_state t) (initial_state u) long f)
          ∙ su.starts

  in_first : (f : List ℕ) → Memᴰ f C → Memᴰ f U
  unfolding union
  in_first f m = in_left (shifted_clauses N D) m

  in_second : (f : List ℕ) → Memᴰ f D → Memᴰ (shifted (2 * N) f) U
  unfolding union shifted_clauses
  in_second f m = in_right C (map_in (shifted (2 * N)) m)

  -- an operator of the first: what it keeps in the first, and the second's clauses, which it does not touch
  keeps_first : (o : Operator) → Memᴰ o t.operators → (f : List ℕ) → Memᴰ f C → kept (N + L) U o f ≡ true
  keeps_first o m f k = kept_more N (N + L) (omega arith) C U st.lows in_first o (rt.operators o m) f (st.keeps o m f k)

  first_apart : (o : Operator) → Memᴰ o t.operators → (f : List ℕ) → kept (N + L) U o (shifted (2 * N) f) ≡ true
  first_apart o m f =
      kept_untouched (N + L) U o (shifted (2 * N) f)
      (λ l ml r mr e.
      let q = shifted_of (2 * N) f ml in
      let a = effect_low N o (rt.operators o m) r mr in
      let b = ap complement q.2 ∙ complement_shift N q.0 in
      omega arith)

  -- an operator of the second, shifted
  keeps_second :
      (o : Operator) → Memᴰ o u.operators → (f : List ℕ) → Memᴰ f D
      → kept (N + L) U (shifted_operator N o) (shifted (2 * N) f) ≡ true
  keeps_second o m f k = kept_shift N L (N + L) (omega arith) D U su.lows in_second o (ru.operators o m) f (su.keeps o m f k)

  second_apart : (o : Operator) → (f : List ℕ) → Memᴰ f C → kept (N + L) U (shifted_operator N o) f ≡ true
  unfolding shifted_operator shifted_row
  second_apart o f k =
      kept_untouched (N + L) U (shifted_operator N o) f
      (λ l ml r mr e.
      let a = complement_low N l (below_at (2 * N) f (st.lows f k) l ml) in
      let q = map_of (shifted_row N) o.rows mr in
      let b : r.effect ≡ 2 * N + q.it.effect = ap (λ (x : Row). x.effect) q.same in
      omega arith)

  union_kept : (f : List ℕ) → Memᴰ f U → (o : Operator) → Memᴰ o (joined t u).operators → kept (joined t u).atoms U o f ≡ true
  unfolding union shifted_clauses joined
  union_kept f m o mo = go (Memᴰ.append_cases C m) (Memᴰ.append_cases t.operators mo)
    where
      go :
          Memᴰ f C ⊎ Memᴰ f (map (shifted (2 * N)) D)
          → Memᴰ o t.operators ⊎ Memᴰ o (map (shifted_operator N) u.operators)
          → kept (N + L) U o f ≡ true
      go (inl k) (inl j) = keeps_first o j f k
      go (inl k) (inr j) =
          let q = map_of (shifted_operator N) u.operators j in
          subst (λ (z : Operator). kept (N + L) U z f ≡ true) (sym q.same) (second_apart q.it f k)
      go (inr k) (inl j) =
          let p = map_of (shifted (2 * N)) D k in
          subst (λ (z : List ℕ). kept (N + L) U o z ≡ true) (sym p.same) (first_apart o j p.it)
      go (inr k) (inr j) =
          let p = map_of (shifted (2 * N)) D k in
          let q = map_of (shifted_operator N) u.operators j in
          subst (λ (z : List ℕ). kept (N + L) U o z ≡ true) (sym p.same)
          (subst (λ (z : Operator). kept (N + L) U z (shifted (2 * N) p.it) ≡ true) (sym q.same) (keeps_second q.it q.mem p.it p.mem))

  union_accept : accept (joined t u) U ≡ finding tt
  union_accept = accepts (joined t u) U union_true union_kept

set_kept : {w c : List ℕ} {a : Accepted} → Checked w c a → SetKept a.task a.clauses
set_kept k = record { lows = clauses_low k; keeps = k.keeps; starts = k.starts }

-- an image that reads as the joined task, and a set accepted for each: their union is accepted
pub union_accepted :
    (w v z c d : List ℕ) (m₁ m₂ marks : ℕ) (a b : Accepted)
    → check w c m₁ ≡ finding a
    → check v d m₂ ≡ finding b
    → read_task z ≡ finding (joined a.task b.task)
    → length (union_words a.task.atoms c d) ≤ width * most_rows
    → mark_bytes (a.task.atoms + b.task.atoms) ≤ marks
    → check z (union_words a.task.atoms c d) marks
    ≡ finding (record { task = joined a.task b.task; clauses = union a.task.atoms a.clauses b.clauses })
unfolding joined
union_accepted w v z c d m₁ m₂ marks a b ea eb reads short enough =
    subst (λ (ws : List ℕ). check z ws marks ≡ finding (record { task = joined t u; clauses = U })) words
    (check_accepts z (joined t u) marks width U reads few (omega arith)
    good
    (union_up t.atoms u.atoms few C D r_c.0.clauses r_d.0.clauses r_c.0.order r_d.0.order)
    rows
    (le-leb (mark_bytes (t.atoms + u.atoms)) marks enough)
    (union_accept t u C D
    (right_of t (read_of w t pa.read).right)
    (right_of u (read_of v u pb.read).right)
    (set_kept pa)
    (set_kept pb)))
  where
    t : Task
    t = a.task

    u : Task
    u = b.task

    C : List (List ℕ)
    C = a.clauses

    D : List (List ℕ)
    D = b.clauses

    U : List (List ℕ)
    U = union t.atoms C D

    pa : Checked w c a
    pa = checked w c m₁ a ea

    pb : Checked v d b
    pb = checked v d m₂ b eb

    r_c : RightSet t.atoms C × (clause_words C ≡ c)
    r_c = rows_right_lem t.atoms c C pa.clauses

    r_d : RightSet u.atoms D × (clause_words D ≡ d)
    r_d = rows_right_lem u.atoms d D pb.clauses

    few : t.atoms + u.atoms ≤ most_atoms
    few = (read_right z (joined t u) reads).few

    good : AllGood (t.atoms + u.atoms) U
    good = union_good t.atoms u.atoms few C D r_c.0.clauses r_d.0.clauses

    words : clause_words U ≡ union_words t.atoms c d
    words =
        union_words_lem t.atoms u.atoms few C D r_c.0.clauses r_d.0.clauses
        ∙ ap₂ (λ x y. union_words t.atoms x y) r_c.1 r_d.1

    rows : length U ≤ most_rows
    rows =
        le_of_mul-le-mul_left {m = length U} {n = most_rows} {k = width}
        (subst (λ (k : ℕ). k ≤ width * most_rows) (sym (ap length words) ∙ words_length (t.atoms + u.atoms) width few (omega arith) U good) short)
        width_pos

-- the same, by the tasks that were read
pub joined_accepted :
    (w v z c d : List ℕ) (m₁ m₂ marks : ℕ) (t u : Task) (a b : Accepted)
    → read_task w ≡ finding t
    → read_task v ≡ finding u
    → read_task z ≡ finding (joined t u)
    → check w c m₁ ≡ finding a
    → check v d m₂ ≡ finding b
    → length (union_words t.atoms c d) ≤ width * most_rows
    → mark_bytes (t.atoms + u.atoms) ≤ marks
    → check z (union_words t.atoms c d) marks ≡ finding (record { task = joined t u; clauses = union t.atoms a.clauses b.clauses })
joined_accepted w v z c d m₁ m₂ marks t u a b rw' rv rz ea eb short enough =
    subst (λ (x : Task). Claim x u)
    (same_finding a.task t (sym (checked w c m₁ a ea).read ∙ rw'))
    (subst (λ (y : Task). Claim a.task y)
    (same_finding b.task u (sym (checked v d m₂ b eb).read ∙ rv))
    (union_accepted w v z c d m₁ m₂ marks a b ea eb))
    rz short enough
  where
    Claim : Task → Task → Type 0
    Claim x y =
        read_task z ≡ finding (joined x y)
        → length (union_words x.atoms c d) ≤ width * most_rows
        → mark_bytes (x.atoms + y.atoms) ≤ marks
        → check z (union_words x.atoms c d) marks ≡ finding (record { task = joined x y; clauses = union x.atoms a.clauses b.clauses })
