-- What the pass over the fired rows notes is what the definitions say of the step. Assumes nothing.
use mathlib.Core.Path.{◌≡◌, refl, sym, ap, ◌∙◌, subst}
use mathlib.Core.Logic.{◌⊎◌, inl, inr}
use mathlib.Core.List.Memᴰ
use mathlib.Core.List.{List, [], ◌∷◌, ◌++◌, append_assoc, append-nil, Memᴰ}
use mathlib.Core.Bool.{Bool, true, false, not, cond, ◌&&◌, ◌||◌, or-false, or_assoc}
use mathlib.Core.Option.{Option, none, some}
use Prim.Native.Nat.{ℕ, ◌+◌, ◌≤◌, ◌<◌}
use native.Mathlib.Omega.{arith}
use lib.Dec.{eqb, ltb}
use lib.ListN.{length, get_or, set, length-set}
use lib.Seq.{get_or-set_same, get_or-set_other}
use borrow.Author.Tests.{eq-eqb, ne_eqb, eqb-true, eqb-false, ltb-true, ltb-false}
use Rattle.definitions.specs.Lists.{any}
use Rattle.definitions.specs.Literal.{most_atoms}
use Rattle.definitions.specs.Fdr.{FdrRow}
use Rattle.definitions.specs.FdrStep.{is_set, clash, fdr_conflict, set_value, cleared}
use Rattle.definitions.proofs.ListLaws.{never, set_if_length, any_in}
use Rattle.definitions.proofs.FdrRows.{set_some, set_none}
use Rattle.fdr.specs.Change.{noted, note_set, note_clear, note_kind, note_row, note_fired}
use Rattle.fdr.proofs.Notes.{set_first, set_again}

-- the rows have variables that are noted, and are sets or clears
abbrev pub Rows : ℕ → List FdrRow → Type 0
Rows n rs = (r : FdrRow) → Memᴰ r rs → (r.variable < n) × (r.kind ≤ 1)

-- no row sets variable v
abbrev pub Unset : List FdrRow → ℕ → Type 0
Unset rs v = (r : FdrRow) → Memᴰ r rs → is_set r ≡ true → r.variable ≡ v → ⊥

-- ---- a clear, variable by variable
module _ (s : List ℕ) (v x : ℕ) (m : List ℕ) where
  clear_size : length (note_clear s v x m) ≡ length m
  unfolding note_clear
  clear_size = set_if_length (eqb (get_or m v 0) 0 && eqb x (get_or s v 0)) m v 1

  clear_kept : (w : ℕ) → 2 ≤ get_or m w 0 → get_or (note_clear s v x m) w 0 ≡ get_or m w 0
  unfolding note_clear
  clear_kept w k = go (eqb (get_or m v 0) 0) (eqb x (get_or s v 0)) refl
    where
      go : (a b : Bool) → eqb (get_or m v 0) 0 ≡ a → get_or (cond (a && b) (set m v 1) m) w 0 ≡ get_or m w 0
      go true true e =
          get_or-set_other m v w 1 0
          (λ z. let y : get_or m w 0 ≡ get_or m v 0 = ap (λ (i : ℕ). get_or m i 0) z in let q = eqb-true (get_or m v 0) 0 e in omega arith)
      go true false e = refl
      go false b e = refl

  clear_at : v < length m → (w : ℕ) → get_or m w 0 < 2 → get_or (note_clear s v x m) w 0 ≡ cond (eqb v w && eqb x (get_or s w 0)) 1 (get_or m w 0)
  unfolding note_clear
  clear_at inside w k = at (eqb v w) refl
    where
      apart : (b : Bool) → (w ≡ v → ⊥) → get_or (cond b (set m v 1) m) w 0 ≡ get_or m w 0
      apart true f = get_or-set_other m v w 1 0 f
      apart false f = refl

      here : (a b : Bool) → get_or m v 0 < 2 → eqb (get_or m v 0) 0 ≡ a → get_or (cond (a && b) (set m v 1) m) v 0 ≡ cond b 1 (get_or m v 0)
      here true true l e = get_or-set_same m v 1 0 inside
      here false true l e = let z = eqb-false (get_or m v 0) 0 e in omega arith
      here true false l e = refl
      here false false l e = refl

      at : (b : Bool) → eqb v w ≡ b → get_or (note_clear s v x m) w 0 ≡ cond (eqb v w && eqb x (get_or s w 0)) 1 (get_or m w 0)
      at true e =
          let z = eqb-true v w e in
          rw (e, ← z) (here (eqb (get_or m v 0) 0) (eqb x (get_or s v 0)) (rw z k) refl)
      at false e = rw e (apart (eqb (get_or m v 0) 0 && eqb x (get_or s v 0)) (λ z. eqb-false v w e (sym z)))

-- ---- one row: a set that was noted stays, a set is noted, and a clear where no set is
record RowNoted (s : List ℕ) (r : FdrRow) (m m' : List ℕ) : Type 0 where
  size : length m' ≡ length m
  kept : (w : ℕ) → 2 ≤ get_or m w 0 → get_or m' w 0 ≡ get_or m w 0
  given : is_set r ≡ true → get_or m' r.variable 0 ≡ r.value + 2
  free :
      (w : ℕ) → (is_set r ≡ true → r.variable ≡ w → ⊥) → get_or m w 0 < 2
      → get_or m' w 0 ≡ cond (cleared (r ∷ []) w (get_or s w 0)) 1 (get_or m w 0)

-- what one row comes to: it is a set, and another value is noted; or it is noted
abbrev RowComes : List ℕ → FdrRow → List ℕ → Option (List ℕ) → Type 0
RowComes s r m none = (is_set r ≡ true) × (2 ≤ get_or m r.variable 0) × (get_or m r.variable 0 ≡ r.value + 2 → ⊥)
RowComes s r m (some m') = RowNoted s r m m'

module _ (s : List ℕ) (r : FdrRow) (m : List ℕ) (inside : r.variable < length m) where
  abbrev v : ℕ
  v = r.variable

  set_row : is_set r ≡ true → note_row s r m ≡ note_set v r.value m
  unfolding is_set note_kind
  set_row h = rw (eqb-true r.kind 0 h)

  clear_row : is_set r ≡ false → r.kind ≤ 1 → note_row s r m ≡ some (note_clear s v r.value m)
  unfolding is_set note_kind
  clear_row h l =
      let z = eqb-false r.kind 0 h in
      let e : r.kind ≡ 1 = omega arith in
      rw e

  set_clears : is_set r ≡ true → (w : ℕ) → get_or m w 0 ≡ cond (cleared (r ∷ []) w (get_or s w 0)) 1 (get_or m w 0)
  unfolding cleared any
  set_clears h w = rw h

  -- a set where none was noted, and one that was noted before
  set_fresh : is_set r ≡ true → get_or m v 0 < 2 → RowNoted s r m (set m v (r.value + 2))
  set_fresh h l =
      record {
        size = length-set m v (r.value + 2);
        kept = λ w k. get_or-set_other m v w (r.value + 2) 0 (λ e. let z : get_or m w 0 ≡ get_or m v 0 = ap (λ (i : ℕ). get_or m i 0) e in omega arith);
        given = λ _. get_or-set_same m v (r.value + 2) 0 inside;
        free = λ w f k. get_or-set_other m v w (r.value + 2) 0 (λ e. f h (sym e)) ∙ set_clears h w;
      }

  set_same : is_set r ≡ true → get_or m v 0 ≡ r.value + 2 → RowNoted s r m m
  set_same h e = record { size = refl; kept = λ w k. refl; given = λ _. e; free = λ w f k. set_clears h w }

  clear_noted : is_set r ≡ false → RowNoted s r m (note_clear s v r.value m)
  unfolding cleared any
  clear_noted h =
      record {
        size = clear_size s v r.value m;
        kept = clear_kept s v r.value m;
        given = λ z. never z h;
        free = λ w f k. rw (h, or-false (eqb v w && eqb r.value (get_or s w 0))) (clear_at s v r.value m inside w k);
      }

  row_comes : r.kind ≤ 1 → RowComes s r m (note_row s r m)
  unfolding noted
  row_comes kind = go (is_set r) refl (ltb (get_or m v 0) 2) refl (eqb (get_or m v 0) (r.value + 2)) refl
    where
      -- a set of a variable that is set already
      late : is_set r ≡ true → 2 ≤ get_or m v 0 → (b : Bool) → eqb (get_or m v 0) (r.value + 2) ≡ b → note_row s r m ≡ noted b m
      late h l b e = set_row h ∙ sym (set_again v r.value m l) ∙ ap (λ (c : Bool). noted c m) e

      go :
          (a : Bool) → is_set r ≡ a → (b : Bool) → ltb (get_or m v 0) 2 ≡ b → (c : Bool) → eqb (get_or m v 0) (r.value + 2) ≡ c
          → RowComes s r m (note_row s r m)
      go false h b p c q = subst (RowComes s r m) (sym (clear_row h kind)) (clear_noted h)
      go true h true p c q =
          let l = ltb-true (get_or m v 0) 2 p in
          subst (RowComes s r m) (set_first v r.value m l ∙ sym (set_row h)) (set_fresh h l)
      go true h false p true q =
          subst (RowComes s r m) (sym (late h (ltb-false (get_or m v 0) 2 p) true q)) (set_same h (eqb-true (get_or m v 0) (r.value + 2) q))
      go true h false p false q =
          let l = ltb-false (get_or m v 0) 2 p in
          subst (RowComes s r m) (sym (late h l false q)) (h, l, eqb-false (get_or m v 0) (r.value + 2) q)

-- ---- the rows: each set is noted, and of a variable without one whether its present value is cleared
pub record RowsNoted (s : List ℕ) (rs : List FdrRow) (m : List ℕ) : Type 0 where
  pub size : length m ≡ most_atoms
  pub given : (r : FdrRow) → Memᴰ r rs → is_set r ≡ true → get_or m r.variable 0 ≡ r.value + 2
  pub free : (v : ℕ) → Unset rs v → get_or m v 0 ≡ cond (cleared rs v (get_or s v 0)) 1 0

-- what rows come to: two are in conflict, or all are noted
abbrev pub Comes : List ℕ → List FdrRow → Option (List ℕ) → Type 0
Comes s rs none = fdr_conflict rs ≡ true
Comes s rs (some m) = RowsNoted s rs m

pub one_at_most : (b : Bool) → cond b 1 0 ≤ 1
one_at_most true = omega arith
one_at_most false = omega arith

bits : (a b : Bool) → ◌≡◌ {A = ℕ} (cond b 1 (cond a 1 0)) (cond (a || b) 1 0)
bits true true = refl
bits true false = refl
bits false b = refl

cleared_last : (done : List FdrRow) (r : FdrRow) (w y : ℕ) → cleared (done ++ (r ∷ [])) w y ≡ (cleared done w y || cleared (r ∷ []) w y)
unfolding cleared any
cleared_last [] r w y = refl
cleared_last (q ∷ done) r w y =
    let p : FdrRow → Bool = λ r. not (is_set r) && eqb r.variable w && eqb r.value y in
    ap (λ (b : Bool). p q || b) (cleared_last done r w y) ∙ sym (or_assoc (p q) (any p done) (any p (r ∷ [])))

module _ (s : List ℕ) (done : List FdrRow) (r : FdrRow) (m : List ℕ) (before : RowsNoted s done m) where
  -- a row that is noted after others
  rows_next : (m' : List ℕ) → RowNoted s r m m' → RowsNoted s (done ++ (r ∷ [])) m'
  rows_next m' one =
      record { size = one.size ∙ before.size; given = λ q mem h. given q h (Memᴰ.append_cases done mem); free = free }
    where
      last : (q : FdrRow) → is_set q ≡ true → (q ≡ r) ⊎ Memᴰ q [] → get_or m' q.variable 0 ≡ q.value + 2
      last q h (inl e) = subst (λ (z : FdrRow). is_set z ≡ true → get_or m' z.variable 0 ≡ z.value + 2) (sym e) one.given h
      last q h (inr k) = absurd (Memᴰ.not-nil k)

      given : (q : FdrRow) → is_set q ≡ true → Memᴰ q done ⊎ Memᴰ q (r ∷ []) → get_or m' q.variable 0 ≡ q.value + 2
      given q h (inl k) = let z = before.given q k h in one.kept q.variable (omega arith) ∙ z
      given q h (inr k) = last q h (Memᴰ.cases_cons k)

      free : (v : ℕ) → Unset (done ++ (r ∷ [])) v → get_or m' v 0 ≡ cond (cleared (done ++ (r ∷ [])) v (get_or s v 0)) 1 0
      free v u =
          let a = cleared done v (get_or s v 0) in
          let b = cleared (r ∷ []) v (get_or s v 0) in
          let so_far : get_or m v 0 ≡ cond a 1 0 = before.free v (λ q k. u q (Memᴰ.append_left (r ∷ []) k)) in
          one.free v (u r (Memᴰ.append_right done (Memᴰ.head refl))) (let z = one_at_most a in omega arith)
          ∙ ap (λ (k : ℕ). cond b 1 k) so_far ∙ bits a b ∙ sym (ap (λ (c : Bool). cond c 1 0) (cleared_last done r v (get_or s v 0)))

  -- a set of another value than a set before it
  rows_clash : (rs : List FdrRow) → RowComes s r m none → fdr_conflict (done ++ (r ∷ rs)) ≡ true
  unfolding fdr_conflict clash
  rows_clash rs c = go (set_value done r.variable) refl
    where
      go : (o : Option ℕ) → set_value done r.variable ≡ o → fdr_conflict (done ++ (r ∷ rs)) ≡ true
      go none e =
          let z = before.free r.variable (set_none done r.variable e) in
          let y = one_at_most (cleared done r.variable (get_or s r.variable 0)) in
          let l = c.1 in
          absurd (omega arith)
      go (some x) e =
          let all = done ++ (r ∷ rs) in
          let q = set_some done r.variable x e in
          let z = before.given q.0 q.1 q.2 in
          let other : q.0.value ≡ r.value → ⊥ =
          λ y. c.2 (ap (λ (k : ℕ). get_or m k 0) (sym q.3) ∙ z ∙ ap (λ (k : ℕ). k + 2) y) in
          let hit : clash q.0 r ≡ true =
          rw (q.2, c.0, eq-eqb q.0.variable r.variable q.3, ne_eqb q.0.value r.value other) in
          any_in (λ p. any (clash p) all) (Memᴰ.append_left (r ∷ rs) q.1)
          (any_in (clash q.0) (Memᴰ.append_right done (Memᴰ.head refl)) hit)

-- the rows that are left, after those that are noted
pub rows_come :
    (s : List ℕ) (rs done : List FdrRow) (m : List ℕ) → Rows most_atoms rs → RowsNoted s done m
    → Comes s (done ++ rs) (note_fired s rs m)
unfolding note_fired
rows_come s [] done m low before = subst (λ (l : List FdrRow). RowsNoted s l m) (sym (append-nil done)) before
rows_come s (r ∷ rs) done m low before =
    go (note_row s r m) refl (row_comes s r m (let z = first.0 in let y = before.size in omega arith) first.1)
    (λ m' n. rows_come s rs (done ++ (r ∷ [])) m' (λ q mem. low q (Memᴰ.tail mem)) n)
  where
    first : (r.variable < most_atoms) × (r.kind ≤ 1)
    first = low r (Memᴰ.head refl)

    go :
        (o : Option (List ℕ)) → note_row s r m ≡ o → RowComes s r m (note_row s r m)
        → ((m' : List ℕ) → RowsNoted s (done ++ (r ∷ [])) m' → Comes s ((done ++ (r ∷ [])) ++ rs) (note_fired s rs m'))
        → Comes s (done ++ (r ∷ rs)) (note_fired s (r ∷ rs) m)
    go none e one rec = rw (e, note_fired) (rows_clash s done r m before rs (subst (RowComes s r m) e one))
    go (some m') e one rec =
        let next = rec m' (rows_next s done r m before m' (subst (RowComes s r m) e one)) in
        rw (e, note_fired) (subst (λ (l : List FdrRow). Comes s l (note_fired s rs m')) (append_assoc done (r ∷ []) rs) next)
