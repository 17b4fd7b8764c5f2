-- Laws of the flags: their walks, and that they are the effects of the fired rows. Assumes nothing.
use mathlib.Core.Path.{◌≡◌, refl, sym, ap, subst, ◌∙◌}
use mathlib.Core.Logic.{◌⊎◌, inl, inr}
use mathlib.Core.List.{List, [], ◌∷◌, map, Memᴰ}
use mathlib.Core.Bool.{Bool, true, false, cond, beq, ◌&&◌, ◌||◌, and-true, and-false}
use Prim.Native.Nat.{ℕ, zero, suc, ◌+◌, ◌*◌, ◌≤◌, ◌<◌}
use native.Mathlib.Nat.{not-suc-le-zero, le_of_suc-le-suc}
use native.Mathlib.Omega.{arith}
use lib.ListN.{length, get_or, take, set, length-set, replicate, length-replicate, get_or-replicate}
use lib.Seq.{get_or-set_same, get_or-set_other, ext_get_or}
use lib.Dec.{eqb}
use borrow.Author.Tests.{eqb-true, eqb-false, eq-eqb}
use Rattle.definitions.specs.Lists.{any, below, member}
use Rattle.definitions.specs.Literal.{atom, positive, state_of}
use Rattle.definitions.specs.Image.{Row, Operator, Task, initial_state}
use Rattle.definitions.specs.Step.{fires, effects, after, result}
use Rattle.definitions.specs.Closure.{has}
use Rattle.definitions.proofs.ListLaws.{any_of, any_in, decide, refuted, never, and_left, and_right, and_both, set_if_length, member_in, map_in}
use Rattle.definitions.proofs.ListLaws.{table_at, table_length}
use Rattle.definitions.proofs.LiteralLaws.{positive_even}
use Rattle.definitions.proofs.StepLaws.{fired_in, fired_of, value_at_lem}
use Rattle.definitions.proofs.EncodeLaws.{same_bool_lem}
use Rattle.literal.specs.Literal.{literal_of, has_sign}
use Rattle.literal.proofs.Mark.{put_at, put_each_at, put_length}
use Rattle.literal.proofs.Sign.{literal_atom, literal_positive, sign_self, sign_own, other_atom}
use Rattle.state.specs.Flags.{set_true, flag_fired, make_true, changed, unflagged}

-- the effects of rows, fired or not
abbrev effects_of : List Row → List ℕ
effects_of rows = map (λ r. r.effect) rows

-- ---- one pass: the value of an atom, and the flags
-- a row of the sign has effect l
abbrev clears : Bool → ℕ → List Row → Bool
clears adds l rows = any (λ r. eqb r.effect l && has_sign adds r.effect) rows

unflagged_at :
    (adds : Bool) (rows : List Row) (m : List ℕ) (l : ℕ) → l < length m
    → get_or (unflagged adds rows m) l 0 ≡ cond (clears adds l rows) 0 (get_or m l 0)
unflagged_at adds rows m l h = put_at 0 (λ r. r.effect) (λ r. has_sign adds r.effect) rows m l h

unflagged_length : (adds : Bool) (rows : List Row) (m : List ℕ) → length (unflagged adds rows m) ≡ length m
unflagged_length adds = put_length 0 (λ r. r.effect) (λ r. has_sign adds r.effect)

clears_by :
    (adds : Bool) (l : ℕ) (rows : List Row) {r : Row} → Memᴰ r rows → l ≡ r.effect → has_sign adds l ≡ true
    → clears adds l rows ≡ true
clears_by adds l rows {r} mr e h =
    any_in (λ r. eqb r.effect l && has_sign adds r.effect) mr
    (and_both (eq-eqb r.effect l (sym e)) (subst (λ (z : ℕ). has_sign adds z ≡ true) e h))

clears_sign : (adds : Bool) (l : ℕ) (rows : List Row) → clears adds l rows ≡ true → has_sign adds l ≡ true
clears_sign adds l rows h =
    let w = any_of (λ r. eqb r.effect l && has_sign adds r.effect) rows h in
    let e = eqb w.it.effect l in
    let k = has_sign adds w.it.effect in
    subst (λ (z : ℕ). has_sign adds z ≡ true) (eqb-true w.it.effect l (and_left e k w.passes)) (and_right e k w.passes)

has_cleared : (m : List ℕ) (e : ℕ) → e < length m → has (set m e 0) e ≡ false
unfolding has
has_cleared m e h = rw (get_or-set_same m e 0 0 h)

has_other : (b : Bool) (m : List ℕ) (e l : ℕ) → (l ≡ e → ⊥) → has (cond b (set m e 0) m) l ≡ has m l
unfolding has
has_other true m e l ne = rw (get_or-set_other m e l 0 0 ne)
has_other false m e l ne = refl

make_length : (b : Bool) (s : List ℕ) (l : ℕ) → length (make_true b s l) ≡ length s
make_length true s l = length-set s (atom l) (cond (positive l) 1 0)
make_length false s l = refl

changed_length : (adds : Bool) (rows : List Row) (m s : List ℕ) → length (changed adds rows m s) ≡ length s
changed_length adds [] m s = refl
changed_length adds (r ∷ rows) m s =
    let b = has_sign adds r.effect in
    changed_length adds rows (cond b (set m r.effect 0) m) (make_true (b && has m r.effect) s r.effect)
    ∙ make_length (b && has m r.effect) s r.effect

-- what one row makes of atom a: its own literal, and another one
own_at :
    (adds : Bool) (a : ℕ) (m s : List ℕ) → a < length s
    → get_or (make_true (has m (literal_of a adds)) s (literal_of a adds)) a 0 ≡ cond (has m (literal_of a adds)) (cond adds 1 0) (get_or s a 0)
own_at adds a m s inside = go (has m (literal_of a adds))
  where
    go : (b : Bool) → get_or (make_true b s (literal_of a adds)) a 0 ≡ cond b (cond adds 1 0) (get_or s a 0)
    go true = rw (literal_atom a adds, literal_positive a adds) (get_or-set_same s a (cond adds 1 0) 0 inside)
    go false = refl

made_other : (b : Bool) (a e : ℕ) (s : List ℕ) → (b ≡ true → a ≡ atom e → ⊥) → get_or (make_true b s e) a 0 ≡ get_or s a 0
made_other true a e s ne = get_or-set_other s (atom e) a (cond (positive e) 1 0) 0 (ne refl)
made_other false a e s ne = refl

-- an atom changes in a pass exactly if its literal of that sign is flagged, and the effect of a row
pass_at :
    (adds : Bool) (a : ℕ) (rows : List Row) (m s : List ℕ) → literal_of a adds < length m → a < length s
    → get_or (changed adds rows m s) a 0 ≡ cond (has m (literal_of a adds) && member (literal_of a adds) (effects_of rows)) (cond adds 1 0) (get_or s a 0)
unfolding member any
pass_at adds a [] m s low inside = rw (and-false (has m (literal_of a adds)))
pass_at adds a (r ∷ rows) m s low inside =
    pass_at adds a rows m' s' (subst (λ (k : ℕ). literal_of a adds < k) (sym (set_if_length b m e 0)) low)
    (subst (λ (k : ℕ). a < k) (sym (make_length (b && has m e) s e)) inside)
    ∙ go (decide (eqb l e))
  where
    l : ℕ
    l = literal_of a adds

    e : ℕ
    e = r.effect

    b : Bool
    b = has_sign adds e

    m' : List ℕ
    m' = cond b (set m e 0) m

    s' : List ℕ
    s' = make_true (b && has m e) s e

    more : Bool
    more = member l (effects_of rows)

    Says : ℕ → Type 0
    Says z =
        cond (has (cond (has_sign adds z) (set m z 0) m) l && more) (cond adds 1 0) (get_or (make_true (has_sign adds z && has m z) s z) a 0)
        ≡ cond (has m l && (eqb l z || more)) (cond adds 1 0) (get_or s a 0)

    go : (eqb l e ≡ true) ⊎ (eqb l e ≡ false) → Says e
    go (inl h) =
        subst Says (eqb-true l e h)
        (rw (sign_own a adds, has_cleared m l low, eq-eqb l l refl, and-true (has m l)) (own_at adds a m s inside))
    go (inr h) =
        rw (
          has_other b m e l (eqb-false l e h),
          made_other (b && has m e) a e s (λ x. other_atom a e adds (and_left b (has m e) x) h),
          h,
        )

-- ---- the flags of an operator, from none
module _ (s : List ℕ) (o : Operator) where
  abbrev flags : ℕ → List ℕ
  flags n = flag_fired s o.rows (replicate n 0)

  -- an effect that fired is that of a row
  fired_row : (l : ℕ) → member l (effects s o) ≡ true → member l (effects_of o.rows) ≡ true
  fired_row l h = let f = fired_of s o l h in rw f.same (member_in (map_in (λ r. r.effect) f.mem))

  flags_at : (n l : ℕ) → l < n → get_or (flags n) l 0 ≡ cond (member l (effects s o)) 1 0
  flags_at n l h =
      put_at 1 (λ r. r.effect) (fires s) o.rows (replicate n 0) l (rw length-replicate h)
      ∙ ap (cond fired 1) (get_or-replicate n l 0 0 h)
      ∙ ap (λ (b : Bool). cond b 1 0) (same_bool_lem fired (member l (effects s o)) forth back)
    where
      fired : Bool
      fired = any (λ r. eqb r.effect l && fires s r) o.rows

      forth : fired ≡ true → member l (effects s o) ≡ true
      forth k =
          let w = any_of (λ r. eqb r.effect l && fires s r) o.rows k in
          let e = eqb w.it.effect l in
          subst (λ (z : ℕ). member z (effects s o) ≡ true) (eqb-true w.it.effect l (and_left e (fires s w.it) w.passes))
          (fired_in s o w.mem (and_right e (fires s w.it) w.passes))

      back : member l (effects s o) ≡ true → fired ≡ true
      back k =
          let f = fired_of s o l k in
          any_in (λ r. eqb r.effect l && fires s r) f.mem (and_both (eq-eqb f.row.effect l (sym f.same)) f.fired)

  flags_length : (n : ℕ) → length (flags n) ≡ n
  flags_length n = put_length 1 (λ r. r.effect) (fires s) o.rows (replicate n 0) ∙ length-replicate n 0

  -- an effect is that of an add or of a delete, so that both passes leave no flag
  pub flags_gone : (n : ℕ) → unflagged true o.rows (unflagged false o.rows (flags n)) ≡ replicate n 0
  flags_gone n =
      ext_get_or 0 gone (replicate n 0) (long ∙ sym (length-replicate n 0))
      (λ l h. let low : l < n = omega (arith, long) in at l low ∙ sym (get_or-replicate n l 0 0 low))
    where
      first : List ℕ
      first = unflagged false o.rows (flags n)

      gone : List ℕ
      gone = unflagged true o.rows first

      first_long : length first ≡ n
      first_long = unflagged_length false o.rows (flags n) ∙ flags_length n

      long : length gone ≡ n
      long = unflagged_length true o.rows first ∙ first_long

      by : (b : Bool) (l : ℕ) → positive l ≡ b → member l (effects s o) ≡ true → clears b l o.rows ≡ true
      by b l e h =
          let f = fired_of s o l h in
          clears_by b l o.rows f.mem f.same (ap (λ (x : Bool). has_sign x l) (sym e) ∙ sign_self l)

      clear :
          (l : ℕ) (p f : Bool) → positive l ≡ p → member l (effects s o) ≡ f
          → ◌≡◌ {A = ℕ} (cond (clears true l o.rows) 0 (cond (clears false l o.rows) 0 (cond f 1 0))) 0
      clear l p false e f = zeros (clears true l o.rows) (clears false l o.rows)
        where
          zeros : (x y : Bool) → ◌≡◌ {A = ℕ} (cond x 0 (cond y 0 0)) 0
          zeros true y = refl
          zeros false true = refl
          zeros false false = refl
      clear l true true e f = rw (by true l e f)
      clear l false true e f = rw (by false l e f) (same (clears true l o.rows))
        where
          same : (x : Bool) → ◌≡◌ {A = ℕ} (cond x 0 0) 0
          same true = refl
          same false = refl

      at : (l : ℕ) → l < n → get_or gone l 0 ≡ 0
      at l low =
          unflagged_at true o.rows first l (omega (arith, first_long))
          ∙ ap (cond (clears true l o.rows) 0)
          (unflagged_at false o.rows (flags n) l (omega (arith, flags_length n))
          ∙ ap (cond (clears false l o.rows) 0) (flags_at n l low))
          ∙ clear l (positive l) (member l (effects s o)) refl refl

  -- ---- the flags of the literals of s: first the deletes and then the adds made true is the step
  abbrev flagged : List ℕ
  flagged = flags (2 * length s)

  flagged_has : (l : ℕ) → l < 2 * length s → has flagged l ≡ member l (effects s o)
  unfolding has
  flagged_has l h = ap (λ (x : ℕ). eqb x 1) (flags_at (2 * length s) l h) ∙ go (member l (effects s o))
    where
      go : (b : Bool) → eqb (cond b 1 0) 1 ≡ b
      go true = refl
      go false = refl

  -- the flags of the adds are there after the deletes
  deletes_done : List ℕ
  deletes_done = unflagged false o.rows flagged

  adds_flagged : (a : ℕ) → a < length s → has deletes_done (2 * a) ≡ member (2 * a) (effects s o)
  unfolding has deletes_done has_sign
  adds_flagged a h = ap (λ (x : ℕ). eqb x 1) there ∙ flagged_has (2 * a) (omega arith)
    where
      no_delete : clears false (2 * a) o.rows ≡ false
      no_delete = refuted (λ k. never (clears_sign false (2 * a) o.rows k) (ap (λ (p : Bool). beq p false) (positive_even a)))

      there : get_or deletes_done (2 * a) 0 ≡ get_or flagged (2 * a) 0
      there =
          unflagged_at false o.rows flagged (2 * a) (omega (arith, flags_length (2 * length s)))
          ∙ ap (λ (b : Bool). cond b 0 (get_or flagged (2 * a) 0)) no_delete

  -- a pass with such flags
  pass_fired :
      (adds : Bool) (m t : List ℕ) (a : ℕ) → literal_of a adds < length m → a < length t
      → has m (literal_of a adds) ≡ member (literal_of a adds) (effects s o)
      → get_or (changed adds o.rows m t) a 0 ≡ cond (member (literal_of a adds) (effects s o)) (cond adds 1 0) (get_or t a 0)
  pass_fired adds m t a low inside e =
      pass_at adds a o.rows m t low inside
      ∙ ap (λ (b : Bool). cond (b && member (literal_of a adds) (effects_of o.rows)) (cond adds 1 0) (get_or t a 0)) e
      ∙ ap (λ (b : Bool). cond b (cond adds 1 0) (get_or t a 0)) (go (decide (member (literal_of a adds) (effects s o))))
    where
      l : ℕ
      l = literal_of a adds

      go :
          (member l (effects s o) ≡ true) ⊎ (member l (effects s o) ≡ false)
          → (member l (effects s o) && member l (effects_of o.rows)) ≡ member l (effects s o)
      go (inl h) = and_both h (fired_row l h) ∙ sym h
      go (inr h) = rw h

  pub flags_result : changed true o.rows (unflagged false o.rows flagged) (changed false o.rows flagged s) ≡ result s o
  unfolding result after deletes_done
  flags_result =
      ext_get_or 0 (changed true o.rows deletes_done t) (result s o) (long ∙ sym (table_length (after s (effects s o)) (length s)))
      (λ a h.
      let low : a < length s = omega (arith, long) in
      let size = unflagged_length false o.rows flagged ∙ flags_length (2 * length s) in
      pass_fired true deletes_done t a (omega (arith, size)) (omega (arith, low, size_t)) (adds_flagged a low)
      ∙ ap (cond (member (2 * a) (effects s o)) 1)
      (pass_fired false flagged s a (omega (arith, low, flags_length (2 * length s))) low (flagged_has (2 * a + 1) (omega arith)))
      ∙ sym (value_at_lem s o a low))
    where
      t : List ℕ
      t = changed false o.rows flagged s

      size_t : length t ≡ length s
      size_t = changed_length false o.rows flagged s

      long : length (changed true o.rows deletes_done t) ≡ length s
      long = changed_length true o.rows deletes_done t ∙ size_t

-- ---- the initial state
pub initial_made : (t : Task) (s : List ℕ) → length s ≡ t.atoms → set_true t.initial (replicate (length s) 0) ≡ initial_state t
unfolding initial_state state_of member
initial_made t s size =
    ext_get_or 0 (set_true t.initial z) (map (state_of t.initial) (below t.atoms)) (long ∙ sym (table_length (state_of t.initial) t.atoms))
    (λ a h.
    let low : a < t.atoms = omega (arith, long) in
    put_each_at 1 (λ a. a) t.initial z a (omega (arith, length-replicate {A = ℕ} (length s) 0))
    ∙ ap (cond (member a t.initial) 1) (get_or-replicate (length s) a 0 0 (omega arith))
    ∙ sym (table_at (state_of t.initial) t.atoms a low))
  where
    z : List ℕ
    z = replicate (length s) 0

    long : length (set_true t.initial z) ≡ t.atoms
    long = put_length 1 (λ a. a) (λ a. true) t.initial z ∙ length-replicate (length s) 0 ∙ size

pub take_zeros : (k n : ℕ) → k ≤ n → take k (replicate {A = ℕ} n 0) ≡ replicate k 0
take_zeros zero n h = refl
take_zeros (suc k) zero h = absurd (not-suc-le-zero h)
take_zeros (suc k) (suc n) h = ap (λ (l : List ℕ). 0 ∷ l) (take_zeros k n (le_of_suc-le-suc h))
