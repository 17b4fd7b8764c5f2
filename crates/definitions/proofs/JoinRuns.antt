-- A list of numbers runs in the joined task exactly if each task's own part of it runs there. Assumes nothing.
use mathlib.Core.Bool.{Bool, true, false, ◌&&◌}
use mathlib.Core.Logic.{◌⊎◌, inl, inr}
use mathlib.Core.Path.{◌≡◌, refl, sym, ◌∙◌, ap, ap₂, subst}
use mathlib.Core.List.{List, [], ◌∷◌, ◌++◌, map}
use Prim.Native.Nat.{ℕ, ◌+◌, ◌-◌, ◌*◌, ◌<◌}
use native.Mathlib.Omega.{arith}
use lib.Dec.{ltb}
use lib.ListN.{length, get_or, length-append, get_or-append, get_or-map}
use lib.Seq.{ext_get_or, get_or-append-add}
use borrow.Author.Tests.{ltb-true, ltb-false, lt-ltb}
use Rattle.definitions.specs.Lists.{all, keep, member}
use Rattle.definitions.specs.Answer.{Answer, finding, refused, verdict, state_after, ask, ask_at, ◌>>=◌, is_finding}
use Rattle.definitions.specs.StepLists.{walk, verdicts, runs}
use Rattle.definitions.specs.Literal.{all_below, all_true}
use Rattle.definitions.specs.Image.{Operator, Task, operator_right}
use Rattle.definitions.specs.Step.{fires, effects, applicable, after, result, no_operator, operator_at, step}
use Rattle.definitions.specs.Join.{shifted, shifted_row, shifted_operator, joined, first_part, second_part}
use Rattle.definitions.proofs.ListLaws.{decide, all_at, keep_of, map_of, get_or_mem, and_assoc, keep_agree}
use Rattle.definitions.proofs.EncodeLaws.{keep_map}
use Rattle.definitions.proofs.StepsAlike.{map_map}
use Rattle.definitions.proofs.ReadLaws.{pre_low, effect_low, conditions_low}
use Rattle.definitions.proofs.StepLaws.{untouched, result_length, value_at_lem}
use Rattle.definitions.proofs.TaskBack.{RightTask}
use Rattle.definitions.proofs.JoinRead.{joined_count}
use Rattle.definitions.proofs.JoinLaws.{ltb_shift, member_shift, member_under, member_over, value_first, value_second, all_first, all_second}
use Rattle.definitions.proofs.LiteralLaws.{below_all}

both_lengths : (a b c d : List ℕ) → length a ≡ length c → length b ≡ length d → length (a ++ b) ≡ length (c ++ d)
both_lengths a b c d e f = length-append a b ∙ ap₂ (λ x y. x + y) e f ∙ sym (length-append c d)

-- states that agree on the n atoms of the first, and on the atoms behind them
same_state :
    (n : ℕ) (x y : List ℕ) → length x ≡ length y → ((a : ℕ) → a < n → a < length x → get_or x a 0 ≡ get_or y a 0)
    → ((b : ℕ) → n + b < length x → get_or x (n + b) 0 ≡ get_or y (n + b) 0) → x ≡ y
same_state n x y e first second = ext_get_or 0 x y e (λ a h. go a h (decide (ltb a n)))
  where
    go : (a : ℕ) → a < length x → (ltb a n ≡ true) ⊎ (ltb a n ≡ false) → get_or x a 0 ≡ get_or y a 0
    go a h (inl k) = first a (ltb-true a n k) h
    go a h (inr k) =
        let j = ltb-false a n k in
        let z : n + (a - n) ≡ a = omega arith in
        subst (λ (b : ℕ). get_or x b 0 ≡ get_or y b 0) z (second (a - n) (omega arith))

-- an atom after the same effects, shifted, and the same value
after_alike :
    (s v es fs : List ℕ) (a b : ℕ) → member (2 * a) es ≡ member (2 * b) fs → member (2 * a + 1) es ≡ member (2 * b + 1) fs
    → get_or s a 0 ≡ get_or v b 0
    → after s es a ≡ after v fs b
unfolding after
after_alike s v es fs a b p q r = rw (p, q, r)

-- ---- a step by an operator of the first
module _ (n : ℕ) (s v : List ℕ) (len : length s ≡ n) (o : Operator) (right : operator_right n o ≡ true) where
  effects_first : effects (s ++ v) o ≡ effects s o
  unfolding effects fires
  effects_first =
      ap (map (λ r. r.effect))
      (keep_agree (fires (s ++ v)) (fires s) o.rows
      (λ r m. all_first n s v len r.conditions (all_at (λ r. all_below (2 * n) r.conditions) (conditions_low n o right) m)))

  effects_low : all_below (2 * n) (effects s o) ≡ true
  unfolding effects
  effects_low =
      below_all (2 * n) (effects s o)
      (λ e m. let q = map_of (λ r. r.effect) (keep (fires s) o.rows) m in
      let k = effect_low n o right q.it (keep_of (fires s) o.rows q.mem).0 in
      let z = q.same in
      omega arith)

  result_first : result (s ++ v) o ≡ result s o ++ v
  result_first =
      same_state n (result (s ++ v) o) (result s o ++ v)
      (result_length (s ++ v) o ∙ both_lengths s v (result s o) v (sym (result_length s o)) refl)
      (λ a h low. let k = result_length (s ++ v) o in
      value_at_lem (s ++ v) o a (omega arith)
      ∙ ap (λ es. after (s ++ v) es a) effects_first
      ∙ after_alike (s ++ v) s (effects s o) (effects s o) a a refl refl (value_first n s v len a h)
      ∙ sym (value_first n (result s o) v (result_length s o ∙ len) a h ∙ value_at_lem s o a (omega arith)))
      (λ b low. let k = result_length (s ++ v) o in
      value_at_lem (s ++ v) o (n + b) (omega arith)
      ∙ ap (λ es. after (s ++ v) es (n + b)) effects_first
      ∙ untouched (s ++ v) (effects s o) (n + b)
      (member_over (2 * n) (2 * (n + b)) (effects s o) effects_low (omega arith))
      (member_over (2 * n) (2 * (n + b) + 1) (effects s o) effects_low (omega arith))
      ∙ value_second n s v len b
      ∙ sym (value_second n (result s o) v (result_length s o ∙ len) b))

-- ---- a step by a shifted operator of the second
module _ (n : ℕ) (s v : List ℕ) (len : length s ≡ n) (o : Operator) where
  effects_second : effects (s ++ v) (shifted_operator n o) ≡ shifted (2 * n) (effects v o)
  unfolding effects fires shifted_operator shifted_row shifted
  effects_second =
      ap (map (λ r. r.effect)) (keep_map (fires (s ++ v)) (fires v) (shifted_row n) o.rows (λ r m. all_second n s v len r.conditions))
      ∙ map_map (λ r. r.effect) (shifted_row n) (keep (fires v) o.rows)
      ∙ sym (map_map (λ x. 2 * n + x) (λ r. r.effect) (keep (fires v) o.rows))

  result_second : result (s ++ v) (shifted_operator n o) ≡ s ++ result v o
  result_second =
      same_state n (result (s ++ v) (shifted_operator n o)) (s ++ result v o)
      (result_length (s ++ v) (shifted_operator n o) ∙ both_lengths s v s (result v o) refl (sym (result_length v o)))
      (λ a h low. let k = result_length (s ++ v) (shifted_operator n o) in
      value_at_lem (s ++ v) (shifted_operator n o) a (omega arith)
      ∙ ap (λ es. after (s ++ v) es a) effects_second
      ∙ untouched (s ++ v) (shifted (2 * n) (effects v o)) a
      (member_under (2 * n) (2 * a) (effects v o) (omega arith))
      (member_under (2 * n) (2 * a + 1) (effects v o) (omega arith))
      ∙ value_first n s v len a h
      ∙ sym (value_first n s (result v o) len a h))
      (λ b low. let k = result_length (s ++ v) (shifted_operator n o) in
      let j = length-append s v in
      let x : 2 * (n + b) ≡ 2 * n + 2 * b = omega arith in
      let y : 2 * (n + b) + 1 ≡ 2 * n + (2 * b + 1) = omega arith in
      value_at_lem (s ++ v) (shifted_operator n o) (n + b) (omega arith)
      ∙ ap (λ es. after (s ++ v) es (n + b)) effects_second
      ∙ after_alike (s ++ v) v (shifted (2 * n) (effects v o)) (effects v o) (n + b) b
      (ap (λ z. member z (shifted (2 * n) (effects v o))) x ∙ member_shift (2 * n) (2 * b) (effects v o))
      (ap (λ z. member z (shifted (2 * n) (effects v o))) y ∙ member_shift (2 * n) (2 * b + 1) (effects v o))
      (value_second n s v len b)
      ∙ sym (value_second n s (result v o) len b ∙ value_at_lem v o b (omega arith)))

pre_second :
    (n : ℕ) (s v : List ℕ) → length s ≡ n → (o : Operator)
    → all_true (s ++ v) (shifted_operator n o).precondition ≡ all_true v o.precondition
unfolding shifted_operator
pre_second n s v len o = all_second n s v len o.precondition

-- ---- a step by number
asked : Bool → Bool → List ℕ → Answer (List ℕ)
asked a b x = do
  _ ← ask 19 a
  _ ← ask 20 b
  finding x

-- questions 19 and 20 and the step, by an operator whose number is there or not
unfoldable pub step_by : Bool → List ℕ → Operator → Answer (List ℕ)
unfolding asked
step_by there s o = asked there (all_true s o.precondition) (result s o)

pub step_by_lem : (t : Task) (s : List ℕ) (i : ℕ) → step t s i ≡ step_by (ltb i (length t.operators)) s (operator_at t i)
unfolding step applicable step_by asked
step_by_lem t s i = refl

asked_through : (a b : Bool) (x : List ℕ) (f : List ℕ → List ℕ) → asked a b (f x) ≡ (asked a b x >>= λ y. finding (f y))
unfolding asked ask ask_at ◌>>=◌
asked_through false b x f = refl
asked_through true false x f = refl
asked_through true true x f = refl

-- operators that ask alike in two states, and lead from s to a state of which f makes the other one
by_through :
    (there : Bool) (s x : List ℕ) (o q : Operator) (f : List ℕ → List ℕ)
    → all_true x q.precondition ≡ all_true s o.precondition → result x q ≡ f (result s o)
    → step_by there x q ≡ (step_by there s o >>= λ y. finding (f y))
unfolding step_by
by_through there s x o q f a b =
    ap₂ (asked there) a b
    ∙ asked_through there (all_true s o.precondition) (result s o) f

asked_length : (a b : Bool) (s x : List ℕ) → length x ≡ length s → length (state_after s (asked a b x)) ≡ length s
unfolding asked ask ask_at ◌>>=◌ state_after
asked_length false b s x h = refl
asked_length true false s x h = refl
asked_length true true s x h = h

step_length : (t : Task) (s : List ℕ) (i : ℕ) → length (state_after s (step t s i)) ≡ length s
unfolding step_by
step_length t s i =
    let o = operator_at t i in
    ap (λ a. length (state_after s a)) (step_by_lem t s i)
    ∙ asked_length (ltb i (length t.operators)) (all_true s o.precondition) s (result s o) (result_length s o)

module _ (t u : Task) (right : RightTask t) (s v : List ℕ) (len : length s ≡ t.atoms) where
  abbrev M : ℕ
  M = length t.operators

  operator_first : (i : ℕ) → i < M → operator_at (joined t u) i ≡ operator_at t i
  unfolding operator_at joined
  operator_first i h = get_or-append t.operators (map (shifted_operator t.atoms) u.operators) no_operator i h

  operator_second : (j : ℕ) → operator_at (joined t u) (M + j) ≡ shifted_operator t.atoms (operator_at u j)
  unfolding operator_at joined no_operator shifted_operator shifted
  operator_second j =
      get_or-append-add t.operators (map (shifted_operator t.atoms) u.operators) j no_operator
      ∙ get_or-map (shifted_operator t.atoms) u.operators j no_operator

  -- a number of the first: the step of the first, the second's state behind it
  pub step_first : (i : ℕ) → i < M → step (joined t u) (s ++ v) i ≡ (step t s i >>= λ x. finding (x ++ v))
  unfolding operator_at
  step_first i h =
      step_by_lem (joined t u) (s ++ v) i
      ∙ ap₂ (λ b o. step_by b (s ++ v) o) there (operator_first i h)
      ∙ by_through (ltb i M) s (s ++ v) o o (λ x. x ++ v)
      (all_first t.atoms s v len o.precondition (pre_low t.atoms o good))
      (result_first t.atoms s v len o good)
      ∙ ap (λ a. a >>= λ x. finding (x ++ v)) (sym (step_by_lem t s i))
    where
      o : Operator
      o = operator_at t i

      good : operator_right t.atoms o ≡ true
      good = right.operators o (get_or_mem t.operators i no_operator h)

      there : ltb i (length (joined t u).operators) ≡ ltb i M
      there =
          let c = joined_count t u in
          lt-ltb i (length (joined t u).operators) (omega arith) ∙ sym (lt-ltb i M h)

  -- a number of the second, the first's operators before it: the step of the second, behind the first's state
  pub step_second : (j : ℕ) → step (joined t u) (s ++ v) (M + j) ≡ (step u v j >>= λ x. finding (s ++ x))
  step_second j =
      step_by_lem (joined t u) (s ++ v) (M + j)
      ∙ ap₂ (λ b o. step_by b (s ++ v) o) there (operator_second j)
      ∙ by_through (ltb j (length u.operators)) v (s ++ v) o (shifted_operator t.atoms o) (λ x. s ++ x)
      (pre_second t.atoms s v len o)
      (result_second t.atoms s v len o)
      ∙ ap (λ a. a >>= λ x. finding (s ++ x)) (sym (step_by_lem u v j))
    where
      o : Operator
      o = operator_at u j

      there : ltb (M + j) (length (joined t u).operators) ≡ ltb j (length u.operators)
      there = ap (ltb (M + j)) (joined_count t u) ∙ ltb_shift M j (length u.operators)

-- ---- lists of numbers
-- an answer b that is a, with f of its state
module _ (f : List ℕ → List ℕ) (a b : Answer (List ℕ)) (same : b ≡ (a >>= λ x. finding (f x))) where
  found_through : is_finding (verdict b) ≡ is_finding (verdict a)
  unfolding is_finding verdict ◌>>=◌
  found_through = ap (λ c. is_finding (verdict c)) same ∙ go a
    where
      go : (a : Answer (List ℕ)) → is_finding (verdict (a >>= λ x. finding (f x))) ≡ is_finding (verdict a)
      go (finding x) = refl
      go (refused r) = refl

  state_through : (s : List ℕ) → state_after (f s) b ≡ f (state_after s a)
  unfolding state_after ◌>>=◌
  state_through s = ap (state_after (f s)) same ∙ go a
    where
      go : (a : Answer (List ℕ)) → state_after (f s) (a >>= λ x. finding (f x)) ≡ f (state_after s a)
      go (finding x) = refl
      go (refused r) = refl

-- the parts of a list, by its first number
module _ (M i : ℕ) (is : List ℕ) where
  first_own : ltb i M ≡ true → first_part M (i ∷ is) ≡ i ∷ first_part M is
  unfolding first_part keep
  first_own e = rw (e, keep)

  second_other : ltb i M ≡ true → second_part M (i ∷ is) ≡ second_part M is
  unfolding second_part keep
  second_other e = rw (e, keep)

  first_other : ltb i M ≡ false → first_part M (i ∷ is) ≡ first_part M is
  unfolding first_part keep
  first_other e = rw (e, keep)

  second_own : ltb i M ≡ false → second_part M (i ∷ is) ≡ (i - M) ∷ second_part M is
  unfolding second_part keep
  second_own e = rw (e, keep)

and_swap : (a b c : Bool) → (a && (b && c)) ≡ (b && (a && c))
and_swap true b c = refl
and_swap false true c = refl
and_swap false false c = refl

module _ (t u : Task) where
  abbrev J : List ℕ → ℕ → Answer (List ℕ)
  J = step (joined t u)

  -- the two parts of a list
  abbrev own : List ℕ → List ℕ
  own is = first_part (length t.operators) is

  abbrev other : List ℕ → List ℕ
  other is = second_part (length t.operators) is

  -- a list runs in the joined task exactly if both parts run; the state is the two states one after the other, whatever was refused
  pub record Together (s v is : List ℕ) : Type 0 where
    pub run : runs J (s ++ v) is ≡ (runs (step t) s (own is) && runs (step u) v (other is))
    pub state : walk J (s ++ v) is ≡ walk (step t) s (own is) ++ walk (step u) v (other is)

  -- a turn by a number of the first, and by a number of the second
  turn_first :
      (right : RightTask t) (s v : List ℕ) (len : length s ≡ t.atoms) (i : ℕ) (is : List ℕ) → ltb i (length t.operators) ≡ true
      → Together (state_after s (step t s i)) v is → Together s v (i ∷ is)
  unfolding runs walk verdicts all
  turn_first right s v len i is e r =
      let M = length t.operators in
      let a = step t s i in
      let h : J (s ++ v) i ≡ (a >>= λ x. finding (x ++ v)) = step_first t u right s v len i (ltb-true i M e) in
      let n : state_after (s ++ v) (J (s ++ v) i) ≡ state_after s a ++ v = state_through (λ x. x ++ v) a (J (s ++ v) i) h s in
      record {
        run =
            ap₂ (λ b x. b && runs J x is) (found_through (λ x. x ++ v) a (J (s ++ v) i) h) n
            ∙ ap (λ b. is_finding (verdict a) && b) r.run
            ∙ and_assoc (is_finding (verdict a)) (runs (step t) (state_after s a) (own is)) (runs (step u) v (other is))
            ∙ ap₂ (λ b c. runs (step t) s b && runs (step u) v c) (sym (first_own M i is e)) (sym (second_other M i is e));
        state =
            ap (λ x. walk J x is) n
            ∙ r.state
            ∙ ap₂ (λ b c. walk (step t) s b ++ walk (step u) v c) (sym (first_own M i is e)) (sym (second_other M i is e));
      }

  turn_second :
      (right : RightTask t) (s v : List ℕ) (len : length s ≡ t.atoms) (i : ℕ) (is : List ℕ) → ltb i (length t.operators) ≡ false
      → Together s (state_after v (step u v (i - length t.operators))) is → Together s v (i ∷ is)
  unfolding runs walk verdicts all
  turn_second right s v len i is e r =
      let M = length t.operators in
      let low = ltb-false i M e in
      let back : M + (i - M) ≡ i = omega arith in
      let a = step u v (i - M) in
      let h : J (s ++ v) i ≡ (a >>= λ x. finding (s ++ x)) = ap (J (s ++ v)) (sym back) ∙ step_second t u right s v len (i - M) in
      let n : state_after (s ++ v) (J (s ++ v) i) ≡ s ++ state_after v a = state_through (λ x. s ++ x) a (J (s ++ v) i) h v in
      record {
        run =
            ap₂ (λ b x. b && runs J x is) (found_through (λ x. s ++ x) a (J (s ++ v) i) h) n
            ∙ ap (λ b. is_finding (verdict a) && b) r.run
            ∙ and_swap (is_finding (verdict a)) (runs (step t) s (own is)) (runs (step u) (state_after v a) (other is))
            ∙ ap₂ (λ b c. runs (step t) s b && runs (step u) v c) (sym (first_other M i is e)) (sym (second_own M i is e));
        state =
            ap (λ x. walk J x is) n
            ∙ r.state
            ∙ ap₂ (λ b c. walk (step t) s b ++ walk (step u) v c) (sym (first_other M i is e)) (sym (second_own M i is e));
      }

  pub together : RightTask t → (is s v : List ℕ) → length s ≡ t.atoms → Together s v is
  unfolding runs walk verdicts all first_part second_part keep
  together right [] s v len = record { run = refl; state = refl }
  together right (i ∷ is) s v len = go (ltb i (length t.operators)) refl (λ s v h. together right is s v h)
    where
      go : (b : Bool) → ltb i (length t.operators) ≡ b → ((s v : List ℕ) → length s ≡ t.atoms → Together s v is) → Together s v (i ∷ is)
      go true e rec = turn_first right s v len i is e (rec (state_after s (step t s i)) v (step_length t s i ∙ len))
      go false e rec = turn_second right s v len i is e (rec s (state_after v (step u v (i - length t.operators))) len)

-- the states of a list are as long as the first
pub walk_length : (t : Task) (is s : List ℕ) → length (walk (step t) s is) ≡ length s
unfolding walk
walk_length t [] s = refl
walk_length t (i ∷ is) s = walk_length t is (state_after s (step t s i)) ∙ step_length t s i
