-- Laws of answers: findings, refusals, chained questions, and outcomes. Assumes nothing.
use mathlib.Core.Bool.{Bool, true, false, false≢true}
use mathlib.Core.Path.{◌≡◌, refl, sym, ap, subst}
use mathlib.Core.List.{List}
use Prim.Native.Nat.{ℕ, ◌≤◌, ◌<◌}
use native.Mathlib.Omega.{arith}
use Rattle.definitions.specs.Answer.{Refusal, Answer, finding, refused, is_finding, ask_at, ask, ◌>>=◌, verdict, Outcome, outcome, state_after, becomes}

-- no refusal is a finding
pub not_finding : {A : Type 0} {r : Refusal} {a : A} → ◌≡◌ {A = Answer A} (refused r) (finding a) → ⊥
unfolding is_finding
not_finding e = false≢true (ap is_finding e)

pub same_finding : {A : Type 0} (a b : A) → ◌≡◌ {A = Answer A} (finding a) (finding b) → a ≡ b
same_finding a b e = cc

pub same_refusal_lem : {A : Type 0} (q r : Refusal) → ◌≡◌ {A = Answer A} (refused q) (refused r) → q ≡ r
same_refusal_lem q r e = cc

-- a finding after a question
pub bind_of : {A B : Type 0} (m : Answer A) (k : A → Answer B) (b : B) → (m >>= k) ≡ finding b → (a : A) × (m ≡ finding a) × (k a ≡ finding b)
unfolding ◌>>=◌
bind_of (finding a) k b e = (a, refl, e)
bind_of (refused r) k b e = absurd (not_finding e)

pub ask_of : (q i : ℕ) (b : Bool) (u : Unit {0}) → ask_at q i b ≡ finding u → b ≡ true
unfolding ask_at
ask_of q i true u e = refl
ask_of q i false u e = absurd (not_finding e)

-- what a finding after an answer and a question says: the answer is a finding, the question is answered yes, and the rest finds the same
pub record FoundAfter {T A : Type 0} (m : Answer T) (test : T → Bool) (rest : T → Answer A) (a : A) : Type 0 where
  pub value : T
  pub given : m ≡ finding value
  pub passed : test value ≡ true
  pub found : rest value ≡ finding a

pub found_after :
    {T A : Type 0} (q : ℕ) (m : Answer T) (test : T → Bool) (rest : T → Answer A) (a : A)
    → (m >>= λ t. ask q (test t) >>= λ _. rest t) ≡ finding a
    → FoundAfter m test rest a
unfolding ask
found_after q m test rest a e =
    let p = bind_of m (λ t. ask_at q 0 (test t) >>= λ _. rest t) a e in
    let t = p.0 in
    let y = bind_of (ask_at q 0 (test t)) (λ _. rest t) a p.2 in
    record { value = t; given = p.1; passed = ask_of q 0 (test t) y.0 y.1; found = y.2 }

-- a question that is answered yes, and a finding that is handed on
pub pass : {B : Type 0} (q : ℕ) (b : Bool) (k : Unit {0} → Answer B) (r : Answer B) → b ≡ true → k tt ≡ r → (ask_at q 0 b >>= k) ≡ r
unfolding ask_at ◌>>=◌
pass q b k r h e = rw h e

pub through : {A B : Type 0} (m : Answer A) (a : A) (k : A → Answer B) (r : Answer B) → m ≡ finding a → k a ≡ r → (m >>= k) ≡ r
unfolding ◌>>=◌
through m a k r h e = rw h e

-- a refusal after a question: by what is asked next, where the question itself does not refuse so, and else by the question
module _ {A B : Type 0} (k : A → Answer B) (r : Refusal) where
  pub refused_after_lem : (m : Answer A) → (m >>= k) ≡ refused r → (m ≡ refused r → ⊥) → (a : A) × (m ≡ finding a) × (k a ≡ refused r)
  unfolding ◌>>=◌
  refused_after_lem (finding a) e never = (a, refl, e)
  refused_after_lem (refused q) e never = absurd (never (ap refused (same_refusal_lem q r e)))

  pub refused_by : (m : Answer A) → (m >>= k) ≡ refused r → ((a : A) → k a ≡ refused r → ⊥) → m ≡ refused r
  unfolding ◌>>=◌
  refused_by (finding a) e never = absurd (never a e)
  refused_by (refused q) e never = ap refused (same_refusal_lem q r e)

pub ask_refused : (q i : ℕ) (b : Bool) (r : Refusal) → ask_at q i b ≡ refused r → r.number ≡ q
unfolding ask_at
ask_refused q i true r e = absurd (not_finding (sym e))
ask_refused q i false r e = sym (ap (λ (r : Refusal). r.number) (same_refusal_lem _ r e))

-- ---- answers that refuse with a number up to q only
abbrev pub UpTo : {A : Type 0} → ℕ → Answer A → Type 0
UpTo q m = (r : Refusal) → m ≡ refused r → r.number ≤ q

pub up_finding : {A : Type 0} (q : ℕ) (a : A) → UpTo q (finding a)
up_finding q a r e = absurd (not_finding (sym e))

pub up_ask : (q p i : ℕ) (b : Bool) → p ≤ q → UpTo q (ask_at p i b)
up_ask q p i b h r e = subst (λ (n : ℕ). n ≤ q) (sym (ask_refused p i b r e)) h

pub up_bind : {A B : Type 0} (q : ℕ) (m : Answer A) (k : A → Answer B) → UpTo q m → ((a : A) → UpTo q (k a)) → UpTo q (m >>= k)
unfolding ◌>>=◌
up_bind q (finding a) k first next r e = next a r e
up_bind q (refused p) k first next r e = first r (ap refused (same_refusal_lem p r e))

-- ---- answers that refuse with a number above q only
abbrev pub OnlyAbove : {A : Type 0} → ℕ → Answer A → Type 0
OnlyAbove q m = (r : Refusal) → m ≡ refused r → q < r.number

pub above_finding : {A : Type 0} (q : ℕ) (a : A) → OnlyAbove q (finding a)
above_finding q a r e = absurd (not_finding (sym e))

-- such an answer after a question that refuses with a number up to q is that of what is asked next
pub bind_above :
    {A B : Type 0} (q : ℕ) (m : Answer A) (k : A → Answer B) (b : Answer B) → UpTo q m → OnlyAbove q b → (m >>= k) ≡ b
    → (a : A) × (m ≡ finding a) × (k a ≡ b)
unfolding ◌>>=◌
bind_above q (finding a) k b low high e = (a, refl, e)
bind_above q (refused r) k b low high e =
    let h = low r refl in
    let l = high r (sym e) in
    absurd (omega arith)

-- ---- the parts of an outcome: its answer, and what the lent buffer becomes
module _ {A : Type 0} (a : Answer A) (s : List ℕ) (x : Outcome A) (e : outcome a s ≡ x) where
  pub answer_of : a ≡ x.answer
  unfolding outcome
  answer_of = ap (λ (x : Outcome A). x.answer) e

  pub lent_of : s ≡ x.lent
  unfolding outcome
  lent_of = ap (λ (x : Outcome A). x.lent) e

-- of a call whose finding is what the lent state becomes
module _ (a : Answer (Unit {0})) (s s' : List ℕ) (b : Answer (List ℕ)) (e : outcome a s' ≡ becomes s b) where
  pub answered : a ≡ verdict b
  unfolding becomes outcome
  answered = answer_of a s' (becomes s b) e

  pub left : s' ≡ state_after s b
  unfolding becomes outcome
  left = lent_of a s' (becomes s b) e

-- what a step did, by its outcome
pub step_found : (a : Answer (List ℕ)) (s s' : List ℕ) → outcome (finding tt) s' ≡ becomes s a → a ≡ finding s'
unfolding verdict state_after
step_found (finding x) s s' e = ap finding (sym (left (finding tt) s s' (finding x) e))
step_found (refused q) s s' e = absurd (not_finding (sym (answered (finding tt) s s' (refused q) e)))

pub step_refused : (a : Answer (List ℕ)) (s s' : List ℕ) (r : Refusal) → outcome (refused r) s' ≡ becomes s a → (a ≡ refused r) × (s' ≡ s)
unfolding verdict state_after
step_refused (finding x) s s' r e = absurd (not_finding (answered (refused r) s s' (finding x) e))
step_refused (refused q) s s' r e =
    (ap refused (sym (same_refusal_lem r q (answered (refused r) s s' (refused q) e))), left (refused r) s s' (refused q) e)
