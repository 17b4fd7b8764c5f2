-- Laws of answers and outcomes, for the calls. Assumes nothing.
use mathlib.Core.Path.{◌≡◌, refl, sym, ap, ◌∙◌, subst}
use mathlib.Core.List.{List}
use Prim.Native.Nat.{ℕ}
use Rattle.definitions.specs.Answer.{Refusal, Answer, finding, refused, verdict, Outcome, outcome, ask_at, ◌>>=◌}
use Rattle.std.specs.Result.{IsErrAnd, MatchResult}
use Rattle.std.specs.Option.{ok_or}
use Rattle.std.proofs.Common.{Result, Ok, Err, Option, None}
use Rattle.std.proofs.lemmas.Result.{err_from_is_err_and}
use Rattle.answer.specs.declared.Refusal as code
use Rattle.answer.specs.declared.Question.{Question}
use Rattle.answer.specs.Question.{number_of}
use Rattle.answer.specs.Answer.{refusal_at, placed, answer_of}
use mathlib.Core.Bool.{Bool, true, false}
use Rattle.definitions.specs.Groups.{Written, written}
use Rattle.definitions.proofs.AnswerLaws.{not_finding}

-- ---- a verdict tells the answer
pub verdict_refused : {A : Type 0} (m : Answer A) (r : Refusal) → verdict m ≡ refused r → m ≡ refused r
unfolding verdict
verdict_refused (finding a) r e = absurd (not_finding (sym e))
verdict_refused (refused q) r e = cc

pub verdict_finding : {A : Type 0} (m : Answer A) (u : Unit {0}) → verdict m ≡ finding u → (a : A) × (m ≡ finding a)
unfolding verdict
verdict_finding (finding a) u e = (a, refl)
verdict_finding (refused q) u e = absurd (not_finding e)

pub verdict_bind : {A B : Type 0} (m : Answer A) (f : A → B) → verdict (m >>= λ a. finding (f a)) ≡ verdict m
unfolding verdict ◌>>=◌
verdict_bind (finding a) f = refl
verdict_bind (refused r) f = refl

-- after a call that answers m: a refusal is handed on, and a finding goes on
module _ {A B : Type 0} (m : Answer A) (k : A → Answer B) where
  pub handed_on : (r : Refusal) → refused r ≡ m → refused r ≡ (m >>= k)
  unfolding ◌>>=◌
  handed_on r e = rw (← e)

  pub goes_on : (a : A) → finding a ≡ m → k a ≡ (m >>= k)
  unfolding ◌>>=◌
  goes_on a e = rw (← e)

-- the exit of a `?`: the refusal of the call is handed on
pub left_by : {A : Type 0} (r : Result A code.Refusal) (f : code.Refusal) → IsErrAnd r (λ g. g ≡ f) → answer_of r ≡ refused (placed f)
left_by r f h = let p = err_from_is_err_and r h in rw (p.1, p.2)

-- the exit of a `?` after `ok_or` of a question
pub left_none :
    {A B : Type 0} (r : Result A code.Refusal) (o : Option B) (q x : Question) → IsErrAnd r (λ f. placed f ≡ refusal_at (number_of x) 0 0)
    → o ≡ None → ◌≡◌ {A = Result B Question} (Err x) (ok_or o q) → answer_of r ≡ refused (refusal_at (number_of q) 0 0)
left_none {B = B} r o q x h none e =
    let p = err_from_is_err_and r h in
    let z : ◌≡◌ {A = Result B Question} (Err x) (Err q) = rw none at e in
    let same : x ≡ q = cc in
    rw p.1 (ap refused (p.2 ∙ ap (λ (k : Question). refusal_at (number_of k) 0 0) same))

-- what `map_err` made of a call's answer
pub mapped_ok :
    {A : Type 0} (r m : Result A code.Refusal) (Q : code.Refusal → code.Refusal → Type 0)
    → MatchResult r (λ x. m ≡ Ok x) (λ e. IsErrAnd m (Q e)) → (u : A) → m ≡ Ok u → r ≡ Ok u
mapped_ok (Ok x) m Q h u e = sym h ∙ e
mapped_ok (Err f) m Q h u e = let p = (err_from_is_err_and m h).1 in cc

pub mapped_err :
    {A : Type 0} (r m : Result A code.Refusal) (Q : code.Refusal → code.Refusal → Type 0)
    → MatchResult r (λ x. m ≡ Ok x) (λ e. IsErrAnd m (Q e)) → (g : code.Refusal) → m ≡ Err g
    → (f : code.Refusal) × (r ≡ Err f) × Q f g
mapped_err (Ok x) m Q h g e = absurd (cc)
mapped_err (Err f) m Q h g e =
    let p = err_from_is_err_and m h in
    let same : p.0 ≡ g = cc in
    (f, refl, subst (Q f) same p.2)

-- what holds of the refusal that is handed on holds of the answer
pub left_as :
    {A : Type 0} (P : Result A code.Refusal → Type 0) (r : Result A code.Refusal) (f : code.Refusal)
    → IsErrAnd r (λ g. g ≡ f) → P (Err f) → P r
left_as P r f h e = let p = err_from_is_err_and r h in rw (p.1, p.2) e

-- what a question said: asked with the answer b, it refuses where b is no
module _ (q i : ℕ) (b : Bool) where
  pub asked_no : (r : Refusal) → refused r ≡ ask_at q i b → b ≡ false
  unfolding ask_at
  asked_no r e = elim b as (λ v. refused r ≡ ask_at q i v → v ≡ false) [ true ↦ λ h. absurd (not_finding h) | false ↦ λ h. refl ] e

  pub asked_yes : (u : Unit {0}) → finding u ≡ ask_at q i b → b ≡ true
  unfolding ask_at
  asked_yes u e = elim b as (λ v. finding u ≡ ask_at q i v → v ≡ true) [ true ↦ λ h. refl | false ↦ λ h. absurd (not_finding (sym h)) ] e

  pub asked_verdict : verdict (ask_at q i b) ≡ ask_at q i b
  unfolding ask_at verdict
  asked_verdict = elim b as (λ v. verdict (ask_at q i v) ≡ ask_at q i v) [ true ↦ refl | false ↦ refl ]

  pub asked_refusal : b ≡ false → ask_at q i b ≡ refused (refusal_at q i 0)
  unfolding ask_at
  asked_refusal h = rw h

-- the first refusal decides
pub refused_first : {A B : Type 0} (m : Answer A) (k : A → Answer B) (r : Refusal) → refused r ≡ verdict m → refused r ≡ (m >>= k)
unfolding verdict ◌>>=◌
refused_first (finding a) k r e = absurd (not_finding e)
refused_first (refused q) k r e = ap refused (cc)

-- an outcome by an equal answer
pub outcome_of : {A : Type 0} (a b : Answer A) (s : List ℕ) (r : Outcome A) → a ≡ b → outcome b s ≡ r → outcome a s ≡ r
outcome_of a b s r e h = ap (λ (x : Answer _). outcome x s) e ∙ h

-- ---- a call that asks questions first, and then writes
module _ {A : Type 0} (m : Answer A) (k : A → Answer Written) (old : List ℕ) where
  -- a refusal of the first questions is handed on, and changes nothing
  pub written_refused : (r : Refusal) → refused r ≡ verdict m → outcome (refused r) old ≡ written old (m >>= k)
  unfolding written ◌>>=◌
  written_refused r e = rw (verdict_refused m r (sym e))

  pub written_left : (r : Refusal) → refused r ≡ m → outcome (refused r) old ≡ written old (m >>= k)
  unfolding written ◌>>=◌
  written_left r e = rw (← e)

  pub written_found : (a : A) → m ≡ finding a → written old (k a) ≡ written old (m >>= k)
  unfolding ◌>>=◌
  written_found a e = rw e

-- the exit of a `?` of a call that writes: nothing is written
pub left_unwritten :
    (a : Answer Written) (old : List ℕ) (r : Result ℕ code.Refusal) (f : code.Refusal)
    → IsErrAnd r (λ g. g ≡ f) → refused (placed f) ≡ a → outcome (answer_of r) old ≡ written old a
unfolding written
left_unwritten a old r f h e = rw (left_by r f h, ← e)
