-- Laws of the calls: the questions in order. Assumes nothing.
use mathlib.Core.Path.{◌≡◌, refl, sym, ap, ◌∙◌}
use mathlib.Core.List.{List, map}
use mathlib.Core.Bool.{Bool, true, false, ◌&&◌}
use Prim.Native.Nat.{ℕ}
use lib.Dec.{eqb}
use lib.ListN.{length}
use Rattle.definitions.specs.Lists.{all, below}
use Rattle.definitions.specs.Answer.{Refusal, Answer, finding, refused, verdict, outcome, becomes, ask, ask_at, ◌>>=◌}
use Rattle.definitions.specs.Literal.{is_state}
use Rattle.definitions.specs.Fdr.{FdrTask}
use Rattle.definitions.specs.FdrImage.{read_fdr}
use Rattle.definitions.specs.FdrStep.{is_fdr_state}
use Rattle.definitions.specs.Coding.{to_atoms, codable, value_from, from_atoms, from_atoms_call, to_atoms_call}
use Rattle.answer.specs.Reader.{asking}
use Rattle.answer.proofs.ReaderCalls.{stays, done, image_refused}
use Rattle.answer.proofs.Laws.{handed_on, goes_on}
use Rattle.fdr_image.specs.Reads.{fdr_of, ReadsFdr}

-- ---- coding either way: 17, then the source and the target of `size` words as one question 18, then the rest
unfoldable pub codes : List ℕ → (FdrTask → Bool) → (FdrTask → ℕ) → (FdrTask → Answer (List ℕ)) → ℕ → Answer (List ℕ)
codes w source exact rest size = asking (read_fdr w) (λ t. source t && eqb size (exact t)) rest

pub encode_codes :
    (w s : List ℕ) (size : ℕ) → from_atoms_call w s size ≡ codes w (λ t. is_state (length t.atoms) s) (λ t. length t.domains) (λ t. from_atoms t s) size
unfolding from_atoms_call codes
encode_codes w s size = refl

pub decode_codes :
    (w s : List ℕ) (size : ℕ) → to_atoms_call w s size ≡ codes w (λ t. is_fdr_state t s) (λ t. length t.atoms) (λ t. finding (to_atoms t s)) size
unfolding to_atoms_call codes
decode_codes w s size = refl

both_asked : {A : Type 0} (p q : Bool) (k : Answer A) → (ask 18 p >>= λ _. ask 18 q >>= λ _. k) ≡ (ask 18 (p && q) >>= λ _. k)
unfolding ask ask_at ◌>>=◌
both_asked true q k = refl
both_asked false q k = refl

module _
    (w target : List ℕ) (source : FdrTask → Bool) (exact : FdrTask → ℕ) (rest : FdrTask → Answer (List ℕ))
    (call : Answer (List ℕ)) (is : call ≡ codes w source exact rest (length target)) where
  -- both tests of question 18
  abbrev right : FdrTask → Bool
  right t = source t && eqb (length target) (exact t)

  pub codes_17 : (r : Refusal) → refused r ≡ verdict (read_fdr w) → outcome (refused r) target ≡ becomes target call
  unfolding codes
  codes_17 r e = stays target call r (image_refused (read_fdr w) right rest r e ∙ sym is)

  module _ (rd : ReadsFdr w) (yes : Bool) (er : yes ≡ source (fdr_of w)) where
    abbrev t : FdrTask
    t = fdr_of w

    there : (ask 18 (source t) >>= λ _. ask 18 (eqb (length target) (exact t)) >>= λ _. rest t) ≡ call
    unfolding codes
    there = both_asked _ _ _ ∙ goes_on (read_fdr w) (λ x. ask 18 (right x) >>= λ _. rest x) t (sym rd.found) ∙ sym is

    pub codes_source : (r : Refusal) → refused r ≡ ask 18 yes → outcome (refused r) target ≡ becomes target call
    codes_source r e = stays target call r (handed_on (ask 18 (source t)) _ r (rw er at e) ∙ there)

    module _ (u : finding tt ≡ ask 18 yes) (size : ℕ) (en : size ≡ exact t) where
      second : (ask 18 (eqb (length target) (exact t)) >>= λ _. rest t) ≡ call
      second = goes_on (ask 18 (source t)) _ tt (rw er at u) ∙ there

      pub codes_target : (r : Refusal) → refused r ≡ ask 18 (eqb (length target) size) → outcome (refused r) target ≡ becomes target call
      codes_target r e = stays target call r (handed_on (ask 18 (eqb (length target) (exact t))) _ r (rw en at e) ∙ second)

      pub codes_rest : finding tt ≡ ask 18 (eqb (length target) size) → becomes target (rest t) ≡ becomes target call
      codes_rest e = ap (becomes target) (goes_on (ask 18 (eqb (length target) (exact t))) _ tt (rw en at e) ∙ second)

-- ---- question 23
module _ (t : FdrTask) (s target : List ℕ) (yes : Bool) (er : yes ≡ all (codable t s) (below (length t.domains))) where
  pub from_23 : (r : Refusal) → refused r ≡ ask 23 yes → outcome (refused r) target ≡ becomes target (from_atoms t s)
  unfolding from_atoms
  from_23 r e = stays target (from_atoms t s) r (handed_on (ask 23 (all (codable t s) (below (length t.domains)))) _ r (rw er at e))

  pub from_done :
      finding tt ≡ ask 23 yes → (target' : List ℕ) → target' ≡ map (value_from t s) (below (length t.domains))
      → outcome (finding tt) target' ≡ becomes target (from_atoms t s)
  unfolding from_atoms
  from_done u target' e =
      done target (from_atoms t s) target' (ap finding e ∙ goes_on (ask 23 (all (codable t s) (below (length t.domains)))) _ tt (rw er at u))
