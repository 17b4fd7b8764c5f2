-- Conflict, the omitted none and the state after a step, by what is noted of the fired rows. Assumes nothing.
use mathlib.Core.Path.{◌≡◌, refl, sym, ap, ◌∙◌, subst}
use mathlib.Core.List.Memᴰ
use mathlib.Core.List.{List, [], ◌∷◌, map, Memᴰ}
use mathlib.Core.Bool.{Bool, true, false, not, cond, ◌&&◌}
use mathlib.Core.Option.{Option, none, some}
use Prim.Native.Nat.{ℕ, zero, suc, ◌+◌, ◌-◌, ◌≤◌, ◌<◌}
use native.Mathlib.Numerals.{add-two}
use native.Mathlib.Omega.{arith}
use lib.Dec.{eqb}
use lib.ListN.{length, get_or, length-replicate}
use lib.Seq.{ext_get_or}
use borrow.Author.Tests.{ne_eqb}
use Rattle.definitions.specs.Literal.{most_atoms}
use Rattle.definitions.specs.Lists.{any, all, below}
use Rattle.definitions.specs.Groups.{Domain}
use Rattle.definitions.specs.Fdr.{FdrRow, FdrTask, no_domain, domain_at}
use Rattle.definitions.specs.FdrStep.{fdr_conflict, set_value, cleared, sent_to_none, fdr_after, none_there}
use Rattle.definitions.proofs.ListLaws.{all_agree, table_at, table_length}
use Rattle.definitions.proofs.Walks.{zero_at}
use Rattle.definitions.proofs.FdrRows.{set_some, set_none, one_value}
use Rattle.fdr.specs.Change.{no_changes, note_fired, become}
use Rattle.fdr.specs.Post.{Changes}
use Rattle.fdr.proofs.StepLaws.{Rows, RowsNoted, Comes, one_at_most, rows_come}

-- ---- question 22 and the state, variable by variable
unfoldable pub nones_there : List Domain → List ℕ → Bool
nones_there D m = all (λ v. not (eqb (get_or m v 0) 1 && eqb (get_or D v no_domain).none 0)) (below (length D))

-- the state from variable v on
abbrev pub changed : List Domain → List ℕ → ℕ → List ℕ → List ℕ
changed D m v [] = []
changed D m v (x ∷ xs) = become (get_or D v no_domain) (get_or m v 0) x ∷ changed D m (v + 1) xs

module _ (D : List Domain) (m : List ℕ) where
  pub changed_length : (v : ℕ) (s : List ℕ) → length (changed D m v s) ≡ length s
  changed_length v [] = refl
  changed_length v (x ∷ s) = ap suc (changed_length (v + 1) s)

  pub changed_at :
      (i : ℕ) (s : List ℕ) (v : ℕ) → v < length s
      → get_or (changed D m i s) v 0 ≡ become (get_or D (i + v) no_domain) (get_or m (i + v) 0) (get_or s v 0)
  changed_at i [] v h = absurd (omega arith)
  changed_at i (x ∷ s) zero h = let z : i + 0 ≡ i = omega arith in rw z
  changed_at i (x ∷ s) (suc v) h = let z : i + suc v ≡ i + 1 + v = omega arith in rw z (changed_at (i + 1) s v (omega arith))

become_more : (d : Domain) (c x : ℕ) → (c ≡ 0 → ⊥) → (c ≡ 1 → ⊥) → c - 2 ≡ become d c x
unfolding become
become_more d zero x p q = absurd (p refl)
become_more d (suc zero) x p q = absurd (q refl)
become_more d (suc (suc y)) x p q = omega arith

module _ (d : Domain) (c x : ℕ) where
  pub become_stays : c ≡ 0 → x ≡ become d c x
  unfolding become
  become_stays e = rw e

  pub become_none : (n : ℕ) → n ≡ d.values → c ≡ 1 → n - 1 ≡ become d c x
  unfolding become
  become_none n en e = rw (e, en)

  pub become_value : (c ≡ 0 → ⊥) → (c ≡ 1 → ⊥) → c - 2 ≡ become d c x
  become_value = become_more d c x

-- nothing is noted at first
pub blank : (v : ℕ) → get_or no_changes v 0 ≡ 0
unfolding no_changes
blank v = zero_at v most_atoms

pub blank_length : length no_changes ≡ most_atoms
unfolding no_changes
blank_length = length-replicate {A = ℕ} most_atoms 0

module _ (s : List ℕ) (rs : List FdrRow) (low : Rows most_atoms rs) where
  nothing : RowsNoted s [] no_changes
  unfolding cleared any
  nothing = record { size = blank_length; given = λ q mem h. absurd (Memᴰ.not-nil mem); free = λ v u. blank v }

  comes : Comes s rs (note_fired s rs no_changes)
  comes = rows_come s rs [] no_changes low nothing

  pub conflict : note_fired s rs no_changes ≡ none → fdr_conflict rs ≡ true
  conflict e = subst (Comes s rs) e comes

  module _ (m : List ℕ) (em : note_fired s rs no_changes ≡ some m) where
    all_noted : RowsNoted s rs m
    all_noted = subst (Comes s rs) em comes

    -- two fired sets of one variable have one value: both are noted
    pub not_in_conflict : fdr_conflict rs ≡ false
    not_in_conflict =
        one_value rs
        (λ r q mr mq hr hq e.
        let x = all_noted.given r mr hr in
        let y = all_noted.given q mq hq in
        let z : get_or m r.variable 0 ≡ get_or m q.variable 0 = ap (λ (k : ℕ). get_or m k 0) e in
        omega arith)

    -- ---- one variable
    set_noted : (v x : ℕ) → set_value rs v ≡ some x → get_or m v 0 ≡ x + 2
    set_noted v x e =
        let q = set_some rs v x e in
        ap (λ (k : ℕ). get_or m k 0) (sym q.3) ∙ all_noted.given q.0 q.1 q.2 ∙ ap (λ (k : ℕ). k + 2) q.4

    clear_noted : (v : ℕ) → set_value rs v ≡ none → get_or m v 0 ≡ cond (cleared rs v (get_or s v 0)) 1 0
    clear_noted v e = all_noted.free v (set_none rs v e)

    module _ (t : FdrTask) (v : ℕ) where
      sent_is : eqb (get_or m v 0) 1 ≡ sent_to_none t s rs v
      unfolding sent_to_none
      sent_is = go (set_value rs v) refl
        where
          bit : (b : Bool) → eqb (cond b 1 0) 1 ≡ b
          bit true = refl
          bit false = refl

          go : (o : Option ℕ) → set_value rs v ≡ o → eqb (get_or m v 0) 1 ≡ sent_to_none t s rs v
          go none e = rw (e, sent_to_none, clear_noted v e) (bit (cleared rs v (get_or s v 0)))
          go (some x) e = rw (e, sent_to_none) (ne_eqb (get_or m v 0) 1 (λ z. let y = set_noted v x e in omega arith))

      after_is : become (domain_at t v) (get_or m v 0) (get_or s v 0) ≡ fdr_after t s rs v
      unfolding fdr_after become
      after_is = go (set_value rs v) refl
        where
          bit : (b : Bool) (x : ℕ) → become (domain_at t v) (cond b 1 0) x ≡ cond b ((domain_at t v).values - 1) x
          bit true x = refl
          bit false x = refl

          go : (o : Option ℕ) → set_value rs v ≡ o → become (domain_at t v) (get_or m v 0) (get_or s v 0) ≡ fdr_after t s rs v
          go none e = rw (e, fdr_after, clear_noted v e) (bit (cleared rs v (get_or s v 0)) (get_or s v 0))
          go (some x) e = rw (e, fdr_after, set_noted v x e, add-two)

    module _ (t : FdrTask) where
      -- question 22
      pub nones_is : nones_there t.domains m ≡ none_there t s rs
      unfolding nones_there none_there domain_at
      nones_is =
          all_agree (λ v. not (eqb (get_or m v 0) 1 && eqb (get_or t.domains v no_domain).none 0))
          (λ v. not (sent_to_none t s rs v && eqb (get_or t.domains v no_domain).none 0)) (below (length t.domains))
          (λ v i. rw (sent_is t v))

      -- the state after the step
      pub changed_is : length s ≡ length t.domains → changed t.domains m 0 s ≡ map (fdr_after t s rs) (below (length t.domains))
      unfolding domain_at
      changed_is size =
          ext_get_or 0 (changed t.domains m 0 s) (map (fdr_after t s rs) (below (length t.domains)))
          (changed_length t.domains m 0 s ∙ size ∙ sym (table_length (fdr_after t s rs) (length t.domains)))
          (λ v h.
          let l = changed_length t.domains m 0 s in
          let inside : v < length s = omega arith in
          let z : 0 + v ≡ v = omega arith in
          changed_at t.domains m 0 s v inside ∙ rw z (after_is t v) ∙ sym (table_at (fdr_after t s rs) (length t.domains) v (omega arith)))

      -- each variable stays in its domain
      pub changes_inside :
          (few : length t.domains ≤ most_atoms) (sizes : (v : ℕ) → v < length t.domains → 1 ≤ (get_or t.domains v no_domain).values)
          (right : (r : FdrRow) → Memᴰ r rs → r.value < (get_or t.domains r.variable no_domain).values) → Changes t.domains m
      changes_inside few sizes right =
          record { few = few; long = (let z = all_noted.size in omega arith); sizes = sizes; inside = λ v h. go v (set_value rs v) refl }
        where
          go : (v : ℕ) (o : Option ℕ) → set_value rs v ≡ o → get_or m v 0 < (get_or t.domains v no_domain).values + 2
          go v none e = let z = clear_noted v e in let y = one_at_most (cleared rs v (get_or s v 0)) in omega arith
          go v (some x) e =
              let q = set_some rs v x e in
              let z = set_noted v x e in
              let y = right q.0 q.1 in
              let w : (get_or t.domains q.0.variable no_domain).values ≡ (get_or t.domains v no_domain).values =
              ap (λ (k : ℕ). (get_or t.domains k no_domain).values) q.3 in
              let u = q.4 in
              omega arith
