-- The walks over an operator's rows: what is noted, asked, written and cleared for the variables that they name. Assumes nothing.
use mathlib.Core.Path.{◌≡◌, refl, sym, ap, ◌∙◌}
use mathlib.Core.List.{List, [], ◌∷◌}
use mathlib.Core.Bool.{Bool, true, false, not, cond, ◌&&◌, ◌||◌}
use Prim.Native.Nat.{ℕ, zero, suc, ◌+◌, ◌<◌}
use native.Mathlib.Omega.{arith}
use lib.Dec.{eqb, ltb}
use lib.ListN.{length, get_or, set, length-set}
use lib.Seq.{get_or-set_same, get_or-set_other, ext_get_or}
use borrow.Author.Tests.{eqb-true, eqb-false, ltb-true}
use Rattle.definitions.specs.Lists.{any, all, below}
use Rattle.definitions.specs.Groups.{Domain}
use Rattle.definitions.specs.Fdr.{FdrRow, no_domain}
use Rattle.definitions.proofs.ListLaws.{or_false_left, or_false_right, any_of, all_at, all_of}
use Rattle.definitions.proofs.Walks.{below_in}
use Rattle.definitions.proofs.EncodeLaws.{same_bool_lem}
use Rattle.literal.proofs.Mark.{put_each_at, put_length}
use Rattle.fdr.specs.Change.{no_changes, named, become, nones_in, written, unnoted}
use Rattle.fdr.specs.Post.{NotedAt, NotedFor}
use Rattle.fdr.proofs.Applied.{nones_there, changed, changed_length, changed_at, blank}

-- ---- what is noted for one variable
pub at_same : (v : ℕ) (m : List ℕ) → NotedAt v m m
at_same v m = record { apart = λ w f. refl }

pub at_set : (v x : ℕ) (m : List ℕ) → NotedAt v m (set m v x)
at_set v x m = record { apart = λ w f. get_or-set_other m v w x 0 f }

-- ---- one row of each walk
named_cons : (r : FdrRow) (rest : List FdrRow) (w : ℕ) → named (r ∷ rest) w ≡ (eqb w r.variable || named rest w)
unfolding named any
named_cons r rest w = refl

pub for_same : (rows : List FdrRow) (m : List ℕ) → NotedFor rows m m
for_same rows m = record { apart = λ w h. refl }

module _ (rows rest : List FdrRow) (r : FdrRow) (er : rows ≡ r ∷ rest) where
  pub for_next : (m m' x : List ℕ) → NotedAt r.variable m m' → NotedFor rest m' x → NotedFor rows m x
  for_next m m' x one more =
      record {
        apart =
            λ w h.
            let h' : (eqb w r.variable || named rest w) ≡ false = sym (ap (λ (l : List FdrRow). named l w) er ∙ named_cons r rest w) ∙ h in
            more.apart w (or_false_right (eqb w r.variable) (named rest w) h')
            ∙ one.apart w (eqb-false w r.variable (or_false_left (eqb w r.variable) (named rest w) h'));
      }

  pub for_stop : (m m' : List ℕ) → NotedAt r.variable m m' → NotedFor rows m m'
  for_stop m m' one = for_next m m' m' one (for_same rest m')

  module _ (D : List Domain) (m : List ℕ) where
    module _ (b : Bool) (eb : b ≡ (eqb (get_or m r.variable 0) 1 && eqb (get_or D r.variable no_domain).none 0)) where
      pub nones_off : b ≡ true → nones_in D m rows ≡ false
      unfolding nones_in all
      nones_off e = rw (er, ← eb, e)

      pub nones_on : b ≡ false → nones_in D m rows ≡ nones_in D m rest
      unfolding nones_in all
      nones_on e = rw (er, ← eb, e)

    pub written_next :
        (s : List ℕ) (x : ℕ) → x ≡ become (get_or D r.variable no_domain) (get_or m r.variable 0) (get_or s r.variable 0)
        → written D m rows s ≡ written D m rest (set s r.variable x)
    written_next s x ex = ap (λ (l : List FdrRow). written D m l s) er ∙ ap (λ (y : ℕ). written D m rest (set s r.variable y)) (sym ex)

  pub unnoted_next : (m : List ℕ) → unnoted rows m ≡ unnoted rest (set m r.variable 0)
  unnoted_next m = ap (λ (l : List FdrRow). unnoted l m) er

-- ---- their ends
module _ (rows : List FdrRow) (er : rows ≡ []) where
  pub nones_end : (D : List Domain) (m : List ℕ) → nones_in D m rows ≡ true
  unfolding nones_in all
  nones_end D m = rw er

  pub written_end : (D : List Domain) (m s : List ℕ) → written D m rows s ≡ s
  written_end D m s = rw er

  pub unnoted_end : (m : List ℕ) → unnoted rows m ≡ m
  unnoted_end m = rw er

-- ---- what was noted is gone
unnoted_length : (rows : List FdrRow) (m : List ℕ) → length (unnoted rows m) ≡ length m
unnoted_length = put_length 0 (λ r. r.variable) (λ r. true)

unnoted_at : (rows : List FdrRow) (m : List ℕ) (v : ℕ) → v < length m → get_or (unnoted rows m) v 0 ≡ cond (named rows v) 0 (get_or m v 0)
unfolding named
unnoted_at = put_each_at 0 (λ r. r.variable)

pub notes_gone :
    (rows : List FdrRow) (m₀ m m' : List ℕ) → m₀ ≡ no_changes → length m ≡ length m₀ → NotedFor rows m₀ m → m' ≡ unnoted rows m
    → m' ≡ m₀
notes_gone rows m₀ m m' e₀ size nf e =
    e ∙ ext_get_or 0 (unnoted rows m) m₀ (unnoted_length rows m ∙ size) (λ v h. at v (let l = unnoted_length rows m in omega arith) (named rows v) refl)
  where
    at : (v : ℕ) → v < length m → (b : Bool) → named rows v ≡ b → get_or (unnoted rows m) v 0 ≡ get_or m₀ v 0
    at v h true p = unnoted_at rows m v h ∙ rw p (sym (ap (λ (l : List ℕ). get_or l v 0) e₀ ∙ blank v))
    at v h false p = unnoted_at rows m v h ∙ rw p (nf.apart v p)

-- ---- the state and question 22, by the rows and by the variables
become_twice : (d : Domain) (c x : ℕ) → become d c (become d c x) ≡ become d c x
unfolding become
become_twice d zero x = refl
become_twice d (suc zero) x = refl
become_twice d (suc (suc y)) x = refl

become_same : (d : Domain) (c x : ℕ) → c ≡ 0 → become d c x ≡ x
unfolding become
become_same d c x e = rw e

module _ (D : List Domain) (m : List ℕ) where
  abbrev made : ℕ → ℕ → ℕ
  made v x = become (get_or D v no_domain) (get_or m v 0) x

  written_length : (rows : List FdrRow) (s : List ℕ) → length (written D m rows s) ≡ length s
  written_length [] s = refl
  written_length (r ∷ rows) s =
      let x = made r.variable (get_or s r.variable 0) in written_length rows (set s r.variable x) ∙ length-set s r.variable x

  written_at :
      (rows : List FdrRow) (s : List ℕ) (v : ℕ) → v < length s
      → get_or (written D m rows s) v 0 ≡ cond (named rows v) (made v (get_or s v 0)) (get_or s v 0)
  unfolding named any
  written_at [] s v h = refl
  written_at (r ∷ rows) s v h = go (eqb v r.variable) refl (written_at rows s₁ v (rw (length-set s r.variable x) h))
    where
      x : ℕ
      x = made r.variable (get_or s r.variable 0)

      s₁ : List ℕ
      s₁ = set s r.variable x

      same : (t : Bool) (y : ℕ) → y ≡ made v (get_or s v 0) → cond t (made v y) y ≡ made v (get_or s v 0)
      same true y e = rw e (become_twice (get_or D v no_domain) (get_or m v 0) (get_or s v 0))
      same false y e = e

      go :
          (b : Bool) → eqb v r.variable ≡ b → get_or (written D m rows s₁) v 0 ≡ cond (named rows v) (made v (get_or s₁ v 0)) (get_or s₁ v 0)
          → get_or (written D m rows s₁) v 0 ≡ cond (eqb v r.variable || named rows v) (made v (get_or s v 0)) (get_or s v 0)
      go true e rest =
          let p : v ≡ r.variable = eqb-true v r.variable e in
          let q : get_or s₁ v 0 ≡ made v (get_or s v 0) =
          ap (λ (k : ℕ). get_or (set s k (made k (get_or s k 0))) v 0) (sym p) ∙ get_or-set_same s v (made v (get_or s v 0)) 0 h in
          rest ∙ rw e (same (named rows v) (get_or s₁ v 0) q)
      go false e rest =
          let q : get_or s₁ v 0 ≡ get_or s v 0 = get_or-set_other s r.variable v x 0 (eqb-false v r.variable e) in
          rest ∙ ap (λ (y : ℕ). cond (named rows v) (made v y) y) q ∙ rw e

  module _ (rows : List FdrRow) (nf : NotedFor rows no_changes m) where
    unnamed : (v : ℕ) → named rows v ≡ false → get_or m v 0 ≡ 0
    unnamed v h = nf.apart v h ∙ blank v

    pub written_is : (s : List ℕ) → written D m rows s ≡ changed D m 0 s
    written_is s =
        ext_get_or 0 (written D m rows s) (changed D m 0 s) (written_length rows s ∙ sym (changed_length D m 0 s))
        (λ v h.
        let low : v < length s = let l = written_length rows s in omega arith in
        let z : 0 + v ≡ v = omega arith in
        written_at rows s v low ∙ at v (named rows v) refl ∙ sym (changed_at D m 0 s v low ∙ ap (λ (k : ℕ). made k (get_or s v 0)) z))
      where
        at : (v : ℕ) (b : Bool) → named rows v ≡ b → cond (named rows v) (made v (get_or s v 0)) (get_or s v 0) ≡ made v (get_or s v 0)
        at v true e = rw e
        at v false e = rw e (sym (become_same (get_or D v no_domain) (get_or m v 0) (get_or s v 0) (unnamed v e)))

    is_there_lem : ℕ → Bool
    is_there_lem v = not (eqb (get_or m v 0) 1 && eqb (get_or D v no_domain).none 0)

    pub nones_by_rows : all (λ r. ltb r.variable (length D)) rows ≡ true → nones_in D m rows ≡ nones_there D m
    unfolding nones_in nones_there named is_there_lem
    nones_by_rows low = same_bool_lem (nones_in D m rows) (nones_there D m) there back
      where
        there : nones_in D m rows ≡ true → nones_there D m ≡ true
        there h = all_of is_there_lem (below (length D)) (λ v k. by v (named rows v) refl)
          where
            by : (v : ℕ) (b : Bool) → named rows v ≡ b → is_there_lem v ≡ true
            by v true e =
                let w = any_of (λ r. eqb v r.variable) rows e in
                ap is_there_lem (eqb-true v w.it.variable w.passes) ∙ all_at (λ r. is_there_lem r.variable) h w.mem
            by v false e = rw (unnamed v e)

        back : nones_there D m ≡ true → nones_in D m rows ≡ true
        back h =
            all_of (λ r. is_there_lem r.variable) rows
            (λ r k.
            all_at is_there_lem h
            (below_in (length D) r.variable (ltb-true r.variable (length D) (all_at (λ r. ltb r.variable (length D)) low k))))
