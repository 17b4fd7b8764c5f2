-- The state of the walk over the clauses, with one lemma for each way that the code takes. Assumes nothing.
use mathlib.Core.Path.{◌≡◌, refl, sym, subst}
use mathlib.Core.Bool.{Bool, true}
use mathlib.Core.Logic.{◌⊎◌, inl, inr, ⊎_elim}
use mathlib.Core.List.{List, ◌∷◌, Memᴰ}
use Prim.Native.Nat.{ℕ, ◌+◌, ◌≤◌, ◌<◌}
use lib.ListN.{length}
use Rattle.definitions.specs.Lists.{member}
use Rattle.definitions.specs.Clauses.{width}
use Rattle.definitions.specs.Closure.{forces}
use Rattle.clause.specs.Rows.{clause_at, clauses_of, clauses_from}
use Rattle.clause.proofs.RowLaws.{from_start, from_next, from_end}
use Rattle.propagation.specs.declared.Pass.{Pass}
use Rattle.propagation.specs.declared.Pass.TheVariants.{Same, Grown, Contradictory}
use Rattle.propagation.specs.Walk.{Part, Lists, ClosedAt, ClosedUnder, Sound, Seeded, Reached, Passed}
use Rattle.propagation.proofs.Sets.{forces_more}
use Rattle.propagation.proofs.Seeds.{Growth, grows}

-- where nothing was marked: each clause is still to come, or forces nothing new
abbrev pub Behind : List ℕ → List ℕ → ℕ → Pass → Type 0
Behind w s₀ at Same = (f : List ℕ) → Memᴰ f (clauses_of w) → Memᴰ f (clauses_from w at) ⊎ ClosedAt s₀ f
Behind w s₀ at Grown = Unit {0}
Behind w s₀ at Contradictory = ⊥

-- the set s₀ at the walk's start, the set s now, the position of the next row, and the answer so far
pub record Walk (stops : Bool) (w s₀ s : List ℕ) (at : ℕ) (answer : Pass) : Type 0 where
  pub reached : Reached stops (clauses_of w) s₀ s
  pub ahead : (f : List ℕ) → Memᴰ f (clauses_from w at) → Memᴰ f (clauses_of w)
  pub growth : Growth s₀ s answer
  pub behind : Behind w s₀ at answer

pub reached_self : (stops : Bool) (C : List (List ℕ)) (s : List ℕ) → Sound stops s → Reached stops C s s
reached_self stops C s sound = record { sound = sound; above = λ l p. p; least = λ T c p. p }

pub walk_start : (stops : Bool) (w s : List ℕ) → Sound stops s → Walk stops w s s 0 Same
walk_start stops w s sound =
    record {
      reached = reached_self stops (clauses_of w) s sound;
      ahead = λ f m. rw from_start at m;
      growth = refl;
      behind = λ f m. inl (rw from_start m);
    }

pub walk_end :
    (stops : Bool) (w s₀ s : List ℕ) (at : ℕ) (answer : Pass) → length w < at + width → Walk stops w s₀ s at answer
    → Passed stops w s₀ s answer
walk_end stops w s₀ s at Same h k =
    (k.growth, λ f m. ⊎_elim (λ z. absurd (elim (rw (from_end w at h) at z) [ ])) (λ d. d) (k.behind f m))
walk_end stops w s₀ s at Grown h k = (k.reached, k.growth)
walk_end stops w s₀ s at Contradictory h k = absurd k.growth

-- the row at `at` is passed
module _ (stops : Bool) (w s₀ s : List ℕ) (at : ℕ) (h : at + width ≤ length w) (answer : Pass) (k : Walk stops w s₀ s at answer) where
  behind_next : (a : Pass) → ClosedAt s (clause_at w at) → Growth s₀ s a → Behind w s₀ at a → Behind w s₀ (at + width) a
  behind_next Same cl e p = λ f m. next f (p f m)
    where
      closed : ClosedAt s₀ (clause_at w at)
      closed = rw e at cl

      split :
          (f : List ℕ) → Memᴰ f (clause_at w at ∷ clauses_from w (at + width)) → Memᴰ f (clauses_from w (at + width)) ⊎ ClosedAt s₀ f
      split f (Memᴰ.head e) = inr (rw e closed)
      split f (Memᴰ.tail m) = inl m

      next : (f : List ℕ) → Memᴰ f (clauses_from w at) ⊎ ClosedAt s₀ f → Memᴰ f (clauses_from w (at + width)) ⊎ ClosedAt s₀ f
      next f (inl m) = split f (rw (from_next w at h) at m)
      next f (inr d) = inr d
  behind_next Grown cl z p = tt
  behind_next Contradictory cl z p = p

  ahead_next : (f : List ℕ) → Memᴰ f (clauses_from w (at + width)) → Memᴰ f (clauses_of w)
  ahead_next f m = k.ahead f (rw (from_next w at h) (Memᴰ.tail m))

  pub this : Memᴰ (clause_at w at) (clauses_of w)
  this = k.ahead (clause_at w at) (rw (from_next w at h) (Memᴰ.head refl))

  -- it forces nothing new
  pub pass_row : ClosedAt s (clause_at w at) → Walk stops w s₀ s (at + width) answer
  pass_row cl =
      record { reached = k.reached; ahead = ahead_next; growth = k.growth; behind = behind_next answer cl k.growth k.behind }

  -- the literals of a list are those that it forces, and adding them ended with s'
  module _ (ls s' : List ℕ) (forced : (l : ℕ) → member l ls ≡ true → forces s l (clause_at w at) ≡ true)
      (all : (l : ℕ) → forces s l (clause_at w at) ≡ true → member l ls ≡ true) where
    -- they are in every closed set that holds s
    in_closed : (T : List ℕ) → ClosedUnder (clauses_of w) T → Part s T → Lists ls T
    in_closed T closed sub l m = closed (clause_at w at) this l (forces_more s T l (clause_at w at) sub (forced l m))

    pub force_same : Seeded stops s ls s' Same → Walk stops w s₀ s' (at + width) answer
    force_same p = subst (λ (x : List ℕ). Walk stops w s₀ x (at + width) answer) (sym p.0) (pass_row (λ l e. p.1 l (all l e)))

    pub force_more : Seeded stops s ls s' Grown → Walk stops w s₀ s' (at + width) Grown
    force_more p =
        let q = k.reached in
        let a = p.0 in
        record {
          reached = record {
            sound = a.sound;
            above = λ l z. a.above l (q.above l z);
            least = λ T c z. a.least T (q.least T c z) (in_closed T c (q.least T c z));
          };
          ahead = ahead_next;
          growth = grows s₀ s s' answer k.growth p.1;
          behind = tt;
        }

    pub force_clash : Seeded stops s ls s' Contradictory → Passed stops w s₀ s' Contradictory
    force_clash p = (p.0, λ T c z. p.1 T (k.reached.least T c z) (in_closed T c (k.reached.least T c z)))

-- ---- from walk to walk
pub reached_on :
    (stops : Bool) (C : List (List ℕ)) (s₀ s s' : List ℕ) → Reached stops C s₀ s → Reached stops C s s' → Reached stops C s₀ s'
reached_on stops C s₀ s s' r r' =
    record { sound = r'.sound; above = λ l p. r'.above l (r.above l p); least = λ T c p. r'.least T c (r.least T c p) }
