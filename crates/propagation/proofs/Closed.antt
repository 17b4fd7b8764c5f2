-- From the set that the marks stand for to the closure of the definitions. Assumes nothing.
use mathlib.Core.Path.{◌≡◌, refl, sym, ◌∙◌, subst}
use mathlib.Core.Bool.{Bool, true, false, true≢false}
use mathlib.Core.Logic.{◌⊎◌, inl, inr, ⊎_elim}
use mathlib.Core.List.Memᴰ
use mathlib.Core.List.{List, ◌++◌}
use Prim.Native.Nat.{ℕ, ◌*◌, ◌≤◌, ◌<◌}
use lib.ListN.{length, get_or}
use Rattle.definitions.specs.Lists.{member}
use Rattle.definitions.specs.Literal.{complement}
use Rattle.definitions.specs.Closure.{closure, contradictory}
use Rattle.definitions.specs.Marks.{mark_bytes}
use Rattle.definitions.proofs.ListLaws.{decide, never, member_in, member_of}
use Rattle.definitions.proofs.LiteralLaws.{below_at}
use Rattle.definitions.proofs.ClosureLeast.{closure_holds}
use Rattle.definitions.proofs.MarkBits.{new_marks, marks_are}
use Rattle.clause.specs.Rows.{clauses_of, ClausesRead}
use Rattle.clause.proofs.ReadLaws.{read_right}
use Rattle.clause.proofs.ClauseLaws.{clause_below}
use Rattle.propagation.specs.declared.Pass.{Pass}
use Rattle.propagation.specs.declared.Pass.TheVariants as pass
use Rattle.propagation.specs.Marks.{Marked, Asked, closing_of, Closes}
use Rattle.propagation.specs.Walk.{set_of, In, Part, Lists, ClosedUnder, Sound, RestKept, Cleared, Room, Ready}
use Rattle.propagation.specs.Walk.{Added, Seeded, Reached, Passed, Saturated, Closure, Propagated}
use Rattle.propagation.proofs.Sets.{clash_of, clash_any}
use Rattle.propagation.proofs.ClosureLaws.{closure_lowest, closure_under, closure_mono, clash_contradictory}
use Rattle.propagation.proofs.View.{view_below, view_has, view_marks, view_part, part_view, rest_on}

-- ---- the functions below one another
module _ (stops : Bool) (N : ℕ) (w ms ms' : List ℕ) (ready : Ready stops N w ms) (rest : RestKept N ms ms') where
  pub room_on : Sound stops (set_of N ms') → Room stops N ms'
  room_on sound = record { few = ready.marks.few; room = rw rest.same_length ready.marks.room; sound = sound }

  pub ready_on : Sound stops (set_of N ms') → Ready stops N w ms'
  ready_on sound = record { marks = room_on sound; rows = ready.rows }

module _ (stops : Bool) (w s₀ s s' : List ℕ) (r : Reached stops (clauses_of w) s₀ s) where
  pub saturate_same : Passed stops w s s' pass.Same → Saturated stops w s₀ s' true
  saturate_same p = subst (λ (x : List ℕ). Reached stops (clauses_of w) s₀ x × ClosedUnder (clauses_of w) x) (sym p.0) (r, p.1)

  pub saturate_clash : Passed stops w s s' pass.Contradictory → Saturated stops w s₀ s' false
  saturate_clash p = (p.0, λ T c q. p.1 T c (r.least T c q))

-- what adding the literals of a list did, where no complement was met
pub seeded_added :
    (stops : Bool) (s₀ ls s : List ℕ) (answer : Pass) → (answer ≡ pass.Contradictory → ⊥) → Sound stops s₀ → Seeded stops s₀ ls s answer
    → Added stops s₀ ls s
seeded_added stops s₀ ls s pass.Same ne sound p =
    subst (Added stops s₀ ls) (sym p.0) (record { sound = sound; above = λ l q. q; holds = p.1; least = λ T q z. q })
seeded_added stops s₀ ls s pass.Grown ne sound p = p.0
seeded_added stops s₀ ls s pass.Contradictory ne sound p = absurd (ne refl)

pub propagate_clash : (stops : Bool) (w s₀ ls s : List ℕ) → Seeded stops s₀ ls s pass.Contradictory → Propagated stops w s₀ ls s false
propagate_clash stops w s₀ ls s p = (p.0, λ T c q r. p.1 T q r)

pub propagate_on :
    (stops : Bool) (w s₀ ls s s' : List ℕ) (r : Bool) → Added stops s₀ ls s → Saturated stops w s s' r → Propagated stops w s₀ ls s' r
propagate_on stops w s₀ ls s s' true a p =
    let r = p.0 in
    record {
      sound = r.sound;
      above = λ l q. r.above l (a.above l q);
      holds = λ l m. r.above l (a.holds l m);
      closed = p.1;
      least = λ T c q z. r.least T c (a.least T q z);
    }
propagate_on stops w s₀ ls s s' false a p = (p.0, λ T c q z. p.1 T c (a.least T q z))

-- ---- cleared marks stand for the empty set
module _ (N : ℕ) (ms ms₁ : List ℕ) (cleared : Cleared N ms ms₁) where
  cleared_none : (l : ℕ) → In (set_of N ms₁) l → ⊥
  cleared_none l p = let h = view_below N ms₁ l p in never {A = ⊥} (sym (view_has N ms₁ l h) ∙ p) (cleared.none l h)

  pub ready_cleared : (stops : Bool) (w ls : List ℕ) → Asked N w ls ms → Ready stops N w ms₁
  ready_cleared stops w ls asked =
      record {
        marks = record {
          few = asked.few;
          room = rw cleared.rest.same_length asked.room;
          sound = λ e c. cleared_none c.it c.here;
        };
        rows = asked.rows;
      }

-- ---- the closure: L is what s₀ and the list ls stand for
module _ (N : ℕ) (w L s₀ ls ms : List ℕ) (rows : ClausesRead N w) (room : mark_bytes N ≤ length ms)
    (start : Part s₀ (closure N (clauses_of w) L))
    (listed : Lists ls (closure N (clauses_of w) L))
    (given : (T : List ℕ) → Part s₀ T → Lists ls T → (l : ℕ) → l < 2 * N → member l L ≡ true → In T l) where
  under : ClosedUnder (clauses_of w) (closure N (clauses_of w) L)
  under = closure_under N (clauses_of w) (clause_below N w (read_right N w rows)) L

  to : (stops : Bool) → Closure stops (clauses_of w) s₀ ls (set_of N ms) → Part (set_of N ms) (closure N (clauses_of w) L)
  to stops k = k.least (closure N (clauses_of w) L) under start listed

  from : (stops : Bool) → Closure stops (clauses_of w) s₀ ls (set_of N ms) → Part (closure N (clauses_of w) L) (set_of N ms)
  from stops k = closure_lowest N (clauses_of w) L (set_of N ms) (given (set_of N ms) k.above k.holds) k.closed

  -- the marks are those of the closure
  pub closed_marks : (stops : Bool) → Closure stops (clauses_of w) s₀ ls (set_of N ms) → Marked N ms (closure N (clauses_of w) L)
  closed_marks stops k = view_marks N ms (closure N (clauses_of w) L) room (to stops k) (from stops k)

  -- propagation that stops at a complement
  pub closes_of : (r : Bool) → Propagated true w s₀ ls (set_of N ms) r → Closes N (clauses_of w) L ms (closing_of r)
  unfolding closing_of
  closes_of true k = (consistent (decide (contradictory N (closure N (clauses_of w) L))), closed_marks true k)
    where
      consistent :
          (contradictory N (closure N (clauses_of w) L) ≡ true) ⊎ (contradictory N (closure N (clauses_of w) L) ≡ false)
          → contradictory N (closure N (clauses_of w) L) ≡ false
      consistent (inl e) =
          let c = clash_of N (closure N (clauses_of w) L) e in
          absurd (k.sound refl (record { it = c.it; here = from true k c.it c.here; there = from true k (complement c.it) c.there }))
      consistent (inr e) = e
  closes_of false p = clash_contradictory N (clauses_of w) L (p.1 (closure N (clauses_of w) L) under start listed)

-- from cleared marks
module _ (N : ℕ) (w ls ms ms₁ ms₂ : List ℕ) (asked : Asked N w ls ms) (cleared : Cleared N ms ms₁) (rest : RestKept N ms₁ ms₂) where
  kept : RestKept N ms ms₂
  kept = rest_on N ms ms₁ ms₂ cleared.rest rest

  room₂ : mark_bytes N ≤ length ms₂
  room₂ = rw kept.same_length asked.room

  none_in : (T : List ℕ) → Part (set_of N ms₁) T
  none_in T l p = absurd (cleared_none N ms ms₁ cleared l p)

  listed_in : Lists ls (closure N (clauses_of w) ls)
  listed_in l m = closure_holds N (clauses_of w) ls l (below_at (2 * N) ls asked.below l (member_of l ls m)) m

  pub close_done : (r : Bool) → Propagated true w (set_of N ms₁) ls (set_of N ms₂) r → Closes N (clauses_of w) ls ms₂ (closing_of r)
  close_done = closes_of N w ls (set_of N ms₁) ls ms₂ asked.rows room₂ (none_in (closure N (clauses_of w) ls)) listed_in (λ T p q l h m. q l m)

  -- without a stop it ends with the whole closure
  whole : (r : Bool) → Propagated false w (set_of N ms₁) ls (set_of N ms₂) r → Marked N ms₂ (closure N (clauses_of w) ls)
  whole true k =
      closed_marks N w ls (set_of N ms₁) ls ms₂ asked.rows room₂ (none_in (closure N (clauses_of w) ls)) listed_in (λ T p q l h m. q l m) false k
  whole false p = absurd (true≢false (sym p.0))

  pub close_whole :
      (r : Bool) → Propagated false w (set_of N ms₁) ls (set_of N ms₂) r → ((i : ℕ) → get_or ms i 0 < 256) → ((i : ℕ) → get_or ms₂ i 0 < 256)
      → ms₂ ≡ new_marks N (closure N (clauses_of w) ls) ms
  close_whole r p low low₂ =
      marks_are N (closure N (clauses_of w) ls) ms ms₂ kept.same_length asked.room low low₂ (whole r p).each kept.beyond

-- from marks that stand for a closure
pub ready_marks :
    (N : ℕ) (w ls ms S : List ℕ) → Asked N w ls ms → Marked N ms S → contradictory N S ≡ false → Ready true N w ms
ready_marks N w ls ms S asked m consistent =
    record { marks = record { few = asked.few; room = asked.room; sound = no_clash }; rows = asked.rows }
  where
    no_clash : Sound true (set_of N ms)
    no_clash e c =
        never {A = ⊥}
        (clash_any N S
        (record { it = c.it; here = view_part N ms S m c.it c.here; there = view_part N ms S m (complement c.it) c.there })
        (view_below N ms c.it c.here))
        consistent

pub extend_done :
    (N : ℕ) (w ls more ms ms' : List ℕ) (r : Bool) → Asked N w more ms → RestKept N ms ms' → Marked N ms (closure N (clauses_of w) ls)
    → Propagated true w (set_of N ms) more (set_of N ms') r → Closes N (clauses_of w) (ls ++ more) ms' (closing_of r)
extend_done N w ls more ms ms' r asked rest m propagated =
    closes_of N w (ls ++ more) (set_of N ms) more ms' asked.rows (rw rest.same_length asked.room) start listed given r propagated
  where
    C : List (List ℕ)
    C = clauses_of w

    start : Part (set_of N ms) (closure N C (ls ++ more))
    start l p =
        closure_mono N C (clause_below N w (read_right N w asked.rows)) ls (ls ++ more) (λ x h z. member_in (Memᴰ.append_left more (member_of x ls z))) l
        (view_part N ms (closure N C ls) m l p)

    listed : Lists more (closure N C (ls ++ more))
    listed l z =
        closure_holds N C (ls ++ more) l (below_at (2 * N) more asked.below l (member_of l more z))
        (member_in (Memᴰ.append_right ls (member_of l more z)))

    given : (T : List ℕ) → Part (set_of N ms) T → Lists more T → (l : ℕ) → l < 2 * N → member l (ls ++ more) ≡ true → In T l
    given T p q l h z =
        ⊎_elim (λ x. p l (part_view N ms (closure N C ls) m l h (closure_holds N C ls l h (member_in x)))) (λ x. q l (member_in x))
        (Memᴰ.append_cases ls (member_of l (ls ++ more) z))
