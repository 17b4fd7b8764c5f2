-- Request 6 holds: the join of two images is read, accepted and run together. Assumes nothing.
use mathlib.Core.Bool.{true, false, ◌&&◌}
use mathlib.Core.Path.{◌≡◌, refl, sym, ◌∙◌, ap, ap₂, subst}
use mathlib.Core.List.{List, ◌++◌}
use Prim.Native.Nat.{ℕ}
use lib.ListN.{length}
use Rattle.definitions.specs.Answer.{Refusal, finding, refused, refuse, Outcome, outcome, ask, ask_at, ◌>>=◌, is_finding}
use Rattle.definitions.specs.StepLists.{walk, runs}
use Rattle.definitions.specs.Literal.{all_true}
use Rattle.definitions.specs.Image.{Task, initial_state, read_task}
use Rattle.definitions.specs.Step.{step, step_task, goal_task, run_task}
use Rattle.definitions.specs.Groups.{Written}
use Rattle.definitions.specs.Join.{joined, join_fits, join_answer, join_call, first_part, second_part}
use Rattle.definitions.specs.TwoJoined.{RunsTogether, TwoJoined, Joining}
use Rattle.definitions.proofs.ListLaws.{and_left, and_right}
use Rattle.definitions.proofs.LiteralLaws.{list_low}
use Rattle.definitions.proofs.StateLaws.{initial_long}
use Rattle.definitions.proofs.TaskCalls.{walk_call, walk_state, runs_call, goal_call_lem, run_found, run_made}
use Rattle.definitions.proofs.TaskBack.{RightTask, right_of, read_of}
use Rattle.definitions.proofs.JoinLaws.{all_both}
use Rattle.definitions.proofs.JoinRead.{join_of, join_long, join_reads, joined_initial}
use Rattle.definitions.proofs.JoinAccepted.{joined_accepted}
use Rattle.definitions.proofs.JoinRuns.{walk_length, together}

-- ---- the joined image and the two images, from their initial states
module _ (w v z : List ℕ) (t u : Task) (is : List ℕ) where
  abbrev J : Task
  J = joined t u

  -- the two parts of the list
  abbrev p : List ℕ
  p = first_part (length t.operators) is

  abbrev q : List ℕ
  q = second_part (length t.operators) is

  -- the initial states, and the states after the list
  abbrev s₀ : List ℕ
  s₀ = initial_state t

  abbrev v₀ : List ℕ
  v₀ = initial_state u

  abbrev s₁ : List ℕ
  s₁ = walk (step t) (initial_state t) (first_part (length t.operators) is)

  abbrev v₁ : List ℕ
  v₁ = walk (step u) (initial_state u) (second_part (length t.operators) is)

  -- on the tasks
  both_run : RightTask t → runs (step J) (initial_state J) is ≡ (runs (step t) s₀ p && runs (step u) v₀ q)
  both_run rt = ap (λ s. runs (step J) s is) (joined_initial t u rt) ∙ (together t u rt is s₀ v₀ (initial_long t)).run

  both_states : RightTask t → walk (step J) (initial_state J) is ≡ s₁ ++ v₁
  both_states rt = ap (λ s. walk (step J) s is) (joined_initial t u rt) ∙ (together t u rt is s₀ v₀ (initial_long t)).state

  both_goals : RightTask t → all_true (walk (step J) (initial_state J) is) J.goal ≡ (all_true s₁ t.goal && all_true v₁ u.goal)
  unfolding joined
  both_goals rt =
      ap (λ s. all_true s J.goal) (both_states rt)
      ∙ all_both t.atoms s₁ v₁ (walk_length t p s₀ ∙ initial_long t) t.goal u.goal (list_low t.atoms t.goal rt.goal)

  -- on the images
  module _ (read-w : read_task w ≡ finding t) (read-v : read_task v ≡ finding u) (read-z : read_task z ≡ finding J) where
    rt : RightTask t
    rt = right_of t (read_of w t read-w).right

    goal_calls :
        goal_task z (walk (step_task z) (initial_state J) is)
        ≡ (goal_task w (walk (step_task w) s₀ p) >>= λ a. goal_task v (walk (step_task v) v₀ q) >>= λ b. finding (a && b))
    unfolding ◌>>=◌
    goal_calls =
        goal_call_lem z J read-z (walk (step_task z) (initial_state J) is) (walk_state z J read-z is)
        ∙ ap (λ s. finding (all_true s J.goal)) (walk_call z J read-z is)
        ∙ ap finding (both_goals rt)
        ∙ ap₂ (λ a b. finding (all_true a t.goal && all_true b u.goal)) (sym (walk_call w t read-w p)) (sym (walk_call v u read-v q))
        ∙ sym
        (rw (
          goal_call_lem w t read-w (walk (step_task w) s₀ p) (walk_state w t read-w p),
          goal_call_lem v u read-v (walk (step_task v) v₀ q) (walk_state v u read-v q),
        ))

    run_calls : is_finding (run_task z (initial_state J) is).answer ≡ (is_finding (run_task w s₀ p).answer && is_finding (run_task v v₀ q).answer)
    run_calls = run_found z J read-z is ∙ both_run rt ∙ ap₂ (λ a b. a && b) (sym (run_found w t read-w p)) (sym (run_found v u read-v q))

    run_left :
        is_finding (run_task z (initial_state J) is).answer ≡ true
        → run_task z (initial_state J) is ≡ outcome (finding (length is)) ((run_task w s₀ p).lent ++ (run_task v v₀ q).lent)
    unfolding outcome
    run_left h =
        let r : runs (step J) (initial_state J) is ≡ true = sym (run_found z J read-z is) ∙ h in
        let b : (runs (step t) s₀ p && runs (step u) v₀ q) ≡ true = sym (both_run rt) ∙ r in
        let f = run_made w t read-w p (and_left (runs (step t) s₀ p) (runs (step u) v₀ q) b) in
        let g = run_made v u read-v q (and_right (runs (step t) s₀ p) (runs (step u) v₀ q) b) in
        run_made z J read-z is r
        ∙ ap (outcome (finding (length is))) (both_states rt ∙ sym (ap₂ (λ (a b : Outcome ℕ). a.lent ++ b.lent) f g))

    pub runs_together : RunsTogether w v z t u is
    runs_together =
        record {
          runs_both = runs_call z J read-z is ∙ both_run rt ∙ ap₂ (λ a b. a && b) (sym (runs_call w t read-w p)) (sym (runs_call v u read-v q));
          state = walk_call z J read-z is ∙ both_states rt ∙ ap₂ (λ a b. a ++ b) (sym (walk_call w t read-w p)) (sym (walk_call v u read-v q));
          goal = goal_calls;
          run = run_calls;
          left = run_left;
        }

-- ---- refusals
module _ (w v : List ℕ) (target : ℕ) where
  first_refused : (r : Refusal) → read_task w ≡ refused r → join_call w v target ≡ refused r
  unfolding join_call ◌>>=◌
  first_refused r e = rw e

  second_refused : (t : Task) (r : Refusal) → read_task w ≡ finding t → read_task v ≡ refused r → join_call w v target ≡ refused r
  unfolding join_call ◌>>=◌
  second_refused t r e f = rw (e, f)

  passed :
      (t u : Task) → read_task w ≡ finding t → read_task v ≡ finding u → join_fits (joined t u) target ≡ false
      → join_call w v target ≡ refuse 27 0 0
  unfolding join_call join_answer ask ask_at refuse ◌>>=◌
  passed t u e f h = rw (e, f, h)

-- ---- whatever a join wrote
pub two_joined : (w v : List ℕ) (target : ℕ) (x : Written) → join_call w v target ≡ finding x → TwoJoined w v target x
two_joined w v target x e =
    let j = join_of w v target x e in
    let t = j.first in
    let u = j.second in
    let reads = join_reads w v target t u j.read_first j.read_second j.fits in
    subst (λ (z : Written). TwoJoined w v target z) j.same
    (record {
      first = t;
      second = u;
      read_first = j.read_first;
      read_second = j.read_second;
      fits = j.fits.room;
      count = refl;
      long = join_long w v target t u j.read_first j.read_second;
      reads = reads;
      accepted = λ c d m₁ m₂ marks a b. joined_accepted w v _ c d m₁ m₂ marks t u a b j.read_first j.read_second reads;
      lists = λ is. runs_together w v _ t u is j.read_first j.read_second reads;
    })

-- of every two images and every target
pub joining : Joining
joining = record { first_refused = first_refused; second_refused = second_refused; passed = passed; joins = two_joined }
