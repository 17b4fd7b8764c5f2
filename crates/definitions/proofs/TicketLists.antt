-- Lists of asks and commits: each call keeps that state and count are those of the operators committed. Assumes nothing.
use mathlib.Core.Bool.{Bool, true, false, not}
use mathlib.Core.Path.{◌≡◌, refl, sym, ◌∙◌, ap, subst}
use mathlib.Core.List.{List, [], ◌∷◌, ◌++◌, map, append-nil}
use Prim.Native.Nat.{ℕ, suc, ◌+◌, ◌≤◌}
use native.Mathlib.Omega.{arith}
use lib.Dec.{eqb}
use lib.ListN.{length, length-append}
use borrow.Author.Tests.{eqb-true, eqb-false, eq-eqb, ne_eqb, not-true}
use Rattle.definitions.specs.Lists.{all}
use Rattle.definitions.specs.Answer.{Answer, finding, refused, refuse, verdict, outcome, state_after, ask, ask_at, ◌>>=◌}
use Rattle.definitions.specs.StepLists.{walk, verdicts, runs}
use Rattle.definitions.specs.CallLists.{Event, lent_after, after_calls, event_of, history}
use Rattle.definitions.specs.Literal.{is_state}
use Rattle.definitions.specs.Image.{Task, initial_state, read_task}
use Rattle.definitions.specs.Step.{step, step_task}
use Rattle.definitions.specs.Ticket.{CountedState, Ticket, last_count, ask_task, ticket_valid, commit, commit_task}
use Rattle.definitions.specs.Ticket.{TicketCall, asks, commits, ticket_call, committed_by, committed, initial_counted}
use Rattle.definitions.specs.TicketLists.{OfOperators, CommittedLater, TicketLists}
use Rattle.definitions.proofs.ListLaws.{and_left, and_right}
use Rattle.definitions.proofs.AnswerLaws.{not_finding, same_finding, bind_of, FoundAfter, found_after}
use Rattle.definitions.proofs.StepLists.{walk_then, runs_then}
use Rattle.definitions.proofs.CallLists.{history_keeps}
use Rattle.definitions.proofs.TaskCalls.{step_state, walk_call, run_made}

-- ---- what a finding says

-- of question 28: the state's count is not the last
pub valid_not_last : (given count : ℕ) → ticket_valid given count ≡ true → count ≡ last_count → ⊥
unfolding ticket_valid
valid_not_last given count valid h =
    let same = eqb given count in
    let last = eqb given last_count in
    let e = eqb-true given count (and_left same (not last) valid) in
    eqb-false given last_count (not-true last (and_right same (not last) valid)) (e ∙ h)

-- of a commit in a task: 28 is answered yes, and the step is done and counted
record Commits (t : Task) (x : CountedState) (k : Ticket) (y : CountedState) : Type 0 where
  valid : ticket_valid k.count x.count ≡ true
  stepped : step t x.state k.operator ≡ finding y.state
  counted : y.count ≡ suc x.count

commits_found : (t : Task) (x : CountedState) (k : Ticket) (y : CountedState) → commit t x k ≡ finding y → Commits t x k y
unfolding commit ask ask_at ◌>>=◌
commits_found t x k y e = go (ticket_valid k.count x.count) refl (step t x.state k.operator) refl
  where
    go :
        (b : Bool) → ticket_valid k.count x.count ≡ b → (a : Answer (List ℕ)) → step t x.state k.operator ≡ a
        → Commits t x k y
    go true valid (finding s) stepped =
        let z : CountedState = record { state = s; count = suc x.count } in
        subst (λ (z : CountedState). Commits t x k z) (same_finding z y (simp (valid, stepped) at e))
        (record { valid = valid; stepped = stepped; counted = refl })
    go true valid (refused r) stepped = absurd (not_finding (simp (valid, stepped) at e))
    go false valid (finding s) stepped = absurd (not_finding (simp (valid, stepped) at e))
    go false valid (refused r) stepped = absurd (not_finding (simp (valid, stepped) at e))

-- of a commit on an image that reads as a task
commit_found :
    (w : List ℕ) (t : Task) (x : CountedState) (k : Ticket) (y : CountedState) → read_task w ≡ finding t → commit_task w x k ≡ finding y
    → Commits t x k y
unfolding commit_task
commit_found w t x k y read e =
    let f = found_after 18 (read_task w) (λ t. is_state t.atoms x.state) (λ t. commit t x k) y e in
    let same = same_finding f.value t (sym f.given ∙ read) in
    commits_found t x k y (subst (λ (t : Task). commit t x k ≡ finding y) same f.found)

-- of an ask: the step's questions are answered yes, and the ticket has both numbers
record AskFound (w : List ℕ) (x : CountedState) (i : ℕ) (k : Ticket) : Type 0 where
  after : List ℕ
  step_found : FoundAfter (read_task w) (λ t. is_state t.atoms x.state) (λ t. step t x.state i) after
  ticket : record { count = x.count; operator = i } ≡ k

ask_found : (w : List ℕ) (x : CountedState) (i : ℕ) (k : Ticket) → ask_task w x i ≡ finding k → AskFound w x i k
unfolding ask_task step_task
ask_found w x i k e =
    let z : Ticket = record { count = x.count; operator = i } in
    let q = bind_of (step_task w x.state i) (λ _. finding z) k e in
    record {
      after = q.0;
      step_found = found_after 18 (read_task w) (λ t. is_state t.atoms x.state) (λ t. step t x.state i) q.0 q.1;
      ticket = same_finding z k q.2;
    }

-- an ask leaves state and count, whatever it answers
ask_leaves : (w : List ℕ) (x : CountedState) (i : ℕ) → lent_after x (ticket_call w x (asks i)) ≡ x
unfolding ticket_call lent_after ◌>>=◌
ask_leaves w x i = go (ask_task w x i)
  where
    go : (a : Answer Ticket) → lent_after x (a >>= λ _. finding x) ≡ x
    go (finding k) = refl
    go (refused r) = refl

-- ---- what every call keeps: P of the operators committed and of what is lent
module _
    (w : List ℕ) (P : List ℕ → CountedState → Type 0)
    (kept :
    (is : List ℕ) (x : CountedState) (k : Ticket) (y : CountedState) → commit_task w x k ≡ finding y → P is x
    → P (is ++ (k.operator ∷ [])) y)
  where
    each_call : (es : List (Event CountedState TicketCall)) (x : CountedState) (c : TicketCall) → P (committed es) x
        → P (committed (event_of (ticket_call w) x c ∷ es)) (lent_after x (ticket_call w x c))
    unfolding committed committed_by event_of ticket_call verdict lent_after
    each_call es x (asks i) h = rw (append-nil (committed es), ask_leaves w x i) h
    each_call es x (commits k) h = go (commit_task w x k) refl
      where
        go : (a : Answer CountedState) → commit_task w x k ≡ a → P (committed es ++ committed_by (commits k) (verdict a)) (lent_after x a)
        go (finding y) e = kept (committed es) x k y e h
        go (refused r) e = rw (append-nil (committed es)) h

    commits_keep : (cs : List TicketCall) (x : CountedState) → P [] x → P (committed (history (ticket_call w) x cs)) (after_calls (ticket_call w) x cs)
    unfolding committed
    commits_keep cs x h = history_keeps (ticket_call w) (λ es y. P (committed es) y) each_call cs x h

longer : (is : List ℕ) (i : ℕ) → length (is ++ (i ∷ [])) ≡ suc (length is)
longer is i = length-append is (i ∷ []) ∙ omega arith

-- ---- every list from the initial state with count 0
module _ (w : List ℕ) (t : Task) (read : read_task w ≡ finding t) where
  -- state and count are those of operators of which none is refused
  record Committed (is : List ℕ) (x : CountedState) : Type 0 where
    state : x.state ≡ walk (step t) (initial_state t) is
    runs_all : runs (step t) (initial_state t) is ≡ true
    count : x.count ≡ length is
    within : x.count ≤ last_count

  one_more :
      (is : List ℕ) (x : CountedState) (k : Ticket) (y : CountedState) → commit_task w x k ≡ finding y → Committed is x
      → Committed (is ++ (k.operator ∷ [])) y
  unfolding state_after
  one_more is x k y e h =
      let s₀ = initial_state t in
      let i = k.operator in
      let below = valid_not_last k.count x.count f.valid in
      record {
        state = sym (walk_then (step t) i is s₀ ∙ ap (state_after (walk (step t) s₀ is)) stepped);
        runs_all = runs_then (step t) i is s₀ y.state h.runs_all stepped;
        count = f.counted ∙ ap suc h.count ∙ sym (longer is i);
        within = omega (arith, h.within, f.counted);
      }
    where
      f : Commits t x k y
      f = commit_found w t x k y read e

      stepped : step t (walk (step t) (initial_state t) is) k.operator ≡ finding y.state
      stepped = rw (← h.state) f.stepped

  committed_all : (cs : List TicketCall)
      → Committed (committed (history (ticket_call w) (initial_counted t) cs)) (after_calls (ticket_call w) (initial_counted t) cs)
  unfolding initial_counted last_count walk runs verdicts all
  committed_all cs =
      commits_keep w Committed one_more cs (initial_counted t)
      (record { state = refl; runs_all = refl; count = refl; within = omega arith })

  lists :
      (cs : List TicketCall) → OfOperators w t (committed (history (ticket_call w) (initial_counted t) cs)) (after_calls (ticket_call w) (initial_counted t) cs)
  lists cs =
      let is = committed (history (ticket_call w) (initial_counted t) cs) in
      let m = committed_all cs in
      record {
        state = m.state ∙ sym (walk_call w t read is);
        run = run_made w t read is m.runs_all ∙ ap (outcome (finding (length is))) (sym m.state);
        count = m.count;
        within = m.within;
      }

-- ---- a ticket with only asks in between
asks_leave : (w : List ℕ) (is : List ℕ) (x : CountedState) → after_calls (ticket_call w) x (map asks is) ≡ x
unfolding after_calls
asks_leave w [] x = refl
asks_leave w (i ∷ is) x = ap (λ (y : CountedState). after_calls (ticket_call w) y (map asks is)) (ask_leaves w x i) ∙ asks_leave w is x

at_once : (w : List ℕ) (x : CountedState) (i : ℕ) (k : Ticket) → AskFound w x i k → CommittedLater w x i k x
unfolding commit_task commit ticket_valid last_count step_task refuse ask ask_at ◌>>=◌
at_once w x i k a =
    let f = a.step_found in
    let same = eq-eqb x.count x.count refl in
    record {
      done = λ h.
          (a.after, rw (f.given, f.passed) f.found, rw (← a.ticket) (simp (f.given, f.passed, same, ne_eqb x.count 65535 h, f.found)));
      last = λ h. rw (← a.ticket) (simp (f.given, f.passed, f.found, same, eq-eqb x.count 65535 h));
    }

later :
    (w : List ℕ) (x : CountedState) (i : ℕ) (k : Ticket) → ask_task w x i ≡ finding k → (is : List ℕ)
    → CommittedLater w x i k (after_calls (ticket_call w) x (map asks is))
later w x i k e is = rw (asks_leave w is x) (at_once w x i k (ask_found w x i k e))

-- ---- a ticket after a commit
module _ (w : List ℕ) (t : Task) (read : read_task w ≡ finding t) (x : CountedState) where
  -- the state is one of the task, and the count has grown by the operators committed
  record Grown (is : List ℕ) (y : CountedState) : Type 0 where
    right : is_state t.atoms y.state ≡ true
    count : y.count ≡ x.count + length is

  grows :
      (is : List ℕ) (y : CountedState) (k : Ticket) (z : CountedState) → commit_task w y k ≡ finding z → Grown is y
      → Grown (is ++ (k.operator ∷ [])) z
  grows is y k z e h =
      let f = commit_found w t y k z read e in
      let l = longer is k.operator in
      record {
        right = step_state t y.state k.operator z.state h.right f.stepped;
        count = omega (arith, l, f.counted, h.count);
      }

  grown_all : is_state t.atoms x.state ≡ true → (cs : List TicketCall)
      → Grown (committed (history (ticket_call w) x cs)) (after_calls (ticket_call w) x cs)
  grown_all right cs = commits_keep w Grown grows cs x (record { right = right; count = omega arith })

not_empty : (is : List ℕ) → (is ≡ [] → ⊥) → 1 ≤ length is
not_empty [] h = absurd (h refl)
not_empty (i ∷ is) h = omega arith

old :
    (w : List ℕ) (x : CountedState) (i : ℕ) (k : Ticket) → ask_task w x i ≡ finding k → (cs : List TicketCall)
    → (committed (history (ticket_call w) x cs) ≡ [] → ⊥) → commit_task w (after_calls (ticket_call w) x cs) k ≡ refuse 28 0 0
unfolding commit_task commit ticket_valid refuse ask ask_at ◌>>=◌
old w x i k e cs more =
    let y = after_calls (ticket_call w) x cs in
    let is = committed (history (ticket_call w) x cs) in
    let a = ask_found w x i k e in
    let f = a.step_found in
    let g = grown_all w f.value f.given x f.passed cs in
    let m = not_empty is more in
    let other = ne_eqb x.count y.count (λ h. omega (arith, m, g.count)) in
    rw (← a.ticket, f.given, g.right, other)

pub ticket_lists : TicketLists
ticket_lists = record { lists = lists; later = later; old = old }
