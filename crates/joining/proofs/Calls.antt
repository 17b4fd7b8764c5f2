-- The call's questions one after the other: the first image, the second, 27. Assumes nothing.
use mathlib.Core.Bool.{Bool, true}
use mathlib.Core.Path.{◌≡◌, sym, ◌∙◌, ap}
use mathlib.Core.List.{List}
use Prim.Native.Nat.{ℕ}
use native.Mathlib.Omega.{arith}
use lib.ListN.{length}
use Rattle.definitions.specs.Answer.{Refusal, finding, refused, verdict, outcome, ask, ◌>>=◌}
use Rattle.definitions.specs.Image.{Task, read_task}
use Rattle.definitions.specs.Groups.{written}
use Rattle.definitions.specs.TaskWords.{task_words}
use Rattle.definitions.specs.Join.{joined, join_fits, join_answer, join_call}
use Rattle.definitions.proofs.JoinRead.{fits_of}
use Rattle.answer.proofs.Laws.{written_refused, written_left, written_found}
use Rattle.writing.specs.Writing.{Wrote}
use Rattle.writing.proofs.Target.{asked_done}
use Rattle.task.specs.Reads.{task_of, Reads}

-- ---- 27
module _ (t u : Task) (old : List ℕ) where
  module _ (yes : Bool) (fits : yes ≡ join_fits (joined t u) (length old)) where
    pub join_not : (r : Refusal) → refused r ≡ ask 27 yes → outcome (refused r) old ≡ written old (join_answer t u (length old))
    unfolding join_answer
    join_not r e = written_left (ask 27 (join_fits (joined t u) (length old))) _ old r (rw fits at e)

    pub join_done :
        {new : List ℕ} {end : ℕ} → yes ≡ true → Wrote old 0 (task_words (joined t u)) new end
        → outcome (finding end) new ≡ written old (join_answer t u (length old))
    unfolding join_answer
    join_done {new} h w =
        let f = fits_of (joined t u) (length old) (sym fits ∙ h) in
        ap (λ n. outcome (finding n) new) (let e = w.next in omega arith)
        ∙ asked_done 27 (length (task_words (joined t u))) (task_words (joined t u)) old (join_fits (joined t u) (length old)) (sym fits ∙ h) f.room w

-- ---- the images
module _ (w v old : List ℕ) where
  pub first_refused : (r : Refusal) → refused r ≡ verdict (read_task w) → outcome (refused r) old ≡ written old (join_call w v (length old))
  unfolding join_call
  first_refused r e = written_refused (read_task w) (λ t. read_task v >>= λ u. join_answer t u (length old)) old r e

  module _ (first : Reads w) where
    second_left : written old (read_task v >>= λ u. join_answer (task_of w) u (length old)) ≡ written old (join_call w v (length old))
    unfolding join_call
    second_left = written_found (read_task w) (λ t. read_task v >>= λ u. join_answer t u (length old)) old (task_of w) first.found

    pub second_refused : (r : Refusal) → refused r ≡ verdict (read_task v) → outcome (refused r) old ≡ written old (join_call w v (length old))
    second_refused r e = written_refused (read_task v) (λ u. join_answer (task_of w) u (length old)) old r e ∙ second_left

    pub both_read : Reads v → written old (join_answer (task_of w) (task_of v) (length old)) ≡ written old (join_call w v (length old))
    both_read second = written_found (read_task v) (λ u. join_answer (task_of w) u (length old)) old (task_of v) second.found ∙ second_left
