-- What the closure call shows: exactly the closure in the 2N marks, and its number of literals, also where it is contradictory. Assumes nothing.
use mathlib.Core.Path.{◌≡◌, sym, ◌∙◌, ap, subst}
use mathlib.Core.List.{List, ◌++◌}
use Prim.Native.Nat.{ℕ, ◌≤◌}
use lib.Dec.{ltb, leb}
use lib.ListN.{length, drop}
use lib.Seq.{length-take-le, length_front, drop_at}
use borrow.Author.Tests.{leb-true}
use Rattle.definitions.specs.Answer.{finding, outcome, ◌>>=◌, ask_at, ask}
use Rattle.definitions.specs.Image.{Task}
use Rattle.definitions.specs.Groups.{Written, written}
use Rattle.definitions.specs.Marks.{mark_bytes, marks_of}
use Rattle.definitions.specs.ClosureCall.{operator_closure, shown, closure_call, Shows, ClosureShown}
use Rattle.definitions.proofs.AnswerLaws.{bind_of, ask_of, same_finding}
use Rattle.definitions.proofs.MarkBits.{marks_length, new_marks, new_low, new_high, front_literals}

module _ (t : Task) (C : List (List ℕ)) (i : ℕ) (ms : List ℕ) (room : mark_bytes t.atoms ≤ length ms) where
  abbrev K : List ℕ
  K = operator_closure t C i

  after : (written ms (finding (shown t C i ms))).lent ≡ new_marks t.atoms K ms
  unfolding written outcome shown new_marks marks_of
  after = ap (λ (n : ℕ). marks_of t.atoms K ms ++ drop n ms) (marks_length t.atoms K ms)

  shown_right : Shows t.atoms K ms (shown t C i ms) (new_marks t.atoms K ms)
  unfolding shown new_marks
  shown_right =
      record {
        exactly = new_low t.atoms K ms;
        bits_beyond = new_high t.atoms K ms;
        bytes_beyond = drop_at (marks_of t.atoms K ms) (drop (mark_bytes t.atoms) ms) (mark_bytes t.atoms) (marks_length t.atoms K ms);
        same_length =
            length_front ms (marks_of t.atoms K ms) (mark_bytes t.atoms)
            (marks_length t.atoms K ms ∙ sym (length-take-le (mark_bytes t.atoms) ms room));
        number = ap length (front_literals t.atoms K ms);
      }

pub closure_shown : ClosureShown
unfolding closure_call ◌>>=◌ ask
closure_shown w c i ms t C x read clauses e =
    let asked = rw (read, clauses) at e in
    let inside = bind_of (ask_at 19 0 (ltb i (length t.operators))) _ x asked in
    let room = bind_of (ask_at 13 0 (leb (mark_bytes t.atoms) (length ms))) _ x inside.2 in
    let enough = leb-true (mark_bytes t.atoms) (length ms) (ask_of 13 0 (leb (mark_bytes t.atoms) (length ms)) room.0 room.1) in
    let there : Shows t.atoms (operator_closure t C i) ms (shown t C i ms) (written ms (finding (shown t C i ms))).lent =
    rw (after t C i ms enough) (shown_right t C i ms enough) in
    subst (λ (y : Written). Shows t.atoms (operator_closure t C i) ms y (written ms (finding y)).lent) (same_finding (shown t C i ms) x room.2) there
