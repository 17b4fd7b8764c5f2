-- The answers of `read`: a refusal of questions 1 to 7, questions 24 to 26, the rows. Assumes nothing.
use mathlib.Core.Bool.{Bool, true, false, ◌&&◌}
use mathlib.Core.Path.{◌≡◌, refl, sym, ◌∙◌, ap, subst}
use mathlib.Core.List.{List, ◌++◌}
use Prim.Native.Nat.{ℕ, ◌*◌, ◌≤◌, ◌<◌}
use lib.Dec.{leb}
use lib.ListN.{length, take, drop}
use lib.Seq.{length-take-le}
use borrow.Author.Tests.{le-leb, lt-leb}
use Rattle.definitions.specs.Lists.{all}
use Rattle.definitions.specs.Answer.{Refusal, finding, refused, outcome, verdict, ask, ask_at, ◌>>=◌}
use Rattle.definitions.specs.Literal.{most_atoms}
use Rattle.definitions.specs.Image.{read_task}
use Rattle.definitions.specs.Clauses.{width, most_rows}
use Rattle.definitions.specs.Groups.{written}
use Rattle.definitions.specs.Dimacs.{is_dimacs, fits_row, distinct, read_dimacs}
use Rattle.dimacs_rows.specs.Clauses.{Left, clauses_said}
use Rattle.dimacs_rows.proofs.Clauses.{left_most, form_left, clauses_said_lem}
use Rattle.answer.specs.Answer.{refusal_at}
use Rattle.answer.proofs.Laws.{verdict_refused}
use Rattle.task.specs.Reads.{task_of, Reads}
use Rattle.dimacs_form.specs.Form.{FormAt}
use Rattle.dimacs_rows.specs.Reading.{clauses_at, Clauses}
use Rattle.dimacs.specs.Read.{rows_answer, form_answer, RowsRead}

-- ---- questions 25 and 26
module _ (D : List (List ℕ)) (old : List ℕ) where
  pub rows_unfit : all fits_row D ≡ false → outcome (refused (refusal_at 25 0 0)) old ≡ written old (rows_answer D (length old))
  unfolding rows_answer written ◌>>=◌ ask ask_at
  rows_unfit h = rw h

  -- question 26 is answered no
  no_room : all fits_row D ≡ true → (leb (length (distinct D)) most_rows && leb (width * length (distinct D)) (length old)) ≡ false
      → outcome (refused (refusal_at 26 0 0)) old ≡ written old (rows_answer D (length old))
  unfolding rows_answer written ◌>>=◌ ask ask_at
  no_room h k = rw (h, k)

  pub rows_full : all fits_row D ≡ true → most_rows < length (distinct D) → outcome (refused (refusal_at 26 0 0)) old ≡ written old (rows_answer D (length old))
  rows_full h k = no_room h (rw (lt-leb (length (distinct D)) most_rows k))

  module _ (w : List ℕ) (k : ℕ) (r : RowsRead D w k) where
    pub rows_short : length old < width * k → outcome (refused (refusal_at 26 0 0)) old ≡ written old (rows_answer D (length old))
    rows_short h =
        no_room r.fits
        (rw (lt-leb (width * length (distinct D)) (length old) (rw r.set.count at h)) (no_more (leb (length (distinct D)) most_rows)))
      where
        no_more : (b : Bool) → (b && false) ≡ false
        no_more true = refl
        no_more false = refl

    enough : width * k ≤ length old → (leb (length (distinct D)) most_rows && leb (width * length (distinct D)) (length old)) ≡ true
    enough h =
        let few = r.set.few in
        rw (le-leb (length (distinct D)) most_rows (rw r.set.count at few), le-leb (width * length (distinct D)) (length old) (rw r.set.count at h))

    pub rows_done :
        width * k ≤ length w → width * k ≤ length old → (ws : List ℕ) → ws ≡ take (width * k) w
        → outcome (finding k) (ws ++ drop (width * k) old) ≡ written old (rows_answer D (length old))
    unfolding rows_answer written ◌>>=◌ ask ask_at
    rows_done inside h ws e =
        let size = ap length e ∙ length-take-le (width * k) w inside in
        rw (r.fits, enough h)
        (ap (λ n. outcome (finding n) (ws ++ drop (width * k) old)) r.set.count
        ∙ ap (outcome (finding (length (distinct D))))
        (ap (λ n. ws ++ drop n old) (sym size) ∙ ap (λ z. z ++ drop (length z) old) (e ∙ r.set.words)))

-- ---- question 24
module _ (N : ℕ) (text old : List ℕ) where
  pub form_not : is_dimacs N text ≡ false → outcome (refused (refusal_at 24 0 0)) old ≡ written old (form_answer N text (length old))
  unfolding form_answer written ◌>>=◌ ask ask_at
  form_not h = rw h

  module _ (from : ℕ) (f : FormAt N text from) where
    pub form_clauses : N ≤ most_atoms → Clauses text from
    form_clauses few =
        record {
          place = f.place;
          left = left_most N most_atoms true few (subst (Left N true) (sym f.clauses) (form_left N text f.form));
        }

    pub form_rows : written old (rows_answer (clauses_at text from) (length old)) ≡ written old (form_answer N text (length old))
    unfolding form_answer ◌>>=◌ ask ask_at
    form_rows = rw f.form (ap (λ D. written old (rows_answer D (length old))) (ap clauses_said f.clauses ∙ sym (clauses_said_lem text)))

-- ---- questions 1 to 7
module _ (w text old : List ℕ) where
  pub read_task_lem : (r : Refusal) → refused r ≡ verdict (read_task w) → outcome (refused r) old ≡ written old (read_dimacs w text (length old))
  unfolding read_dimacs written ◌>>=◌
  read_task_lem r h = rw (verdict_refused (read_task w) r (sym h))

  pub read_rest :
      Reads w → (atoms : ℕ) → atoms ≡ (task_of w).atoms
      → written old (form_answer atoms text (length old)) ≡ written old (read_dimacs w text (length old))
  unfolding read_dimacs form_answer rows_answer ◌>>=◌
  read_rest task atoms counted = rw (task.found, ← counted)
