-- The text of a card from the answer of the synthesis and its clause buffer. Assumes nothing.
use mathlib.Core.Path.{◌≡◌, refl, sym, ◌∙◌, ap, subst}
use mathlib.Core.Bool.{Bool, true, false, ◌&&◌}
use mathlib.Core.List.{List, [], ◌∷◌, ◌++◌}
use Prim.Native.Nat.{ℕ, ◌-◌, ◌*◌, ◌/◌, ◌%◌, ◌≤◌}
use native.Mathlib.Nat.{div-add-mod}
use native.Mathlib.Omega.{arith}
use lib.Dec.{eqb, leb}
use borrow.Author.Tests.{leb-true}
use Rattle.definitions.proofs.ListLaws.{and_left, and_right}
use lib.ListN.{length, get_or, take, drop, replicate, length-append, length-drop}
use lib.Seq.{take_all, take-append_seam, get_or-drop, length-sets}
use Rattle.definitions.specs.Answer as paper
use Rattle.definitions.specs.Answer.{Answer, finding, refused, Outcome, outcome, ask, ask_at, ◌>>=◌}
use Rattle.definitions.specs.Image.{read_task}
use Rattle.definitions.specs.Clauses.{width, most_rows, clause_words, read_clauses}
use Rattle.definitions.specs.Checker.{check, accept, Accepted}
use Rattle.definitions.specs.Synthesis.{Found, Made, synthesis, synthesis_call, made_of, buffer_after}
use Rattle.definitions.specs.Literal.{most_atoms}
use Rattle.definitions.specs.Card.{words_of, most_input, card_answer, card, found_text, refused_text}
use Rattle.definitions.specs.Marks.{mark_bytes}
use Rattle.definitions.proofs.AnswerLaws.{bind_of, same_finding, not_finding}
use Rattle.definitions.proofs.ReadLaws.{read_right}
use Rattle.definitions.proofs.Accepts.{synthesis_accepted}
use Rattle.answer.specs.Answer.{refusal_at}
use Rattle.clause.specs.Rows.{clauses_of, row_count, ClausesRead}
use Rattle.clause.proofs.RowLaws.{clauses_length}
use Rattle.clause.proofs.ReadLaws.{read_are, read_of, read_whole, read_count}
use Rattle.clause.proofs.ReadLaws as reading
use Rattle.clause.proofs.ClauseLaws.{clause_good, clause_below}
use Rattle.writing.specs.Writing.{Wrote}
use Rattle.writing.proofs.Writes.{wrote_front}
use Rattle.card.specs.Text.{finding_of, is_input, input_answer, words_text}
use Rattle.card.specs.Room.{most_text, most_words, Buffers}
use Rattle.card.proofs.Size.{refusal_size, found_size}

-- ---- room for the text of clauses that are read
read_rows_lem : (N : ℕ) (w : List ℕ) → ClausesRead N w → length (clauses_of w) ≤ most_rows
read_rows_lem N w c = rw (clauses_length w) (read_count N w c)

pub read_size : (N : ℕ) (w : List ℕ) (r : ℕ) → ClausesRead N w → N ≤ most_atoms → length (found_text N (finding_of (clauses_of w) r)) ≤ most_text
read_size N w r c few =
    let right = reading.read_right N w c in
    found_size N (clauses_of w) r few (read_rows_lem N w c) (λ f m. (clause_good N w right f m).most)
    (λ f m l k. let h = clause_below N w right f m l k in omega arith)

-- ---- the answer of the synthesis
made_no : (a : Answer Found) (p : paper.Refusal) → refused p ≡ made_of a → a ≡ refused p
unfolding made_of
made_no (finding x) p e = absurd (not_finding {r = p} {a = record { rows = length x.clauses; rounds = x.rounds }} e)
made_no (refused r) p e = let s : p ≡ r = cc in rw s

made_yes : (a : Answer Found) (m : Made) → finding m ≡ made_of a → (x : Found) × (a ≡ finding x) × (m.rows ≡ length x.clauses) × (m.rounds ≡ x.rounds)
unfolding made_of
made_yes (finding x) m e =
    let s = same_finding m (record { rows = length x.clauses; rounds = x.rounds }) e in
    (x, refl, ap (λ (z : Made). z.rows) s, ap (λ (z : Made). z.rounds) s)
made_yes (refused r) m e = absurd (not_finding {r = r} {a = m} (sym e))

rows_length : (N : ℕ) (cw : List ℕ) (rows : ℕ) → ClausesRead N cw → rows ≡ length (clauses_of cw) → width * rows ≡ length cw
unfolding row_count
rows_length N cw rows c e =
    let k : rows ≡ length cw / width = e ∙ clauses_length cw in
    let m = div-add-mod (length cw) width in
    let w = read_whole N cw c in
    ap (λ (z : ℕ). width * z) k ∙ omega arith

rows_taken : (cw zeros buf : List ℕ) (k : ℕ) → k ≡ length cw → buf ≡ cw ++ zeros → (take k buf ≡ cw) × (k ≤ length buf)
rows_taken cw zeros buf k e b =
    (rw (e, b) (take-append_seam cw zeros), (let p = length-append cw zeros in let q = ap length b in omega arith))

found_is : (x : Found) (C : List (List ℕ)) (r : ℕ) → x.clauses ≡ C → x.rounds ≡ r → x ≡ finding_of C r
found_is x C r p q = rw (← p, ← q)

-- the clauses of a finding are read from their words
module _ (img : List ℕ) (n limit words work marks : ℕ) where
  clauses_read :
      (x : Found) → synthesis img n limit words work marks ≡ finding x
      → (read_clauses (get_or img 0 0) (clause_words x.clauses) ≡ finding x.clauses) × (get_or img 0 0 ≤ most_atoms)
  unfolding check ask
  clauses_read x e =
      let f = synthesis_accepted img n limit words work marks x e in
      let t = f.task in
      let r = read_right img t f.read in
      let a : Accepted = record { task = t; clauses = x.clauses } in
      let q1 = bind_of (read_task img) _ a f.accepted in
      let q2 = bind_of (read_clauses q1.0.atoms (clause_words x.clauses)) _ a q1.2 in
      let q3 = bind_of (ask_at 13 0 (leb (mark_bytes q1.0.atoms) marks)) _ a q2.2 in
      let q4 = bind_of (accept q1.0 q2.0) (λ _. finding (record { task = q1.0; clauses = q2.0 })) a q3.2 in
      let s : record { task = q1.0; clauses = q2.0 } ≡ a = same_finding (record { task = q1.0; clauses = q2.0 }) a q4.2 in
      let k = ap (λ (z : Accepted). z.clauses) s in
      let u = ap (λ (z : Accepted). z.task.atoms) s ∙ r.atoms in
      let h = r.few in
      let v = r.atoms in
      (rw (← u) (q2.1 ∙ ap finding k), omega arith)

module _ (img : List ℕ) (n limit : ℕ) (old : List ℕ) (work marks : ℕ) where
  abbrev answer : Answer Found
  answer = synthesis img n limit (length old) work marks

  pub made_refused : (p : paper.Refusal) (buf : List ℕ) → outcome (refused p) buf ≡ synthesis_call img n limit old work marks → answer ≡ refused p
  unfolding synthesis_call outcome
  made_refused p buf e = made_no answer p (ap (λ (o : Outcome Made). o.answer) e)

  -- the rows of a finding in the buffer
  pub record FoundRows (buf : List ℕ) (rows rounds : ℕ) : Type 0 where
    pub answered : answer ≡ finding (finding_of (clauses_of (take (width * rows) buf)) rounds)
    pub read : ClausesRead (get_or img 0 0) (take (width * rows) buf)
    pub room : width * rows ≤ length buf
    pub few : get_or img 0 0 ≤ most_atoms

  pub made_found :
      (rows rounds : ℕ) (buf : List ℕ) → outcome (finding (record { rows = rows; rounds = rounds })) buf ≡ synthesis_call img n limit old work marks
      → FoundRows buf rows rounds
  unfolding synthesis_call buffer_after outcome
  made_found rows rounds buf e =
      let q = made_yes answer (record { rows = rows; rounds = rounds }) (ap (λ (o : Outcome Made). o.answer) e) in
      let x = q.0 in
      let cw = clause_words x.clauses in
      let N = get_or img 0 0 in
      let zeros = replicate {A = ℕ} (length old - length cw) 0 in
      let b : buf ≡ cw ++ zeros = ap (λ (o : Outcome Made). o.lent) e ∙ ap (buffer_after old) q.1 in
      let r = clauses_read img n limit (length old) work marks x q.1 in
      let c = read_of N cw x.clauses r.0 in
      let are = read_are N cw x.clauses r.0 in
      let l = rows_length N cw rows c (q.2 ∙ ap length are) in
      let t = rows_taken cw zeros buf (width * rows) l b in
      record {
        answered = q.1 ∙ ap finding (found_is x (clauses_of (take (width * rows) buf)) rounds (are ∙ ap clauses_of (sym t.0)) (sym q.3));
        read = subst (λ (z : List ℕ). ClausesRead N z) (sym t.0) c;
        room = t.1;
        few = r.1;
      }

-- ---- the card
text_refused : (w : List ℕ) (p : paper.Refusal) → input_answer w ≡ refused p → words_text w ≡ refused_text p
unfolding words_text
text_refused w p e = rw (e, words_text)

text_found : (w : List ℕ) (x : Found) → input_answer w ≡ finding x → words_text w ≡ found_text (get_or w 2 0) x
unfolding words_text
text_found w x e = rw (e, words_text)

module _ (bs : List ℕ) where
  answer_refused : (p : paper.Refusal) → card_answer bs ≡ refused p → card bs ≡ refused_text p
  unfolding card
  answer_refused p e = rw (e, card)

  answer_short : is_input bs ≡ false → card_answer bs ≡ refused (refusal_at 1 0 0)
  unfolding card_answer ask ask_at ◌>>=◌
  answer_short e = rw e

  pub card_short : is_input bs ≡ false → card bs ≡ refused_text (refusal_at 1 0 0)
  card_short e = answer_refused (refusal_at 1 0 0) (answer_short e)

  pub card_words : is_input bs ≡ true → card bs ≡ words_text (words_of bs)
  unfolding card words_text card_answer ask ask_at ◌>>=◌
  card_words e = rw (e, card, card_answer)

-- ---- room for the card
answer_size : (w : List ℕ) (x : Found) → input_answer w ≡ finding x → length (found_text (get_or w 2 0) x) ≤ most_text
answer_size w x e =
    let N = get_or w 2 0 in
    let cw = clause_words x.clauses in
    let r =
    rw (get_or-drop 2 w 0 0) at (clauses_read (drop 2 w) (get_or w 0 0) (get_or w 1 0) (width * most_rows) (width * most_rows)
    (mark_bytes most_atoms) x e) in
    let s = read_size N cw x.rounds (read_of N cw x.clauses r.0) r.1 in
    rw (found_is x (clauses_of cw) x.rounds (read_are N cw x.clauses r.0) refl) s

words_size : (w : List ℕ) → length (words_text w) ≤ most_text
words_size w = go (input_answer w) refl
  where
    go : (a : Answer Found) → input_answer w ≡ a → length (words_text w) ≤ most_text
    go (finding x) e = rw (text_found w x e) (answer_size w x e)
    go (refused r) e = rw (text_refused w r e) (refusal_size r)

card_size : (bs : List ℕ) → length (card bs) ≤ most_text
card_size bs = go (is_input bs) refl
  where
    go : (b : Bool) → is_input bs ≡ b → length (card bs) ≤ most_text
    go true e = rw (card_words bs e) (words_size (words_of bs))
    go false e = rw (card_short bs e) (refusal_size (refusal_at 1 0 0))

-- the card stands at the start of the room, and what is after it stays
pub card_front :
    (bs old new : List ℕ) (end : ℕ) → most_text ≤ length old → Wrote old 0 (card bs) new end
    → (new ≡ card bs ++ drop end old) × (end ≡ length (card bs))
card_front bs old new end room w =
    let s = card_size bs in
    let e : end ≡ length (card bs) = (let n = w.next in omega arith) in
    (rw e (wrote_front (omega arith) w), e)

-- the rows of a finding in the buffer for words with n atoms, and the text
pub record WordsFound (w : List ℕ) (n : ℕ) (buf : List ℕ) (k r : ℕ) : Type 0 where
  pub text : words_text w ≡ found_text n (finding_of (clauses_of (take (width * k) buf)) r)
  pub read : ClausesRead n (take (width * k) buf)
  pub room : width * k ≤ length buf
  pub few : n ≤ most_atoms

same_image : (w : List ℕ) → take (length w - 2) (drop 2 w) ≡ drop 2 w
same_image w = let d = length-drop 2 w in take_all (length w - 2) (drop 2 w) (omega arith)

same_atoms : (w : List ℕ) {n : ℕ} → n ≡ get_or w 2 0 → get_or (take (length w - 2) (drop 2 w)) 0 0 ≡ n
same_atoms w atoms = ap (λ (z : List ℕ). get_or z 0 0) (same_image w) ∙ get_or-drop 2 w 0 0 ∙ sym atoms

-- the words of an input, the number of atoms in them, and the buffers that the synthesis is lent
module _ (w : List ℕ) {old ws ms out : List ℕ} {n : ℕ} (atoms : n ≡ get_or w 2 0) (buffers : Buffers old ws ms out) where
  same_call : input_answer w ≡ synthesis (take (length w - 2) (drop 2 w)) (get_or w 0 0) (get_or w 1 0) (length old) (length ws) (length ms)
  same_call = rw (same_image w, buffers.rows, buffers.work, buffers.marks)

  pub words_refused :
      (p : paper.Refusal) (buf : List ℕ)
      → outcome (refused p) buf
      ≡ synthesis_call (take (length w - 2) (drop 2 w)) (get_or w 0 0) (get_or w 1 0) old (length ws) (length ms)
      → words_text w ≡ refused_text p
  words_refused p buf e =
      text_refused w p (same_call ∙ made_refused (take (length w - 2) (drop 2 w)) (get_or w 0 0) (get_or w 1 0) old (length ws) (length ms) p buf e)

  pub words_found :
      (k r : ℕ) (buf : List ℕ)
      → outcome (finding (record { rows = k; rounds = r })) buf
      ≡ synthesis_call (take (length w - 2) (drop 2 w)) (get_or w 0 0) (get_or w 1 0) old (length ws) (length ms)
      → WordsFound w n buf k r
  words_found k r buf e =
      let f = made_found (take (length w - 2) (drop 2 w)) (get_or w 0 0) (get_or w 1 0) old (length ws) (length ms) k r buf e in
      let x = finding_of (clauses_of (take (width * k) buf)) r in
      let s = same_atoms w atoms in
      let h = f.few in
      record {
        text = text_found w x (same_call ∙ f.answered) ∙ ap (λ (z : ℕ). found_text z x) (sym atoms);
        read = subst (λ (z : ℕ). ClausesRead z (take (width * k) buf)) s f.read;
        room = f.room;
        few = omega arith;
      }

-- ---- the input's bytes
module _ (bs : List ℕ) where
  input_size : is_input bs ≡ true → (4 ≤ length bs) × (length bs ≤ most_input)
  input_size e =
      let l = and_left (leb 4 (length bs) && eqb (length bs % 2) 0) (leb (length bs) most_input) e in (
        leb-true 4 (length bs) (and_left (leb 4 (length bs)) (eqb (length bs % 2) 0) l),
        leb-true (length bs) most_input (and_right (leb 4 (length bs) && eqb (length bs % 2) 0) (leb (length bs) most_input) e),
      )

-- ---- the input's words
words_length : (bs : List ℕ) → length (words_of bs) ≡ length bs / 2
unfolding words_of
words_length [] = refl
words_length (x ∷ []) = refl
words_length (x ∷ (y ∷ bs)) = let h = words_length bs in omega arith

-- the words of an input, written into room for the most
module _ (bs old new : List ℕ) (end : ℕ) (input : is_input bs ≡ true) (size : length old ≡ most_words) (wrote : Wrote old 0 (words_of bs) new end) where
  pub words_inside : (2 ≤ end) × (end ≤ length new)
  words_inside =
      let i = input_size bs input in
      let lo = i.0 in
      let hi = i.1 in
      let l = words_length bs in
      let e = wrote.next in
      let s : length new ≡ length old = ap length wrote.target ∙ length-sets old 0 (words_of bs) in
      (omega arith, omega arith)

  pub words_taken : take end new ≡ words_of bs
  words_taken =
      let i = input_size bs input in
      let hi = i.1 in
      let l = words_length bs in
      let e : end ≡ length (words_of bs) = (let n = wrote.next in omega arith) in
      let f = wrote_front (omega arith) wrote in
      rw (e, f) (take-append_seam (words_of bs) (drop (length (words_of bs)) old))
