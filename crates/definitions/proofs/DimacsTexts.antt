-- What is written is read again; what is read passes questions 8 and 9, and is the clauses of the text. Assumes nothing.
use Prim.Native.Nat.{ℕ}
use mathlib.Core.List.{List, map, Memᴰ}
use mathlib.Core.Path.{◌≡◌, sym, ◌∙◌, subst}
use Rattle.definitions.specs.Answer.{finding}
use Rattle.definitions.specs.Image.{Task}
use Rattle.definitions.specs.Clauses.{read_clauses}
use Rattle.definitions.specs.Dimacs.{clauses_in, sorted, distinct}
use Rattle.definitions.specs.DimacsTexts.{WrittenReadAgain, FoundPasses, RowsOfText, DimacsTexts}
use Rattle.definitions.proofs.ListLaws.{map_in}
use Rattle.definitions.proofs.AnswerLaws.{same_finding}
use Rattle.definitions.proofs.ReadLaws.{read_right}
use Rattle.definitions.proofs.DimacsRight.{clauses_low, distinct_of, distinct_in, text_found}
use Rattle.definitions.proofs.DimacsBack.{write_read}

written_read_again : WrittenReadAgain
unfolding WrittenReadAgain
written_read_again w c bytes words x e h = write_read w c bytes words x e h

found_passes : FoundPasses
unfolding FoundPasses
found_passes w text words x t e read =
    let f = text_found w text words x e in
    let same = same_finding f.task t (sym f.read ∙ read) in
    (subst (λ (u : Task). read_clauses u.atoms x.words ≡ finding (distinct (clauses_in text))) same f.passes, f.rows)

rows_of_text : RowsOfText
unfolding RowsOfText
rows_of_text w text words x e f =
    let t = text_found w text words x e in
    let N = t.task.atoms in
    (distinct_from (clauses_in text), distinct_in N (clauses_in text) (read_right w t.task t.read).few (clauses_low N text t.form) t.fit)
  where
    distinct_from : (D : List (List ℕ)) → Memᴰ f (distinct D) → Memᴰ f (map sorted D)
    distinct_from D m = let o = distinct_of D m in subst (λ (z : List ℕ). Memᴰ z (map sorted D)) (sym o.same) (map_in sorted o.mem)

pub dimacs_texts : DimacsTexts
dimacs_texts = record { again = written_read_again; passes = found_passes; rows = rows_of_text }
