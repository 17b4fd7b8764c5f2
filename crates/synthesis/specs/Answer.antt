-- The definitions' answer of a synthesis: its numbers of rows and rounds, or the refusal. Assumes nothing.
use Rattle.std.specs.Prelude.{Result, Ok, Err}
use Rattle.definitions.specs.Answer.{Answer, finding, refused}
use Rattle.definitions.specs.Synthesis.{Made}
use Rattle.answer.specs.Answer.{placed}
use Rattle.answer.specs.declared.Refusal.{Refusal}
use Rattle.synthesis.specs.declared.Found.{Found}

abbrev pub synthesis_answer : Result Found Refusal → Answer Made
synthesis_answer (Ok x) = finding (record { rows = x.rows; rounds = x.rounds })
synthesis_answer (Err f) = refused (placed f)
