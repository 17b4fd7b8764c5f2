-- The definitions' answer of each answer of the code: what it found, or its question's number and places. Assumes nothing.
use Rattle.std.specs.Prelude.{ℕ, Bool, Result, Ok, Err}
use Rattle.definitions.specs.Answer as paper
use Rattle.definitions.specs.Answer.{Answer, finding, refused}
use Rattle.answer.specs.declared.Refusal.{Refusal}
use Rattle.answer.specs.Question.{number_of}

abbrev pub refusal_at : ℕ → ℕ → ℕ → paper.Refusal
refusal_at q i j = record { number = q; first = i; second = j }

abbrev pub placed : Refusal → paper.Refusal
placed f = refusal_at (number_of f.question) f.first f.second

abbrev pub answer_of : {A : Type 0} → Result A Refusal → Answer A
answer_of (Ok a) = finding a
answer_of (Err f) = refused (placed f)

-- of a call whose finding holds nothing
abbrev pub verdict_answer : Result (Unit {0}) Refusal → Answer (Unit {0})
verdict_answer = answer_of

-- of a test: whether something holds
abbrev pub test_answer : Result Bool Refusal → Answer Bool
test_answer = answer_of

-- of a call whose finding is a number: steps, variables or words
abbrev pub count_answer : Result ℕ Refusal → Answer ℕ
count_answer = answer_of
