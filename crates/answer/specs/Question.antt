-- The number of each question of the code in documents 01 and 02. Assumes nothing.
use Rattle.std.specs.Prelude.{ℕ}
use Rattle.answer.specs.declared.Question.{Question}
use Rattle.answer.specs.declared.Question.TheVariants as question

abbrev pub number_of : Question → ℕ
number_of question.ImageSize = 1
number_of question.Counts = 2
number_of question.Directory = 3
number_of question.Initial = 4
number_of question.Goal = 5
number_of question.BlockCounts = 6
number_of question.BlockLiterals = 7
number_of question.ClauseWords = 8
number_of question.ClauseRow = 9
number_of question.ClauseFalse = 10
number_of question.ClauseNotKept = 11
number_of question.Limits = 12
number_of question.Buffers = 13
number_of question.OutOfRows = 14
number_of question.OutOfRounds = 15
number_of question.Target = 16
number_of question.FdrImage = 17
number_of question.State = 18
number_of question.OperatorNumber = 19
number_of question.Precondition = 20
number_of question.Conflict = 21
number_of question.OmittedNone = 22
number_of question.NotCodable = 23
number_of question.TextForm = 24
number_of question.TextClause = 25
number_of question.TextRoom = 26
number_of question.JoinRoom = 27
number_of question.Ticket = 28
