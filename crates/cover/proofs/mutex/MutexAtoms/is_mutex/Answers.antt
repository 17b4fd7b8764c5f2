-- `MutexAtoms::is_mutex`: a mark decides, else the clause of both negative literals.
use Rattle.std.proofs.Common.{◌∙◌, sym}
use borrow.Author.Tests.{eqb-true, eqb-false}
use Rattle.cover.proofs.Lookups.{mutex_first, mutex_second, mutex_two}
use Rattle.cover.proofs.mutex.MutexAtoms.is_mutex.Goals as goal
use Rattle.cover.proofs.mutex.MutexAtoms.is_mutex.Goals.{then-self-a-eq1, else-self-a-eq1}

pub returns-then-self-b-eq1 : goal.returns-then-self-b-eq1
returns-then-self-b-eq1 c =
    let marks = c.args.self.now.known.marks in
    elim c.if-self-a-eq1.branch [
      | then-self-a-eq1 w ↦ c.if-self-b-eq1.true ∙ mutex_first _ _ marks _ _ c.requires.0 c.requires.1 w.if-self-a-eq1.true
      | else-self-a-eq1 w ↦ c.if-self-b-eq1.true ∙ mutex_second _ _ marks _ _ c.requires.0 c.requires.1 (eqb-true _ _ (sym w.value-is ∙ c.if-self-b-eq1.true))
    ]

pub returns-else-self-b-eq1 : goal.returns-else-self-b-eq1
returns-else-self-b-eq1 c =
    let marks = c.args.self.now.known.marks in
    elim c.if-self-a-eq1.branch [
      | then-self-a-eq1 w ↦ absurd (eqb-false _ _ (sym w.value-is ∙ c.if-self-b-eq1.false) w.if-self-a-eq1.true)
      | else-self-a-eq1 w ↦
          mutex_two _ _ marks _ _ c.requires.0 c.requires.1 w.if-self-a-eq1.false (eqb-false _ _ (sym w.value-is ∙ c.if-self-b-eq1.false)) _ _ _
          c.negative.ensures c.negative-else-self-b-eq1.ensures c.has_two.ensures
    ]
