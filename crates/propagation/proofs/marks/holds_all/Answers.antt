-- `propagation::marks::holds_all`: the closure looks one literal up.
use Rattle.std.proofs.Common.{◌≡◌, true, false, ◌*◌, ◌<◌, rules, tests}
use Rattle.std.proofs.lemmas.Iterator.{YieldsList-from_slice, cases_from_all}
use Rattle.definitions.specs.Closure.{has}
use Rattle.propagation.proofs.MarkedSets.{all_marked}
use Rattle.propagation.proofs.marks.holds_all.Goals as goal

pub returns : goal.returns
returns c = λ N S m low.
    all_marked N S c.args.literals.now c.all.result low
    (cases_from_all _ _ _ (λ l. l < 2 * N → has S l ≡ true) (λ l. l < 2 * N → has S l ≡ false) c.all.ensures.ran
    (YieldsList-from_slice c.args.literals.now cc) (λ x q k. search (rules, tests)) (λ x q k. search (rules, tests)))
