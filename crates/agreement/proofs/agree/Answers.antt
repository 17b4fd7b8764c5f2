-- A refusal is the checker's; for an accepted set the comparison passes.
use Rattle.std.proofs.Common.{◌∙◌, ℕ, sym, ap, subst}
use Rattle.checker.specs.Accepts.{Accepts}
use Rattle.checker.proofs.Accepting.{accepted}
use Rattle.answer.proofs.Laws.{left_by}
use Rattle.agreement.specs.Compared.{comparison}
use Rattle.agreement.proofs.Comparing.{comparison_refused, demanded_refused}
use Rattle.agreement.proofs.Demanded.{comparison_passes}
use Rattle.agreement.proofs.agree.Goals as goal

pub returns-in_err-accept : goal.returns-in_err-accept
returns-in_err-accept c =
    let same = left_by _ _ c.from_residual.ensures.1 in
    record {
      compared = same ∙ comparison_refused _ _ _ _ _ c.in_err-accept.ensures;
      demand = same ∙ demanded_refused _ _ _ c.args.list.now _ c.in_err-accept.ensures;
    }

pub compare_accepted-requires : goal.compare_accepted-requires
compare_accepted-requires c =
    let a = c.args in
    (subst (Accepts a.image.now a.clauses.now) (sym c.accept.auto.marks) (accepted _ _ _ c.in_ok-accept.ensures), c.image_room-room.ensures)

pub returns : goal.returns
returns c =
    let a = c.args in
    let h = c.compare_accepted.ensures ∙ ap (λ (k : ℕ). comparison a.image.now a.clauses.now k a.list.now) c.accept.auto.marks in
    record { compared = h; demand = h ∙ comparison_passes _ _ _ (accepted _ _ _ c.in_ok-accept.ensures) _ }
