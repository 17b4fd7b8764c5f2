-- `dimacs_form::header::is_headed`: five bytes, and a blank.
use Rattle.std.proofs.Common.{List, ℕ, ◌≡◌, ◌-◌, sym, ◌∙◌, ap, length, take, drop, length-drop, arith}
use borrow.Author.Tests.{leb-true}
use lib.Seq.{take_all, get_or-drop}
use Rattle.definitions.specs.Dimacs.{blank}
use Rattle.dimacs_form.proofs.FormLaws.{short_head, not_headed, headed_blank}
use Rattle.dimacs_form.proofs.header.is_headed.Goals as goal
use Rattle.dimacs_form.proofs.header.is_headed.Goals.{then-text-at-ge6, else-text-at-ge6}

-- the bytes from a place on are all that is left there
whole : (text : List ℕ) (at : ℕ) → take (length text - at) (drop at text) ≡ drop at text
whole text at = take_all (length text - at) (drop at text) (omega (arith, length-drop at text))

pub returns-then-is_head : goal.returns-then-is_head
returns-then-is_head c =
    let text = c.args.text.now in
    let at = c.args.at in
    elim c.if-text-at-ge6.branch [
      | then-text-at-ge6 w ↦
          c.is_blank.ensures ∙ ap blank (sym (get_or-drop at text 5 0))
          ∙ sym (headed_blank (drop at text) (rw (whole text at) at (sym w.is_head.ensures ∙ sym w.value-is ∙ c.if-is_head.true)))
      | else-text-at-ge6 w ↦ absurd (omega (arith, leb-true 6 (length text - at) (sym w.value-is ∙ c.if-is_head.true)))
    ]

pub returns-else-is_head : goal.returns-else-is_head
returns-else-is_head c =
    let text = c.args.text.now in
    let at = c.args.at in
    elim c.if-text-at-ge6.branch [
      | then-text-at-ge6 w ↦
          c.if-is_head.false
          ∙ sym (not_headed (drop at text) (rw (whole text at) at (sym w.is_head.ensures ∙ sym w.value-is ∙ c.if-is_head.false)))
      | else-text-at-ge6 w ↦ c.if-is_head.false ∙ sym (short_head (drop at text) (omega (arith, length-drop at text)))
    ]
