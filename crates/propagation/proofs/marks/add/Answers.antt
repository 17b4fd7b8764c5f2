-- `propagation::marks::add`: the literal's bit is set where it was not.
use mathlib.Core.Path.{sym, ◌∙◌}
use Rattle.definitions.proofs.MarkBits.{set_mark, mark_length, mark_here, mark_others}
use Rattle.propagation.proofs.marks.add.Goals as goal

pub returns : goal.returns
returns c =
    let ms = c.args.marks.now in
    let l = c.args.l in
    rw (set_mark ms l c.requires)
    (record {
      same_length = mark_length ms l c.requires;
      was_not = sym c.is_marked.ensures ∙ c.if-is_marked.false;
      here = mark_here ms l c.requires;
      others = mark_others ms l c.requires;
    })
