-- `dimacs_form::are_clauses`: by the words that are left, and what each says of the clauses.
use Rattle.std.proofs.Common.{◌<◌, sym, ◌∙◌, ap, eqb, drop, arith}
use borrow.Author.Tests.{eq-eqb, ne_eqb}
use Rattle.definitions.specs.Dimacs.{tokens}
use Rattle.dimacs_form.specs.Walk.{tail_from}
use Rattle.dimacs_form.specs.Numbers.{most_size}
use Rattle.dimacs_form.proofs.FormLaws.{held_count, one_most, tail_over, tail_other, tail_above, tail_next}
use Rattle.dimacs_form.proofs.are_clauses.Goals as goal

pub returns-in_default : goal.returns-in_default
returns-in_default c =
    let l = c.loop-at in
    let s = c.args in
    λ k e. sym (l.invariant.rest k e ∙ tail_other s.text.now l.at s.atoms k l.clauses l.ended c.in_default.ensures)

pub returns-then-atoms-n : goal.returns-then-atoms-n
returns-then-atoms-n c =
    let l = c.loop-at in
    let s = c.args in
    λ k e. sym (l.invariant.rest k e ∙ tail_above s.text.now l.at s.atoms k l.clauses l.ended c.in-Some.n c.in-Some.ensures c.if-atoms-n.true)

pub loop-at-preserved : goal.loop-at-preserved
loop-at-preserved c =
    let l = c.loop-at in
    let s = c.args in
    let x = c.in-Some.n in
    let is = c.in-Some.ensures in
    let later = is.later in
    let one = one_most (eqb x.size 0) l.clauses in
    record {
      place = is.place;
      few = omega (arith, c.one_more-clauses.ensures, l.invariant.few);
      rest = λ k e.
          l.invariant.rest k e
          ∙ tail_next s.text.now l.at s.atoms k l.clauses l.ended x is c.requires.2 c.if-atoms-n.false
          ∙ ap (λ y. tail_from s.atoms k y (eqb x.size 0) (tokens (drop x.next s.text.now))) (sym c.one_more-clauses.ensures);
    }

pub returns-then-count-clauses : goal.returns-then-count-clauses
returns-then-count-clauses c =
    let l = c.loop-at in
    let s = c.args in
    let few : l.clauses < most_size = omega (arith, l.invariant.place.inside, l.invariant.few) in
    λ k e.
    sym
    (l.invariant.rest k e ∙ tail_over s.text.now l.at s.atoms k l.clauses l.ended c.loop-at-test.false
    ∙ rw (sym (held_count s.count k l.clauses e few), eq-eqb s.count l.clauses c.if-count-clauses.true))

pub returns-else-count-clauses : goal.returns-else-count-clauses
returns-else-count-clauses c =
    let l = c.loop-at in
    let s = c.args in
    let few : l.clauses < most_size = omega (arith, l.invariant.place.inside, l.invariant.few) in
    λ k e.
    sym
    (l.invariant.rest k e ∙ tail_over s.text.now l.at s.atoms k l.clauses l.ended c.loop-at-test.false
    ∙ rw (sym (held_count s.count k l.clauses e few), ne_eqb s.count l.clauses c.if-count-clauses.false))
