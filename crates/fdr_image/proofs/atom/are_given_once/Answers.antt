-- `fdr_image::atom::are_given_once`: as many values as atoms, and no rank twice (proofs/Ranks.antt).
use Rattle.std.proofs.Common.{arith, ◌≡◌, ℕ, ◌/◌, Bool, true, List, length, sym, ◌∙◌}
use borrow.Author.Tests.{eqb-true, eqb-false}
use Rattle.definitions.specs.FdrImage.{domains_in, places_in}
use Rattle.definitions.specs.Groups.{Domain}
use Rattle.fdr_image.specs.Post.{Started}
use Rattle.fdr_image.specs.Walk.{values_before}
use Rattle.fdr_image.proofs.Pairs.{places_length}
use Rattle.fdr_image.proofs.Ranks.{given_unlike, starts_given, starts_ranked}
use Rattle.fdr_image.proofs.atom.are_given_once.Goals as goal

pub put_starts-requires : goal.put_starts-requires
put_starts-requires c =
    record {
      variables = c.requires.variables;
      size = c.values-starts.ensures;
      few = omega (arith, c.requires.atoms, places_length c.args.atoms.now);
    }

-- there are as many values as atoms
full : (D : List Domain) (a s : List ℕ) (r : Bool) → Started D (length a / 2) s r → r ≡ true → values_before D (length D) ≡ length (places_in a)
full D a s r h e = eqb-true _ _ (sym h.all_values ∙ e) ∙ sym (places_length a)

pub are_new-requires : goal.are_new-requires
are_new-requires c =
    starts_ranked (domains_in c.args.domains.now) _ (c.put_starts.ensures.begin c.if-put_starts.true) c.args.atoms.now c.requires
    (full _ _ _ _ c.put_starts.ensures c.if-put_starts.true) (c.put_starts.auto.starts ∙ c.values-starts.ensures)

pub returns-then-put_starts : goal.returns-then-put_starts
returns-then-put_starts c =
    c.are_new.ensures
    ∙ starts_given (domains_in c.args.domains.now) c.put_starts.new.starts (c.put_starts.ensures.begin c.if-put_starts.true) c.args.atoms.now c.requires
    (full _ _ _ _ c.put_starts.ensures c.if-put_starts.true)

pub returns-else-put_starts : goal.returns-else-put_starts
returns-else-put_starts c =
    c.if-put_starts.false
    ∙ given_unlike (domains_in c.args.domains.now) (places_in c.args.atoms.now) c.requires
    (λ e. eqb-false _ _ (sym c.put_starts.ensures.all_values ∙ c.if-put_starts.false) (e ∙ places_length c.args.atoms.now))
