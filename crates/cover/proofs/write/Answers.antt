-- `cover::write`: the domains part, then the atoms part.
use Rattle.std.proofs.Common.{arith}
use Rattle.definitions.specs.Lists.{below}
use Rattle.writing.proofs.Writes.{wrote_both, wrote_size}
use Rattle.cover.specs.Domains.{cover_words}
use Rattle.cover.proofs.DomainLaws.{domains_size, cover_length}
use Rattle.cover.proofs.write.Goals as goal

pub domains-to-requires : goal.domains-to-requires
domains-to-requires c =
    let a = c.args in
    (c.requires.0, omega (arith, c.requires.1, cover_length a.places.now a.sizes.now a.none.now a.count))

pub words-requires : goal.words-requires
unfolding below
words-requires c =
    let a = c.args in
    let size = wrote_size c.domains-to.ensures in
    omega (arith, c.requires.1, cover_length a.places.now a.sizes.now a.none.now a.count, domains_size a.sizes.now a.none.now 0 a.count)

pub returns : goal.returns
unfolding cover_words
returns c = wrote_both c.domains-to.ensures c.words.ensures
