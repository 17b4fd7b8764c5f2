-- `fdr_image::atom::are_new`: the test of all ranks is the test of those that are left, with the marks made so far.
use Rattle.std.proofs.Common.{◌≡◌, drop}
use Rattle.fdr_image.specs.Walk.{no_marks, all_new, ranks_in}
use Rattle.fdr_image.proofs.atom.are_new.Given as goal

abbrev pub invariant-loop-i : goal.invariant-loop-i
invariant-loop-i l = all_new no_marks (ranks_in l.starts l.atoms) ≡ all_new l.marks (drop l.i (ranks_in l.starts l.atoms))
