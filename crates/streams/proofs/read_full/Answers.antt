use Rattle.std.proofs.Common.{rules, ◌≡◌, ◌≤◌, length, take, ℕ, ◌+◌, ◌-◌, List, ◌++◌, sym, ap, ◌∙◌, subst, le_refl, drop_at, length-take-le}
use Rattle.std.proofs.lemmas.Slice.{take-put_mid_below}
use Rattle.std.proofs.KnownBytes.{Consumes-trans}
use Rattle.std.specs.Io.KnownBytes.{Consumes}
use borrow.Rule.Slice.PartMut.{put_mid, post_of}
use lib.Seq.{take-add, take-append-le}
use Rattle.streams.proofs.read_full.Goals as goal

-- where the end of a list from place a on was written: what stands before it, and n values of what was written
take_written : (a k n : ℕ) (xs ys : List ℕ) → a ≤ length xs → n ≤ length ys → take (a + n) (put_mid a k xs ys) ≡ take a xs ++ take n ys
take_written a k n xs ys within fits =
    let after = post_of a k xs in
    let front = take-put_mid_below a k xs ys a (le_refl a) within in
    let part = ap (take n) (drop_at (take a xs) (ys ++ after) a (length-take-le a xs within)) ∙ take-append-le n ys after fits in
    take-add a n (put_mid a k xs ys) ∙ rw (front, part)

pub loop-done-preserved : goal.loop-done-preserved
loop-done-preserved g c =
    let got = c.in_ok-got.ensures in
    let joined =
    take_written c.loop-done.done (length c.loop-done.buf - c.loop-done.done) c.in_ok-got.got c.loop-done.buf c.read.new.buf
    c.loop-done.invariant.0 got.bound.0 in
    (search rules, subst (Consumes _ _) (sym joined) (Consumes-trans _ _ _ _ _ c.loop-done.invariant.1 got.bytes.0))
