-- `propagation::marks::count`: the ones of one byte more.
use Prim.Native.Nat.{ℕ, ◌+◌, ◌/◌, ◌<◌}
use mathlib.Core.Path.{◌≡◌, sym, ◌∙◌, ap}
use native.Mathlib.Omega.{arith}
use lib.Count.{ones}
use lib.ListN.{get_or}
use lib.Seq.{length-take-le, get_or-take}
use Rattle.definitions.specs.Marks.{mark_bytes}
use Rattle.definitions.proofs.MarkBits.{ones_byte, count_none, count_byte}
use Rattle.propagation.proofs.marks.count.Goals as goal

pub slice_bounds-byte-items-end : goal.slice_bounds-byte-items-end
unfolding mark_bytes
slice_bounds-byte-items-end c = sym (length-take-le _ _ (omega arith))

pub loop-byte-init : goal.loop-byte-init
loop-byte-init c = (omega arith, sym (count_none _))

pub loop-byte-preserved : goal.loop-byte-preserved
unfolding mark_bytes
loop-byte-preserved c =
    let l = c.loop-byte in
    let a = c.args in
    let size = length-take-le (a.atoms / 4) a.marks.now (omega arith) in
    let here = get_or-take (a.atoms / 4) a.marks.now l.byte-index 0 (omega arith) in
    let low : get_or a.marks.now l.byte-index 0 < 256 = (c.type_inv.marks l.byte-index).fits in
    rw here (
      let few = ones_byte _ low in omega arith,
      ap (λ (x : ℕ). x + ones (get_or a.marks.now l.byte-index 0)) l.invariant.1 ∙ sym (count_byte _ _ low),
    )

pub returns : goal.returns
unfolding mark_bytes
returns c =
    let l = c.loop-byte in
    let a = c.args in
    let size = length-take-le (a.atoms / 4) a.marks.now (omega arith) in
    let whole : l.byte-index ≡ a.atoms / 4 = omega arith in
    ap (λ (x : ℕ). x + c.count_last.result) (rw whole at l.invariant.1) ∙ c.count_last.ensures.1
