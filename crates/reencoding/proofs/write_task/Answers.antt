-- The lengths of the parts give the size of the image; the image is written if it fits.
use Rattle.std.proofs.Common.{◌∙◌, ap, sym, refl, length, arith}
use lib.Seq.{length-take-le}
use borrow.Author.Tests.{leb-true}
use Rattle.definitions.specs.Answer.{ask}
use Rattle.answer.proofs.Laws.{left_unwritten, asked_yes}
use Rattle.task.proofs.BlockSizes.{task_sizes}
use Rattle.writing.specs.Directory.{size_of}
use Rattle.reencoding.proofs.PartLaws.{lengths_few, lengths_taken, lengths_inside}
use Rattle.reencoding.proofs.ImageLaws.{laid, image_length, encode_not, encode_done}
use Rattle.reencoding.proofs.write_task.Goals as goal

pub lengths-used-requires : goal.lengths-used-requires
lengths-used-requires c =
    let g = c.cover-count.ensures in
    (c.requires.0, omega (arith, g.few, g.grouped.few, c.atoms-atoms.ensures.0), omega (arith, (task_sizes _ c.requires.0).most_operators_lem))

pub slice_bounds-room-end : goal.slice_bounds-room-end
slice_bounds-room-end c = lengths_inside _ c.requires.0 _ refl c.lengths-used.ensures

pub slice_bounds-lengths-end-2 : goal.slice_bounds-lengths-end-2
slice_bounds-lengths-end-2 c =
    sym (length-take-le _ c.lengths-used.new.lengths (lengths_inside _ c.requires.0 _ refl c.lengths-used.ensures))

pub size-words-requires : goal.size-words-requires
size-words-requires c =
    let few = lengths_few _ c.requires.0 c.cover-count.result in
    let e = ap length (lengths_taken _ c.requires.0 _ refl c.lengths-used.ensures) in
    omega arith

pub returns-in_err-ask : goal.returns-in_err-ask
returns-in_err-ask c =
    let covers = rw c.atoms-atoms.ensures.0 at c.cover-count.ensures in
    let size = c.size-words.ensures ∙ ap size_of (lengths_taken _ c.requires.0 _ refl c.lengths-used.ensures) in
    left_unwritten _ _ _ _ c.from_residual.ensures.1 (encode_not _ c.requires.0 _ _ _ _ _ covers _ _ size _ c.in_err-ask.ensures)

pub write_image-requires : goal.write_image-requires
unfolding ask
write_image-requires c =
    let covers = rw c.atoms-atoms.ensures.0 at c.cover-count.ensures in
    let lengths = lengths_taken _ c.requires.0 _ refl c.lengths-used.ensures in
    let room = leb-true _ _ (asked_yes _ _ _ _ c.in_ok-ask.ensures) in (
      c.requires.0,
      record { laid = laid _ c.requires.0 _ _ _ _ _ covers; lengths = lengths },
      omega (arith, image_length _ c.requires.0 _ _ _ _ _ covers, c.size-words.ensures, ap size_of lengths),
    )

pub returns : goal.returns
unfolding ask
returns c =
    let covers = rw c.atoms-atoms.ensures.0 at c.cover-count.ensures in
    let size = c.size-words.ensures ∙ ap size_of (lengths_taken _ c.requires.0 _ refl c.lengths-used.ensures) in
    encode_done _ c.requires.0 _ _ _ _ _ covers _ _ size (leb-true _ _ (asked_yes _ _ _ _ c.in_ok-ask.ensures)) _ _ c.write_image.ensures
