-- The target has room for every image, so that the re-encoding is not refused; the part written is the image.
use Rattle.std.proofs.Common.{◌∙◌, List, ℕ, sym, ap, subst}
use lib.Seq.{length-take-le}
use Rattle.definitions.specs.Answer.{finding}
use Rattle.fdr_image.specs.Reads.{ReadsFdr}
use Rattle.agreement.specs.Compared.{images_same}
use Rattle.agreement.proofs.Demanded.{encoded_fdr, image_refused, image_fits, image_is, comparison_is}
use Rattle.agreement.proofs.compare_accepted.Goals as goal

pub slice_bounds-compare_images-end : goal.slice_bounds-compare_images-end
slice_bounds-compare_images-end c = image_fits _ _ _ c.requires.0 _ _ c.requires.1 _ c.in-Ok.ensures

pub slice_bounds-compare_images-end-in-Ok : goal.slice_bounds-compare_images-end-in-Ok
slice_bounds-compare_images-end-in-Ok c = sym (length-take-le _ _ (image_fits _ _ _ c.requires.0 _ _ c.requires.1 _ c.in-Ok.ensures))

pub compare_images-requires : goal.compare_images-requires
compare_images-requires c = record {
  task = c.requires.0.reads;
  fdr = subst ReadsFdr (sym (image_is _ _ _ c.requires.0 _ _ c.requires.1 _ c.in-Ok.ensures)) (encoded_fdr _ _ _ c.requires.0);
}

pub returns-in-Ok : goal.returns-in-Ok
returns-in-Ok c =
    let a = c.args in
    ap finding
    (c.compare_images.ensures
    ∙ ap (λ (x : List ℕ). images_same a.image.now x a.clauses.now a.list.now) (image_is _ _ _ c.requires.0 _ _ c.requires.1 _ c.in-Ok.ensures))
    ∙ comparison_is _ _ _ c.requires.0 _

pub returns-in-Err : goal.returns-in-Err
returns-in-Err c = absurd (image_refused _ _ _ c.requires.0 _ _ c.requires.1 _ c.in-Err.ensures)
