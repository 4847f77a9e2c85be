use Rattle.std.proofs.Common.{ℕ, List, ◌++◌, replicate, ap, ◌∙◌}
use Rattle.std.proofs.lemmas.Result.{IfOk-weaker}
use Rattle.flash_dev.specs.Blank.{blank_image}
use Rattle.image_make.proofs.blank.blank_bytes.Goals as goal

pub returns : goal.returns
unfolding blank_image
returns c =
    IfOk-weaker c.image_with.result _ _
    (λ image is. is ∙ ap (λ (headers : List ℕ). headers ++ replicate 130972 255) c.blank_headers.ensures) c.image_with.ensures
