use Rattle.image_make.proofs.BlankImages.{kept-blank_image}
use Rattle.varsvc.proofs.BlankImages.{census-blank_image}
use Rattle.varsvc.proofs.laws.blank_images_keep_nothing.Goals as goal

pub returns-clause-variables : goal.returns-clause-variables
returns-clause-variables c = kept-blank_image

pub returns-clause-census : goal.returns-clause-census
returns-clause-census c = census-blank_image
