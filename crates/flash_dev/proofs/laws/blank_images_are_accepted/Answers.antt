use Rattle.flash_dev.proofs.Blanks.{blank_accepted}
use Rattle.flash_dev.proofs.laws.blank_images_are_accepted.Goals as goal

pub returns : goal.returns
returns c = blank_accepted
