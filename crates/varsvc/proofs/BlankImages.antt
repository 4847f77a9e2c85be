-- The census of a blank image.
use Rattle.std.proofs.Common.{◌≡◌, refl}
use Rattle.flash_dev.specs.Blank.{blank_image}
use Rattle.image_make.proofs.BlankImages.{region_is_empty}
use Rattle.var_types.specs.Census.{census_of, count_of}
use Rattle.var_types.specs.Kept.{content_region}
use Rattle.varsvc.specs.Images.{nothing}

-- it is that of nothing
pub census-blank_image : census_of (content_region blank_image) ≡ nothing
unfolding census_of count_of
census-blank_image = rw (region_is_empty.no_records, region_is_empty.no_variables, region_is_empty.clean) refl
