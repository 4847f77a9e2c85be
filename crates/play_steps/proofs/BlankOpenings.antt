-- The blank image is refused by no opening.
use Rattle.std.proofs.Common.{◌≡◌, ◌≢◌, ◌⊎◌, inl, inr, None, take, ap, ap₂, ◌∙◌, lit≤}
use Rattle.std.proofs.lemmas.List.{take-take}
use Rattle.std.specs.Prelude.{Err, ◌==◌, length, if◌then◌else◌}
use Rattle.flash_dev.proofs.Blanks.{blank_accepted}
use Rattle.flash_dev.specs.Blank.{blank_image}
use Rattle.flash_dev.specs.declared.image_fault.ImageFault.{ImageFault}
use Rattle.flash_dev.specs.declared.image_fault.ImageFault.TheVariants.{ImageSize}
use Rattle.flash_dev.specs.Geometry.{geometry_of, image_geometry}
use Rattle.ftw_mount.specs.Mount.{content_geometry}
use Rattle.image_make.proofs.BlankImages.{spare_is}
use Rattle.nv_store.specs.declared.load_fault.LoadWhy.{LoadWhy}
use Rattle.nv_store.specs.declared.load_fault.LoadWhy.TheVariants.{Image, ForeignWork, Device, OutOfMemory}
use Rattle.nv_store.specs.Opening.{refusal_by, refusal_of}
use Rattle.var_types.proofs.Parts.{blank_content}
use Rattle.var_types.specs.Kept.{content, volume, work_area}
use Rattle.var_types.specs.WorkArea.{work_state}

-- its headers are those of what it keeps
same_headers : take 100 (content blank_image) ≡ take 100 blank_image
unfolding volume
same_headers = ap (take 100) (blank_content blank_image spare_is) ∙ take-take 100 57344 blank_image (lit≤ tt)

same_geometry : content_geometry blank_image ≡ image_geometry blank_image
unfolding content_geometry image_geometry
same_geometry =
    ap (λ headers. if length blank_image == 131072 then geometry_of headers else Err (ImageSize (length blank_image) 131072)) same_headers

-- an opening accepts it
pub blank_opens : refusal_of blank_image ≡ None
unfolding refusal_of
blank_opens =
    ap₂ (λ geometry blank. refusal_by geometry blank (work_state (work_area blank_image))) (same_geometry ∙ blank_accepted) spare_is

-- a refusal for what stands in an image is none for want of memory
pub not_memory : (why : LoadWhy) → ((fault : ImageFault) × (why ≡ Image fault)) ⊎ ((why ≡ ForeignWork) ⊎ (why ≡ Device)) → why ≢ OutOfMemory
not_memory (Image fault) is e = cc
not_memory ForeignWork is e = cc
not_memory Device is e = cc
not_memory OutOfMemory (inl image) e = let other : OutOfMemory ≡ Image image.0 = image.1 in cc
not_memory OutOfMemory (inr (inl foreign)) e = cc
not_memory OutOfMemory (inr (inr device)) e = cc
