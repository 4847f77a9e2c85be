-- What is printed of an image alone.
use Rattle.std.specs.Prelude.{◌≡◌, ◌≢◌, ◌⊎◌, ℕ, List, [], length, Option, Err, IsErr, IsOk, IfSome, IsSomeAnd, true}
use Rattle.flash_dev.specs.declared.image_fault.ImageFault.{ImageFault}
use Rattle.flash_dev.specs.declared.image_fault.ImageFault.TheVariants.{Device, ImageSize}
use Rattle.ftw_mount.specs.declared.kept.Kept.{Kept}
use Rattle.ftw_mount.specs.Mount.{Describes, content_geometry}
use Rattle.policy_audit.specs.Audit.{audit_text}
use Rattle.report_text.specs.Check.{check_text, facts_of}
use Rattle.report_text.specs.Listing.{listing_text}
use Rattle.var_types.specs.Census.{Census}
use Rattle.var_types.specs.Kept.{IsForeign, IsSound, content, content_region, kept, spare, work_area}
use Rattle.var_types.specs.Layout.{image_size}
use Rattle.var_types.specs.WorkArea.{is_blank, work_state}
use Rattle.varsvc.specs.declared.image.inspection.Inspection.{Inspection}
use Rattle.varsvc.specs.declared.image.inspection.Inspection.TheVariants as inspection
use Rattle.varsvc.specs.FaultLines.{foreign_line, image_line}

-- what was read of an image of the right length: which part of it counts, and the bytes of that
pub record IsRead (kept : Kept) (bytes image : List ℕ) : Type 0 where
  pub whole : length image ≡ image_size
  pub describes : Describes kept image
  pub is_content : bytes ≡ content image

-- what is printed of what an image keeps: the listing of its variables, the check report of its content, its work area and its spare, or the
-- audit of its variables by policies (this project's own)
abbrev pub inspected : Inspection → List ℕ → List ℕ
inspected inspection.Listing image = listing_text (kept image)
inspected (inspection.Audit policies) image = audit_text policies.now (kept image)
inspected inspection.Check image = check_text (facts_of (content_region image) (work_state (work_area image)) (is_blank (spare image)))

-- this is what is printed of what the image that is told keeps, which is accepted, is no foreign work and has an image's length
pub record Inspects (what : Inspection) (image : Option (List ℕ)) (size : ℕ) (text : List ℕ) : Type 0 where
  pub length : size ≡ image_size
  pub shown : IfSome image (λ bytes. IsOk (content_geometry bytes) × IsSound bytes × (text ≡ inspected what bytes))

-- the listing of the variables that the image keeps, and its check report
abbrev pub Lists : Option (List ℕ) → ℕ → List ℕ → Type 0
Lists image size text = Inspects inspection.Listing image size text

abbrev pub Checks : Option (List ℕ) → ℕ → List ℕ → Type 0
Checks image size text = Inspects inspection.Check image size text

-- an image of this length is refused for this fault: for its length, else for the first that the content has of the image that is told
pub record IsFaultOf (image : Option (List ℕ)) (size : ℕ) (fault : ImageFault) : Type 0 where
  pub told : IfSome image (λ bytes. content_geometry bytes ≡ Err fault)
  pub by_length : size ≢ image_size → fault ≡ ImageSize size image_size
  pub is_image : fault ≢ Device

-- an image of the right length, whose content is accepted, is foreign work
pub record IsForeignImage (image : Option (List ℕ)) (size : ℕ) : Type 0 where
  pub length : size ≡ image_size
  pub told : IfSome image (λ bytes. IsOk (content_geometry bytes) × IsForeign bytes)

-- the image is refused to be listed or checked, and this line says why: for the first fault of its content, else as foreign work
abbrev pub RefusesList : Option (List ℕ) → ℕ → List ℕ → Type 0
RefusesList image size text =
    ((fault : ImageFault) × IsFaultOf image size fault × (text ≡ image_line fault)) ⊎ (IsForeignImage image size × (text ≡ foreign_line))

-- an image of this length is formatted, of which nothing is printed; or refused to be formatted, and this line says why
abbrev pub Formats : ℕ → List ℕ → Type 0
Formats size text = (size ≡ image_size) × (text ≡ [])

abbrev pub RefusesFormat : ℕ → List ℕ → Type 0
RefusesFormat size text = (size ≢ image_size) × (text ≡ image_line (ImageSize size image_size))

-- the image is told, and is accepted or refused to be listed and checked
abbrev pub IsImage : Option (List ℕ) → Type 0
IsImage image = IsSomeAnd image (λ bytes. IsOk (content_geometry bytes) × IsSound bytes)

abbrev pub IsNoImage : Option (List ℕ) → Type 0
IsNoImage image = IsSomeAnd image (λ bytes. IsErr (content_geometry bytes) ⊎ IsForeign bytes)

-- the census of no records
abbrev pub nothing : Census
nothing = record { records = 0; added = 0; transition = 0; deleted = 0; other = 0; variables = 0; used = 0; clean = true }
