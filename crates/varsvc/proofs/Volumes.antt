-- The listing of what an image keeps, and the refusals of it.
use Rattle.std.proofs.Common.{◌≡◌, ◌≢◌, inl, inr, ℕ, List, length, take, Option, Some, None, Result, Ok, Err, IsOk, IfSome, refl, sym, ap, ◌∙◌, subst, arith, Bool}
use Rattle.std.specs.Prelude.{if◌then◌else◌}
use Rattle.std.proofs.lemmas.Bool.{eq-eqb, ne_eqb}
use Rattle.flash_dev.specs.declared.geometry.Geometry.{Geometry}
use Rattle.flash_dev.specs.declared.image_fault.ImageFault.{ImageFault}
use Rattle.flash_dev.specs.declared.image_fault.ImageFault.TheVariants as image
use Rattle.flash_dev.specs.Geometry.{geometry_of}
use Rattle.ftw_mount.specs.declared.kept.Kept.{Kept}
use Rattle.ftw_mount.specs.Mount.{Describes, content_geometry}
use Rattle.var_types.specs.Kept.{IsForeign, IsSound, content, kept, work_area}
use Rattle.policy_audit.specs.Audit.{audit_text}
use Rattle.report_text.specs.Check.{check_text, facts_of}
use Rattle.var_types.specs.Region.{region_map}
use Rattle.var_types.specs.declared.work_state.WorkState.{WorkState}
use Rattle.var_types.specs.WorkArea.{work_state}
use Rattle.varsvc.specs.declared.image.inspection.Inspection.{Inspection}
use Rattle.varsvc.specs.declared.image.inspection.Inspection.TheVariants as inspection
use Rattle.varsvc.specs.declared.output.plan.Plan.{Plan}
use Rattle.varsvc.specs.declared.output.plan.Plan.TheVariants.{DeviceFault, Stream}
use Rattle.varsvc.specs.FaultLines.{foreign_line, image_line}
use Rattle.varsvc.specs.Images.{Inspects, IsFaultOf, IsForeignImage, IsRead, inspected}
use Rattle.varsvc.specs.Outcome.{IsText, inspection_row}
use Rattle.varsvc.specs.Plan.{IsStreamed, PlansFault, PlansLine, status_of, text_of, content_text, volume_listing, volume_region}
use Rattle.varsvc.proofs.PlannedTexts.{text_done, text_image}
use Rattle.varsvc.proofs.Plans.{line_text, other_status, unstreamed}

-- what was read says what the content's geometry is
read_geometry : (is : Kept) (bytes cells : List ℕ) → IsRead is bytes cells → geometry_of (take 100 bytes) ≡ content_geometry cells
unfolding content_geometry
read_geometry is bytes cells read =
    ap (λ list. geometry_of (take 100 list)) read.is_content
    ∙ sym (
    ap (λ b. if b then geometry_of (take 100 (content cells)) else Err (image.ImageSize (length cells) 131072))
    (eq-eqb (length cells) 131072 read.whole)
    )

-- what is printed of a content is what is printed of the image
content_shown : (what : Inspection) (is : Kept) (bytes cells : List ℕ) → IsRead is bytes cells → content_text what is bytes ≡ inspected what cells
unfolding kept
content_shown inspection.Listing is bytes cells read = ap volume_listing read.is_content
content_shown (inspection.Audit policies) is bytes cells read =
    ap (λ (b : List ℕ). audit_text policies.now (region_map (volume_region b))) read.is_content
content_shown inspection.Check is bytes cells read =
    ap (λ (b : List ℕ). check_text (facts_of (volume_region b) is.state is.blank)) read.is_content
    ∙ ap (λ (s : WorkState). check_text (facts_of (volume_region (content cells)) s is.blank)) read.describes.state
    ∙ ap (λ (b : Bool). check_text (facts_of (volume_region (content cells)) (work_state (work_area cells)) b)) read.describes.blank

-- of a content that is accepted and no foreign work
content_inspects : (what : Inspection) (is : Kept) (bytes : List ℕ) (told : Option (List ℕ)) → IsOk (geometry_of (take 100 bytes))
    → ((cells : List ℕ) → Describes is cells → IsSound cells) → IfSome told (IsRead is bytes) → Inspects what told 131072 (content_text what is bytes)
content_inspects what is bytes None accepted sound read = record { length = refl; shown = tt }
content_inspects what is bytes (Some cells) accepted sound read = record {
  length = refl;
  shown = (subst IsOk (read_geometry is bytes cells read) accepted, sound cells read.describes, content_shown what is bytes cells read);
}

pub shown_text : (what : Inspection) (is : Kept) (bytes : List ℕ) (told : Option (List ℕ)) → IsOk (geometry_of (take 100 bytes))
    → ((cells : List ℕ) → Describes is cells → IsSound cells) → IfSome told (IsRead is bytes)
    → IsText (inspection_row what told 131072) 0 (content_text what is bytes)
shown_text what is bytes told accepted sound read =
    text_done (inspection_row what told 131072) (content_text what is bytes) (content_inspects what is bytes told accepted sound read)

-- the image is refused as foreign work
content_foreign : (is : Kept) (bytes : List ℕ) (told : Option (List ℕ)) → IsOk (geometry_of (take 100 bytes))
    → ((cells : List ℕ) → Describes is cells → IsForeign cells) → IfSome told (IsRead is bytes) → IsForeignImage told 131072
content_foreign is bytes None accepted foreign read = record { length = refl; told = tt }
content_foreign is bytes (Some cells) accepted foreign read = record {
  length = refl;
  told = (subst IsOk (read_geometry is bytes cells read) accepted, foreign cells read.describes);
}

pub foreign_text : (what : Inspection) (is : Kept) (bytes : List ℕ) (told : Option (List ℕ)) (plan : Plan) → IsOk (geometry_of (take 100 bytes))
    → ((cells : List ℕ) → Describes is cells → IsForeign cells) → IfSome told (IsRead is bytes) → PlansLine 4 foreign_line plan
    → IsText (inspection_row what told 131072) (status_of plan) (text_of plan)
foreign_text what is bytes told plan accepted foreign read plans =
    line_text (inspection_row what told 131072) 4 foreign_line plan
    (text_image (inspection_row what told 131072) foreign_line (inr (content_foreign is bytes told accepted foreign read, refl)) tt) plans tt

-- the plan for a fault that isn't the flash's prints its line
fault_line : (fault : ImageFault) (plan : Plan) → fault ≢ image.Device → PlansFault fault plan → PlansLine 4 (image_line fault) plan
fault_line (image.ImageSize have want) plan other plans = plans
fault_line (image.NotAVolume at) plan other plans = plans
fault_line (image.BlockSize value) plan other plans = plans
fault_line (image.BadSum sum) plan other plans = plans
fault_line (image.NotAStore at) plan other plans = plans
fault_line image.Device plan other plans = absurd (other refl)

pub fault_status : (fault : ImageFault) (plan : Plan) → fault ≢ image.Device → PlansFault fault plan → status_of plan ≢ 7
fault_status fault plan other plans =
    other_status 7 4 (image_line fault) plan (λ e. omega (arith, e)) (λ e. omega (arith, e)) (fault_line fault plan other plans)

-- the image is refused for a fault of its content
content_fault : (is : Kept) (bytes : List ℕ) (fault : ImageFault) (told : Option (List ℕ)) → fault ≢ image.Device → geometry_of (take 100 bytes) ≡ Err fault
    → IfSome told (IsRead is bytes) → IsFaultOf told 131072 fault
content_fault is bytes fault None other refused read = record { told = tt; by_length = λ size. absurd (size refl); is_image = other }
content_fault is bytes fault (Some cells) other refused read =
    record { told = sym (read_geometry is bytes cells read) ∙ refused; by_length = λ size. absurd (size refl); is_image = other }

pub fault_text : (what : Inspection) (is : Kept) (bytes : List ℕ) (fault : ImageFault) (told : Option (List ℕ)) (plan : Plan) → fault ≢ image.Device
    → geometry_of (take 100 bytes) ≡ Err fault → IfSome told (IsRead is bytes) → PlansFault fault plan
    → IsText (inspection_row what told 131072) (status_of plan) (text_of plan)
fault_text what is bytes fault told plan other refused read plans =
    line_text (inspection_row what told 131072) 4 (image_line fault) plan
    (text_image (inspection_row what told 131072) (image_line fault) (inl (fault, content_fault is bytes fault told other refused read, refl)) tt)
    (fault_line fault plan other plans) tt

-- the image is refused for its length
pub size_fault : (told : Option (List ℕ)) (size : ℕ) → size ≢ 131072 → IfSome told (λ cells. length cells ≡ size)
    → IsFaultOf told size (image.ImageSize size 131072)
unfolding content_geometry
size_fault None size other law = record { told = tt; by_length = λ e. refl; is_image = λ e. cc }
size_fault (Some cells) size other law =
    record { told = rw (ne_eqb (length cells) 131072 (λ e. other (sym law ∙ e)), law) refl; by_length = λ e. refl; is_image = λ e. cc }

pub size_text : (what : Inspection) (told : Option (List ℕ)) (size : ℕ) (plan : Plan) → size ≢ 131072 → IfSome told (λ cells. length cells ≡ size)
    → PlansLine 4 (image_line (image.ImageSize size 131072)) plan → IsText (inspection_row what told size) (status_of plan) (text_of plan)
size_text what told size plan other law plans =
    line_text (inspection_row what told size) 4 (image_line (image.ImageSize size 131072)) plan
    (text_image (inspection_row what told size) (image_line (image.ImageSize size 131072)) (inl (image.ImageSize size 131072, size_fault told size other law, refl)) tt) plans tt

-- what was read of an image
pub is_read : (is : Kept) (bytes : List ℕ) (told : Option (List ℕ)) → IfSome told (λ cells. length cells ≡ 131072) → IfSome told (Describes is)
    → IfSome told (λ cells. bytes ≡ content cells) → IfSome told (IsRead is bytes)
is_read is bytes None whole describes read = tt
is_read is bytes (Some cells) whole describes read = record { whole = whole; describes = describes; is_content = read }

-- what was found to be accepted is
pub is_accepted : (r found : Result Geometry ImageFault) (geometry : Geometry) → r ≡ found → r ≡ Ok geometry → IsOk found
is_accepted r found geometry same is = subst IsOk (sym is ∙ same) refl

-- the plan for a fault is written before it is printed
pub fault_unstreamed : (fault : ImageFault) (plan : Plan) → PlansFault fault plan → ¬ IsStreamed plan
fault_unstreamed (image.ImageSize have want) plan plans = unstreamed 4 _ plan plans
fault_unstreamed (image.NotAVolume at) plan plans = unstreamed 4 _ plan plans
fault_unstreamed (image.BlockSize value) plan plans = unstreamed 4 _ plan plans
fault_unstreamed (image.BadSum sum) plan plans = unstreamed 4 _ plan plans
fault_unstreamed (image.NotAStore at) plan plans = unstreamed 4 _ plan plans
fault_unstreamed image.Device plan plans = λ (streamed, is). let other : DeviceFault ≡ Stream streamed = sym plans ∙ is in cc
