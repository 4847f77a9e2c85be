-- From the refusal of an opening to the line that is printed.
use Rattle.std.proofs.Common.{◌≡◌, ◌≢◌, inl, inr, ⊎_elim, ℕ, Bool, true, false, List, Option, Some, None, Result, Ok, Err, IsOk, IfSome, IsSomeAnd, refl, sym, ap, subst}
use Rattle.std.proofs.lemmas.Bool.{cases_eq}
use Rattle.flash_dev.proofs.Moments.{stays_none, stays_since}
use Rattle.flash_dev.specs.declared.geometry.Geometry.{Geometry}
use Rattle.flash_dev.specs.declared.image_fault.ImageFault.{ImageFault}
use Rattle.flash_dev.specs.declared.image_fault.ImageFault.TheVariants as image
use Rattle.flash_dev.specs.Moments.{Stays}
use Rattle.flash_dev.specs.Rules.{IsKept, Leaves}
use Rattle.ftw_mount.specs.Mount.{content_geometry}
use Rattle.nv_store.specs.declared.load_fault.LoadWhy.{LoadWhy}
use Rattle.nv_store.specs.declared.load_fault.LoadWhy.TheVariants.{Image, ForeignWork, Device, OutOfMemory}
use Rattle.nv_store.specs.Opening.{HasLoadCause, IsByImage, IsOpeningLeft, refusal_by, refusal_of}
use Rattle.var_types.specs.declared.call.Call.{Call}
use Rattle.var_types.specs.declared.work_state.WorkState.{WorkState}
use Rattle.var_types.specs.declared.work_state.WorkState.TheVariants.{Clean, Pending, Unclean}
use Rattle.var_types.specs.Kept.{kept, spare, work_area}
use Rattle.var_types.specs.WorkArea.{is_blank, work_state}
use Rattle.varsvc.specs.declared.output.plan.Plan.{Plan}
use Rattle.varsvc.specs.declared.output.plan.Plan.TheVariants.{Print, Stream, InputFault, DeviceFault, NoMemory}
use Rattle.varsvc.specs.FaultLines.{foreign_line, image_line}
use Rattle.varsvc.specs.Images.{RefusesList}
use Rattle.varsvc.specs.Opened.{PlansUnopened}
use Rattle.varsvc.specs.Plan.{PlansLine}
use Rattle.varsvc.specs.RunPlan.{PlansRun}
use Rattle.varsvc.specs.Runs.{LeavesUntouched, LeavesVariables}
use Rattle.varsvc.specs.Told.{Told, told_of}

-- an image is refused for a fault of its content
fault_of_content : (cells : List ℕ) (fault : ImageFault) → refusal_of cells ≡ Some (Image fault) → content_geometry cells ≡ Err fault
unfolding refusal_of
fault_of_content cells fault is = by (content_geometry cells) (is_blank (spare cells)) (work_state (work_area cells)) is
  where
    by : (geometry : Result Geometry ImageFault) (blank : Bool) (state : WorkState) → refusal_by geometry blank state ≡ Some (Image fault) → geometry ≡ Err fault
    by (Err other) blank state is = cc
    by (Ok geometry) true state is = cc
    by (Ok geometry) false Unclean is = cc
    by (Ok geometry) false (Clean slots) is = cc
    by (Ok geometry) false (Pending slot) is = cc

-- or as foreign work
foreign_of_content : (cells : List ℕ) → refusal_of cells ≡ Some ForeignWork
    → IsOk (content_geometry cells) × ((is_blank (spare cells) ≡ false) × (work_state (work_area cells) ≡ Unclean))
unfolding refusal_of
foreign_of_content cells is = by (content_geometry cells) (is_blank (spare cells)) (work_state (work_area cells)) is
  where
    by : (geometry : Result Geometry ImageFault) (blank : Bool) (state : WorkState) → refusal_by geometry blank state ≡ Some ForeignWork
        → IsOk geometry × ((blank ≡ false) × (state ≡ Unclean))
    by (Err other) blank state is = cc
    by (Ok geometry) true state is = cc
    by (Ok geometry) false Unclean is = (refl, (refl, refl))
    by (Ok geometry) false (Clean slots) is = cc
    by (Ok geometry) false (Pending slot) is = cc

-- the line for what is refused of the image that is told
module _ (told : Option (List ℕ)) (size : ℕ) where
  refused_fault : (fault : ImageFault) → IfSome told (λ cells. refusal_of cells ≡ Some (Image fault))
      → (size ≢ 131072 → Image fault ≡ Image (image.ImageSize size 131072)) → fault ≢ image.Device → RefusesList told size (image_line fault)
  refused_fault fault refused by_size other = inl (fault, record { told = content told refused; by_length = λ n. same (by_size n); is_image = other }, refl)
    where
      content : (t : Option (List ℕ)) → IfSome t (λ cells. refusal_of cells ≡ Some (Image fault)) → IfSome t (λ cells. content_geometry cells ≡ Err fault)
      content None is = tt
      content (Some cells) is = fault_of_content cells fault is

      same : Image fault ≡ Image (image.ImageSize size 131072) → fault ≡ image.ImageSize size 131072
      same e = cc

  refused_foreign : IfSome told (λ cells. refusal_of cells ≡ Some ForeignWork) → (size ≢ 131072 → ForeignWork ≡ Image (image.ImageSize size 131072))
      → RefusesList told size foreign_line
  refused_foreign refused by_size = inr (record { length = length_is; told = content told refused }, refl)
    where
      length_is : size ≡ 131072
      length_is = ⊎_elim (λ e. e) (λ n. let e = by_size n in cc) (cases_eq size 131072)

      content : (t : Option (List ℕ)) → IfSome t (λ cells. refusal_of cells ≡ Some ForeignWork)
          → IfSome t (λ cells. IsOk (content_geometry cells) × ((is_blank (spare cells) ≡ false) × (work_state (work_area cells) ≡ Unclean)))
      content None is = tt
      content (Some cells) is = foreign_of_content cells is

-- what is told of a flash that was left as it was, or whose variables were
module _ {F : Type 0} (holds : F → Option (List ℕ)) (size fault_count moment : F → ℕ) (left_since : F → ℕ → List ℕ → Type 0) (input : Option (List ℕ)) (old new : F)
    (only_now : (left : List ℕ) → left_since old (moment old) left → IfSome (holds old) (λ image. left ≡ image)) where
  later : (told : Option (List ℕ)) (P : List ℕ → List ℕ → Type 0) → ((left : List ℕ) → left_since new (moment old) left → IfSome told (λ image. P image left))
      → IfSome told (λ image. (left : List ℕ) → left_since new (moment old) left → P image left)
  later None P h = tt
  later (Some image) P h = h

  pub untouched : Stays IsKept moment left_since holds old new → fault_count new ≡ fault_count old
      → LeavesUntouched (told_of holds size fault_count moment left_since input old new)
  untouched stays calm = record {
    same = from (holds old) (holds new) stays.now;
    at_any_moment =
        later (holds old) IsKept (λ left since. stays_since IsKept old new left stays (only_now left) (λ image told. refl) since);
    calm = calm;
  }
    where
      from : (told now : Option (List ℕ)) → Leaves IsKept told now → now ≡ told
      from None now is = is
      from (Some image) None is = absurd is
      from (Some image) (Some left) is = ap Some is

  pub same_variables : Stays IsOpeningLeft moment left_since holds old new
      → ((image : List ℕ) → IsOpeningLeft image image) → LeavesVariables (told_of holds size fault_count moment left_since input old new)
  same_variables stays same = record {
    now = from (holds old) (holds new) stays.now;
    at_any_moment =
        later (holds old) (λ image left. kept left ≡ kept image)
        (λ left since. kept_so (holds old) left (stays_since IsOpeningLeft old new left stays (only_now left) (λ image told. same image) since));
  }
    where
      from : (told now : Option (List ℕ)) → Leaves IsOpeningLeft told now → IfSome told (λ image. IsSomeAnd now (λ left. kept left ≡ kept image))
      from None now is = tt
      from (Some image) None is = absurd is
      from (Some image) (Some left) is = is.kept

      kept_so : (told : Option (List ℕ)) (left : List ℕ) → IfSome told (λ image. IsOpeningLeft image left) → IfSome told (λ image. kept left ≡ kept image)
      kept_so None left is = tt
      kept_so (Some image) left is = is.kept

-- a flash that no call was made of is untouched
pub untouched_same : {F : Type 0} (holds : F → Option (List ℕ)) (size fault_count moment : F → ℕ) (left_since : F → ℕ → List ℕ → Type 0)
    (input : Option (List ℕ)) (flash : F) → ((left : List ℕ) → left_since flash (moment flash) left → IfSome (holds flash) (λ image. left ≡ image))
    → LeavesUntouched (told_of holds size fault_count moment left_since input flash flash)
untouched_same holds size fault_count moment left_since input flash only_now =
    untouched holds size fault_count moment left_since input flash flash only_now (stays_none IsKept flash (λ image told. refl)) refl

-- an image is one that an opening of it may leave
pub opening_none : (image : List ℕ) → IsOpeningLeft image image
opening_none image = record { kept = refl; headers = refl; sound = λ sound. sound; idle = λ order. refl }

-- the plan for an image that isn't opened is one of a run
module _ (told : Told) (script : List (List Call)) where
  line_plan : (line : List ℕ) (plan : Plan) → PlansLine 4 line plan → RefusesList told.image told.size line → LeavesUntouched told → PlansRun told script plan
  line_plan line (Print s t) plans refuses untouched = (plans.0, subst (RefusesList told.image told.size) (sym plans.1) refuses, untouched)
  line_plan line (Stream streamed) plans refuses untouched = absurd plans
  line_plan line InputFault plans refuses untouched = absurd plans
  line_plan line DeviceFault plans refuses untouched = absurd plans
  line_plan line NoMemory plans refuses untouched = untouched

pub unopened_plan : (told : Told) (script : List (List Call)) (why : LoadWhy) (plan : Plan) → PlansUnopened why plan
    → (IsByImage (Some why) → IfSome told.image (λ cells. refusal_of cells ≡ Some why))
    → (told.size ≢ 131072 → why ≢ OutOfMemory → why ≡ Image (image.ImageSize told.size 131072)) → why ≢ Image image.Device
    → (why ≢ Device → LeavesUntouched told) → LeavesVariables told → HasLoadCause told.faults told.faults_after (Some why) → PlansRun told script plan
unopened_plan told script (Image fault) plan plans refused by_size other untouched variables cause =
    line_plan told script (image_line fault) plan plans
    (refused_fault told.image told.size fault (refused tt) (λ n. by_size n (λ e. cc)) (λ e. other (ap Image e))) (untouched (λ e. cc))
unopened_plan told script ForeignWork plan plans refused by_size other untouched variables cause =
    line_plan told script foreign_line plan plans
    (refused_foreign told.image told.size (refused tt) (λ n. by_size n (λ e. cc))) (untouched (λ e. cc))
unopened_plan told script Device plan plans refused by_size other untouched variables cause =
    subst (PlansRun told script) (sym plans) (variables, cause.failed refl)
unopened_plan told script OutOfMemory plan plans refused by_size other untouched variables cause =
    subst (PlansRun told script) (sym plans) (untouched (λ e. cc))
