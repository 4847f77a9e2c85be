-- The parts of an image, and what a change of one of them leaves.
use Rattle.std.proofs.Common.{◌≡◌, ℕ, ◌+◌, ◌-◌, ◌≤◌, Bool, true, false, List, ◌++◌, length, take, drop, refl, sym, ap, ◌∙◌, arith, length-drop}
use Rattle.std.proofs.lemmas.List.{drop-drop, drop-take, drop_at, length-take-le, take-append-drop, take-take, take_at}
use Rattle.var_types.specs.declared.work_state.WorkState.TheVariants.{Clean, Pending, Unclean}
use Rattle.var_types.specs.Kept.{IsContentKept, IsSound, chosen_part, content, spare, spare_volume, volume, work_area}
use Rattle.var_types.specs.Placed.{IsOutsideKept}
use Rattle.var_types.specs.WorkArea.{is_blank, work_state}

-- a range that holds another
pub outside_wider : (from to first last : ℕ) (image left : List ℕ) → first ≤ from → to ≤ last → IsOutsideKept from to image left
    → IsOutsideKept first last image left
outside_wider from to first last image left early late is =
    let end : to + (last - to) ≡ last = omega arith in
    record {
      len = is.len;
      before = sym (take-take first from left early) ∙ ap (take first) is.before ∙ take-take first from image early;
      behind =
          ap (λ n. drop n left) (sym end) ∙ sym (drop-drop (last - to) to left) ∙ ap (drop (last - to)) is.behind ∙ drop-drop (last - to) to image
          ∙ ap (λ n. drop n image) end;
    }

-- a change and then another
pub outside_both : (from to : ℕ) (image cells left : List ℕ) → IsOutsideKept from to image cells → IsOutsideKept from to cells left
    → IsOutsideKept from to image left
outside_both from to image cells left first second =
    record { len = second.len ∙ first.len; before = second.before ∙ first.before; behind = second.behind ∙ first.behind }

-- no change
pub outside_none : (from to : ℕ) (image : List ℕ) → IsOutsideKept from to image image
outside_none from to image = record { len = refl; before = refl; behind = refl }

-- the volume stays where the bytes behind it change
pub volume_before : (from to : ℕ) (image left : List ℕ) → 57344 ≤ from → IsOutsideKept from to image left → volume left ≡ volume image
unfolding volume
volume_before from to image left h is = sym (take-take 57344 from left h) ∙ ap (take 57344) is.before ∙ take-take 57344 from image h

-- the spare stays where the bytes before it change
pub spare_behind : (from to : ℕ) (image left : List ℕ) → to ≤ 65536 → IsOutsideKept from to image left → spare left ≡ spare image
unfolding spare
spare_behind from to image left h is = (outside_wider from to 0 65536 image left (omega arith) h is).behind

-- so does what of it is a volume's
pub spare_volume_same : (image left : List ℕ) → spare left ≡ spare image → spare_volume left ≡ spare_volume image
unfolding spare_volume
spare_volume_same image left same = ap (take 57344) same

-- the work area stays where the bytes behind it change
pub work_before : (from to : ℕ) (image left : List ℕ) → 65536 ≤ from → IsOutsideKept from to image left → work_area left ≡ work_area image
unfolding work_area
work_before from to image left h is =
    let front : take 65536 left ≡ take 65536 image = sym (take-take 65536 from left h) ∙ ap (take 65536) is.before ∙ take-take 65536 from image h in
    sym (drop-take 61440 4096 left) ∙ ap (drop 61440) front ∙ drop-take 61440 4096 image

-- the work area stays where the bytes before it change
pub work_behind : (from to : ℕ) (image left : List ℕ) → to ≤ 61440 → IsOutsideKept from to image left → work_area left ≡ work_area image
unfolding work_area
work_behind from to image left h is = ap (take 4096) (outside_wider from to 0 61440 image left (omega arith) h is).behind

-- the content by its parts
pub same_content : (image left : List ℕ) → volume left ≡ volume image → work_area left ≡ work_area image → spare left ≡ spare image
    → content left ≡ content image
unfolding content spare_volume
same_content image left v w s =
    ap (λ part. chosen_part (is_blank (spare left)) (work_state (work_area left)) part (take 57344 (spare left))) v
    ∙ ap (λ area. chosen_part (is_blank (spare left)) (work_state area) (volume image) (take 57344 (spare left))) w
    ∙ ap (λ part. chosen_part (is_blank part) (work_state (work_area image)) (volume image) (take 57344 part)) s

-- with a blank spare the content is the volume's
pub blank_content : (image : List ℕ) → is_blank (spare image) ≡ true → content image ≡ volume image
unfolding content
blank_content image e = ap (λ b. chosen_part b (work_state (work_area image)) (volume image) (spare_volume image)) e

-- where no write is pending it is the volume's
clean_part : (b : Bool) (slots : ℕ) (v s : List ℕ) → chosen_part b (Clean slots) v s ≡ v
clean_part true slots v s = refl
clean_part false slots v s = refl

pub clean_content : (image : List ℕ) (slots : ℕ) → work_state (work_area image) ≡ Clean slots → content image ≡ volume image
unfolding content
clean_content image slots e =
    ap (λ state. chosen_part (is_blank (spare image)) state (volume image) (spare_volume image)) e
    ∙ clean_part (is_blank (spare image)) slots (volume image) (spare_volume image)

-- where a write is pending it is the spare's, unless that is blank
pub pending_content : (image : List ℕ) (slot : ℕ) → is_blank (spare image) ≡ false → work_state (work_area image) ≡ Pending slot
    → content image ≡ spare_volume image
unfolding content
pending_content image slot used e =
    ap (λ state. chosen_part (is_blank (spare image)) state (volume image) (spare_volume image)) e
    ∙ ap (λ b. chosen_part b (Pending slot) (volume image) (spare_volume image)) used

-- an unclean work area says no more than that the volume counts
unclean_part : (b : Bool) (v s : List ℕ) → chosen_part b Unclean v s ≡ v
unclean_part true v s = refl
unclean_part false v s = refl

pub unclean_content : (image : List ℕ) → work_state (work_area image) ≡ Unclean → content image ≡ volume image
unfolding content
unclean_content image e =
    ap (λ state. chosen_part (is_blank (spare image)) state (volume image) (spare_volume image)) e
    ∙ unclean_part (is_blank (spare image)) (volume image) (spare_volume image)

-- an image is no foreign work where its spare is blank, or its work area is one of this program's
pub blank_sound : (image : List ℕ) → is_blank (spare image) ≡ true → IsSound image
blank_sound image e = λ foreign. let no : true ≡ false = sym e ∙ foreign.0 in cc

pub clean_sound : (image : List ℕ) (slots : ℕ) → work_state (work_area image) ≡ Clean slots → IsSound image
clean_sound image slots e = λ foreign. let no : Clean slots ≡ Unclean = sym e ∙ foreign.1 in cc

pub pending_sound : (image : List ℕ) (slot : ℕ) → work_state (work_area image) ≡ Pending slot → IsSound image
pending_sound image slot e = λ foreign. let no : Pending slot ≡ Unclean = sym e ∙ foreign.1 in cc

-- an image with the same spare and the same work area is foreign work only if the other is
pub same_sound : (image left : List ℕ) → work_area left ≡ work_area image → spare left ≡ spare image → IsSound image → IsSound left
same_sound image left w s sound = λ foreign. sound (ap is_blank (sym s) ∙ foreign.0, ap work_state (sym w) ∙ foreign.1)

-- no change keeps the content
pub content_stays : (image : List ℕ) → IsContentKept image image
content_stays image = record { content = refl; sound = λ sound. sound }

-- a change and then another
pub content_both : (image cells left : List ℕ) → IsContentKept image cells → IsContentKept cells left → IsContentKept image left
content_both image cells left first second =
    record { content = second.content ∙ first.content; sound = λ sound. second.sound (first.sound sound) }

-- the spare changes while no write is pending
pub spare_changes : (image left : List ℕ) (slots : ℕ) → work_state (work_area image) ≡ Clean slots → IsOutsideKept 65536 131072 image left
    → IsContentKept image left
spare_changes image left slots e is =
    let left_is : work_state (work_area left) ≡ Clean slots = ap work_state (work_before 65536 131072 image left (omega arith) is) ∙ e in
    record {
      content =
          clean_content left slots left_is ∙ volume_before 65536 131072 image left (omega arith) is ∙ sym (clean_content image slots e);
      sound = λ sound. clean_sound left slots left_is;
    }

-- the volume changes while a write is pending
pub volume_changes : (image left : List ℕ) (slot : ℕ) → work_state (work_area image) ≡ Pending slot → is_blank (spare image) ≡ false
    → IsOutsideKept 0 57344 image left → IsContentKept image left
volume_changes image left slot e used is =
    let same = spare_behind 0 57344 image left (omega arith) is in
    let left_is : work_state (work_area left) ≡ Pending slot = ap work_state (work_behind 0 57344 image left (omega arith) is) ∙ e in
    record {
      content =
          pending_content left slot (ap is_blank same ∙ used) left_is ∙ spare_volume_same image left same ∙ sym (pending_content image slot used e);
      sound = λ sound. pending_sound left slot left_is;
    }

-- the work area changes while the spare is blank
pub work_changes : (image left : List ℕ) → is_blank (spare image) ≡ true → IsOutsideKept 61440 65536 image left → IsContentKept image left
work_changes image left blank is =
    let left_is : is_blank (spare left) ≡ true = ap is_blank (spare_behind 61440 65536 image left (omega arith) is) ∙ blank in
    record {
      content = blank_content left left_is ∙ volume_before 61440 65536 image left (omega arith) is ∙ sym (blank_content image blank);
      sound = λ sound. blank_sound left left_is;
    }

-- the bytes between volume and work area change
pub gap_changes : (image left : List ℕ) → IsOutsideKept 57344 61440 image left → IsContentKept image left
gap_changes image left is =
    let w = work_behind 57344 61440 image left (omega arith) is in
    let s = spare_behind 57344 61440 image left (omega arith) is in
    record { content = same_content image left (volume_before 57344 61440 image left (omega arith) is) w s; sound = same_sound image left w s }

-- an image as what stands before its work area, that, and its spare
pub image_framed : (image : List ℕ) → image ≡ take 61440 image ++ (work_area image ++ spare image)
unfolding work_area spare
image_framed image =
    sym (take-append-drop 61440 image)
    ∙ ap (λ rest. take 61440 image ++ rest) (sym (take-append-drop 4096 (drop 61440 image)) ∙ ap (λ rest. take 4096 (drop 61440 image) ++ rest) (drop-drop 4096 61440 image))

-- its work area is a block
pub work_size : (image : List ℕ) → length image ≡ 131072 → length (work_area image) ≡ 4096
unfolding work_area
work_size image size = length-take-le 4096 (drop 61440 image) (omega (arith, size, length-drop 61440 image))

-- the parts of an image that is written so
module _ (front area back : List ℕ) (early : length front ≡ 61440) (size : length area ≡ 4096) where
  behind_front : drop 61440 (front ++ (area ++ back)) ≡ area ++ back
  behind_front = drop_at front (area ++ back) 61440 early

  pub framed_work : work_area (front ++ (area ++ back)) ≡ area
  unfolding work_area
  framed_work = ap (take 4096) behind_front ∙ take_at area back 4096 size

  pub framed_spare : spare (front ++ (area ++ back)) ≡ back
  unfolding spare
  framed_spare = sym (drop-drop 4096 61440 (front ++ (area ++ back))) ∙ ap (drop 4096) behind_front ∙ drop_at area back 4096 size
