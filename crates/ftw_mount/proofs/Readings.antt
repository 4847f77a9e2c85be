-- What is read of an image.
use Rattle.std.proofs.Common.{◌≡◌, ℕ, Bool, true, false, List, drop, take, Option, IfSome, refl, sym, ap, ◌∙◌, subst}
use Rattle.ftw_mount.specs.declared.kept.Kept.{Kept}
use Rattle.ftw_mount.specs.Mount.{Describes}
use Rattle.ftw_work.proofs.Told.{told_both, told_same}
use Rattle.var_types.specs.declared.work_state.WorkState.{WorkState}
use Rattle.var_types.specs.declared.work_state.WorkState.TheVariants.{Clean, Pending, Unclean}
use Rattle.var_types.specs.Kept.{content, spare, spare_volume, volume, work_area}
use Rattle.var_types.specs.WorkArea.{is_blank, work_state}
use Rattle.var_types.proofs.Parts.{blank_content, clean_content, pending_content, unclean_content}

-- spare and work area were read
pub described : (told now : Option (List ℕ)) (b : Bool) (state : WorkState) (n : ℕ) (buffer : List ℕ) → n ≡ 4096 → now ≡ told
    → IfSome told (λ image. b ≡ is_blank (spare image)) → IfSome now (λ image. buffer ≡ take n (drop 61440 image)) → state ≡ work_state buffer
    → IfSome told (Describes (record { state = state; blank = b }))
unfolding work_area
described told now b state n buffer size same blank read is =
    told_both (λ image. b ≡ is_blank (spare image)) (λ image. buffer ≡ take n (drop 61440 image)) (Describes (record { state = state; blank = b })) told blank
    (told_same (λ image. buffer ≡ take n (drop 61440 image)) told now same read)
    (λ image first second. record { state = is ∙ ap work_state (second ∙ ap (λ k. take k (drop 61440 image)) size); blank = first })

-- the part that counts, by what was read
pub volume_part : (image : List ℕ) → content image ≡ volume image → take 57344 (drop 0 image) ≡ content image
unfolding volume
volume_part image e = sym e

pub blank_part : (kept : Kept) (image : List ℕ) → kept.blank ≡ true → Describes kept image → take 57344 (drop 0 image) ≡ content image
blank_part kept image is described = volume_part image (blank_content image (sym described.blank ∙ is))

pub pending_part : (kept : Kept) (slot : ℕ) (image : List ℕ) → kept.blank ≡ false → kept.state ≡ Pending slot → Describes kept image
    → take 57344 (drop 65536 image) ≡ content image
unfolding spare spare_volume
pending_part kept slot image used is described = sym (pending_content image slot (sym described.blank ∙ used) (sym described.state ∙ is))

pub clean_part : (kept : Kept) (slots : ℕ) (image : List ℕ) → kept.state ≡ Clean slots → Describes kept image → take 57344 (drop 0 image) ≡ content image
clean_part kept slots image is described = volume_part image (clean_content image slots (sym described.state ∙ is))

pub unclean_part : (kept : Kept) (image : List ℕ) → kept.state ≡ Unclean → Describes kept image → take 57344 (drop 0 image) ≡ content image
unclean_part kept image is described = volume_part image (unclean_content image (sym described.state ∙ is))

-- that part was read
pub content_read : (told now : Option (List ℕ)) (kept : Kept) (at n : ℕ) (into : List ℕ) → n ≡ 57344 → now ≡ told → IfSome told (Describes kept)
    → ((image : List ℕ) → Describes kept image → take 57344 (drop at image) ≡ content image)
    → IfSome now (λ image. into ≡ take n (drop at image)) → IfSome told (λ image. into ≡ content image)
content_read told now kept at n into size same described part read =
    told_both (Describes kept) (λ image. into ≡ take n (drop at image)) (λ image. into ≡ content image) told described
    (told_same (λ image. into ≡ take n (drop at image)) told now same read)
    (λ image is e. e ∙ ap (λ k. take k (drop at image)) size ∙ part image is)
