-- New records that fit behind the others.
use Rattle.std.proofs.Common.{◌≡◌, ◌+◌, length, false, true, Bool, ◌&&◌, refl}
use Rattle.std.proofs.lemmas.Bool.{leb-true}
use Rattle.var_region.specs.declared.new_record.NewRecord.{NewRecord}
use Rattle.var_region.specs.NewRecord.{IsNew, new_size}
use Rattle.var_region.specs.Written.{FitsBehind, fits_behind}
use Rattle.var_types.specs.Region.{Region, is_tail_clean, tail_offset}

-- both of two that hold together
both_of : (a b : Bool) → (a && b) ≡ true → (a ≡ true) × (b ≡ true)
both_of true b h = (refl, h)
both_of false b h = cc

-- a new record whose size fits may be written behind the others
pub fits_is : (region : Region) (new : NewRecord) → IsNew new → fits_behind region (new_size new) ≡ true → FitsBehind region new
fits_is region new is fits =
    let both = both_of (is_tail_clean region) _ fits in
    record { is = is; clean = both.0; room = leb-true (tail_offset region + new_size new) (length region.bytes) both.1 }
