-- The room that a region's variables use.
use Rattle.std.proofs.Common.{◌≡◌, ◌+◌, ◌≤◌, List, [], ◌∷◌, length, None, arith}
use Rattle.std.proofs.lemmas.List.Sums.{sum_by-cons}
use Rattle.var_types.specs.declared.key.Key.{Key}
use Rattle.var_types.specs.declared.variable.Variable.{Variable}
use Rattle.var_types.specs.Census.{records_room}
use Rattle.var_types.specs.Region.{Region, region_map}
use Rattle.var_types.specs.Room.{room_of}
use Rattle.region_compact.specs.Compacted.{size_after}
use Rattle.region_compact.specs.declared.replace.Replace.TheVariants.{None as Keep}
use Rattle.region_compact.proofs.Kept.{rooms_few}
use Rattle.report_text.specs.Sizes.{data_bytes}
use Rattle.region_compact.proofs.MapAfter.{SizesAreTheRoom-all}

-- one entry more
pub room_first : (entry : Key × Variable) (entries : List (Key × Variable))
    → records_room (entry ∷ entries) ≡ room_of entry.0 entry.1 + records_room entries
room_first entry entries = sum_by-cons (λ (e : Key × Variable). room_of e.0 e.1) entry entries

-- each takes some room
pub few_entries : (entries : List (Key × Variable)) → length entries ≤ records_room entries
few_entries [] = omega arith
few_entries (entry ∷ entries) = omega (arith, room_first entry entries, few_entries entries)

-- the variables of a region use at most so much
pub room_few : (region : Region) → length region.bytes ≤ 65536 → region.first ≤ length region.bytes → records_room (region_map region) ≤ 131078
unfolding size_after
room_few region few low =
    let same : _ ≡ records_room (region_map region) = SizesAreTheRoom-all region Keep in
    omega (arith, same, rooms_few region None few low)

-- each has no more bytes than it takes room
pub few_bytes : (entries : List (Key × Variable)) → data_bytes entries ≤ records_room entries
few_bytes [] = omega arith
few_bytes (entry ∷ entries) =
    omega (arith, room_first entry entries, sum_by-cons (λ (e : Key × Variable). length e.1.bytes) entry entries, few_bytes entries)
