-- Time stamps, and which of two is later.
use Rattle.byteorder.specs.Endian.{little_number}
use Rattle.std.specs.Cmp.Lexicographic.{slice_cmp}
use Rattle.std.specs.Ordering.{is_lt, nat_cmp}
use Rattle.std.specs.Prelude.{ℕ, Bool, List, [], ◌∷◌, replicate, slice_index, if◌then◌else◌}
use Rattle.var_types.specs.declared.stamp.Stamp.{Stamp}

-- the stamp of a variable that has none (UEFI 2.10, 8.2.3)
abbrev pub no_stamp : Stamp
no_stamp = record { bytes = replicate 16 0 }

-- the time that a stamp says: Year in two bytes, then Month, Day, Hour, Minute and Second (UEFI 2.10, 8.3, EFI_TIME)
unfoldable pub time_of : Stamp → List ℕ
time_of stamp =
    little_number 2 stamp.bytes ∷ slice_index stamp.bytes 2 ∷ slice_index stamp.bytes 3 ∷ slice_index stamp.bytes 4
    ∷ slice_index stamp.bytes 5 ∷ slice_index stamp.bytes 6 ∷ []

-- whether a new stamp is later than an old one: the first number of their times that differs is greater (UEFI 2.10, 8.2, time-based
-- authenticated variables)
unfoldable pub is_later : Stamp → Stamp → Bool
is_later new old = is_lt (slice_cmp nat_cmp (time_of old) (time_of new))

-- the later of a new stamp and an old one: the old one where neither is later (EDK II, UpdateVariable, of an append)
abbrev pub later_of : Stamp → Stamp → Stamp
later_of new old = if is_later new old then new else old
