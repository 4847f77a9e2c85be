use Rattle.std.specs.Prelude.{ℕ, ◌==◌, List, length, nat_lt, if◌then◌else◌, Option, Some, None, Result, Ok, Err, position}
use Rattle.var_types.specs.declared.name.NameFault.{NameFault}
use Rattle.var_types.specs.declared.name.NameFault.TheVariants.{Empty, TooLong, InnerNul}
use Rattle.var_types.specs.Layout.{longest_name}

-- a name with a 0 at a place is ill-formed
abbrev pub nul_check : Option ℕ → Result (Unit {0}) NameFault
nul_check None = Ok tt
nul_check (Some at) = Err (InnerNul at)

-- a well-formed name has 1 to 512 units, none 0; else its first fault (UEFI 2.10, 8.2; the bound is this project's own)
abbrev pub name_check : List ℕ → Result (Unit {0}) NameFault
name_check units =
    if length units == 0 then Err Empty
    else if nat_lt longest_name (length units) then Err (TooLong (length units))
    else nul_check (position (λ unit. unit == 0) units)
