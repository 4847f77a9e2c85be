-- What the signature and the time stamp of a time-based set come to.
use Rattle.std.specs.Prelude.{Bool, true, false, if◌then◌else◌, Option, Some, None, Result, Ok, Err}
use Rattle.var_types.specs.declared.auth_fault.AuthFault.{AuthFault}
use Rattle.var_types.specs.declared.auth_fault.AuthFault.TheVariants.{Verdict as BadVerdict, Stamp as OldStamp}
use Rattle.var_types.specs.declared.stamp.Stamp.{Stamp}
use Rattle.var_types.specs.declared.verdict.Verdict.{Verdict}
use Rattle.var_types.specs.declared.verdict.Verdict.TheVariants.{Bad, Good}
use Rattle.var_types.specs.Stamps.{is_later, later_of}

-- the stamp that a variable keeps, from the stored one, the new one and whether the set appends: an append keeps the later one, any other
-- set has to be later (UEFI 2.10, 8.2, time-based authenticated variables)
abbrev pub judged_stamp : Stamp → Stamp → Bool → Result Stamp AuthFault
judged_stamp stored new true = Ok (later_of new stored)
judged_stamp stored new false = if is_later new stored then Ok new else Err (OldStamp stored new)

-- the stamp that a variable keeps after a time-based set: the signature is tried first, and where nothing is stored any stamp will do
-- (UEFI 2.10, 8.2.3; the order is this project's own)
abbrev pub judged : Option Stamp → Stamp → Bool → Verdict → Result Stamp AuthFault
judged stored new append Bad = Err BadVerdict
judged None new append Good = Ok new
judged (Some stored) new append Good = judged_stamp stored new append
