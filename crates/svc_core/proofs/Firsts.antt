-- A fact of a call that was found.
use Rattle.std.proofs.Common.{◌≡◌, Option, Some, None, refl}
use Rattle.std.specs.Prelude.{IfSome}
use Rattle.var_types.specs.declared.call.Call.{Call}

-- a step from a call that has a property, or from none
pub by_call : (Goal : Type 0) (P : Call → Type 0) (call : Option Call) → IfSome call P → (call ≡ None → Goal)
    → ((c : Call) → call ≡ Some c → P c → Goal) → Goal
by_call Goal P None h none some = none refl
by_call Goal P (Some c) h none some = some c refl h
