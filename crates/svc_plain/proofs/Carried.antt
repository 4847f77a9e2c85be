-- What may be put has room.
use Rattle.std.proofs.Common.{◌≡◌, ◌≤◌, Bool, subst, sym}
use Rattle.std.specs.Prelude.{ℕ}
use Rattle.set_rules.specs.RoomTotals.{HasRoom}
use Rattle.var_types.specs.Attributes.{store_of}
use Rattle.var_types.specs.Reading.{set_key}
use Rattle.var_types.specs.Room.{room_limit, room_needed}
use Rattle.var_types.specs.Set.{variable_by}
use Rattle.var_types.specs.SetLaws.{MayPut}
use Rattle.var_types.specs.State.{State, stored_at}
use Rattle.var_types.specs.declared.call.SetCall.{SetCall}
use Rattle.var_types.specs.declared.key.Key.{Key}
use Rattle.var_types.specs.declared.stamp.Stamp.{Stamp}
use Rattle.var_types.specs.declared.variable.Variable.{Variable}

pub has_room : (state : State) (call : SetCall) (attributes : ℕ) (stamp : Stamp) (skip : ℕ) (append : Bool) (key : Key) → key ≡ set_key call
    → MayPut state call attributes stamp skip append
    → HasRoom state.variables key (variable_by call (stored_at state key) attributes stamp skip append)
unfolding room_needed
has_room state call attributes stamp skip append key is may =
    subst (λ (k : Key). HasRoom state.variables k (variable_by call (stored_at state k) attributes stamp skip append)) (sym is)
    (subst (λ (v : Variable). room_needed state (set_key call) v ≤ room_limit (store_of attributes)) (sym may.made) may.room)
