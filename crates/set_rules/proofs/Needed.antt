-- The room that a set needs is what is used without its key, and the room of its record.
use Rattle.std.proofs.Common.{◌≡◌, ◌+◌}
use Rattle.std.specs.BTreeMap.{is_at}
use Rattle.std.specs.Map.{remove_entry}
use Rattle.std.specs.Prelude.{ℕ}
use Rattle.set_rules.specs.Seen.{store_if}
use Rattle.var_types.specs.Attributes.{has, without_append}
use Rattle.var_types.specs.Key.{key_cmp}
use Rattle.var_types.specs.Reading.{Reading, made_of, set_key}
use Rattle.var_types.specs.Room.{align4, record_size, room_needed, room_used}
use Rattle.var_types.specs.State.{State}

pub needed : (state : State) (set : Reading) (used rounded : ℕ)
    → used
    ≡ room_used (store_if (has (without_append set.call.attributes) 1)) (remove_entry (is_at (key_cmp (set_key set.call))) state.variables)
    → rounded ≡ align4 (record_size set.call.name (made_of set).bytes) → used + rounded ≡ room_needed state (set_key set.call) (made_of set)
unfolding room_needed made_of
needed state set used rounded u r = λ i. u i + r i
