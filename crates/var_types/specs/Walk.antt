use Rattle.std.specs.Prelude.{◌≡◌, ℕ, ◌+◌, ◌*◌, ◌≤◌, List, [], ◌∷◌, filter, Ok, All}
use Rattle.std.specs.List.Sorted.{IsStrictlySortedBy}
use Rattle.std.specs.Map.{keys_of}
use Rattle.var_types.specs.declared.guid.Guid.{Guid}
use Rattle.var_types.specs.declared.key.Key.{Key}
use Rattle.var_types.specs.declared.reply.NextReply.TheVariants.{End, Ok as Found}
use Rattle.var_types.specs.History.{Entry, run}
use Rattle.var_types.specs.Key.{key_cmp}
use Rattle.var_types.specs.Layout.{longest_name}
use Rattle.var_types.specs.Name.{name_check}
use Rattle.var_types.specs.Next.{next_reply, is_seen}
use Rattle.var_types.specs.State.{State}

-- the keys that callers see, in key order (UEFI 2.10, 8.2.2)
abbrev pub visible_keys : State → List Key
visible_keys state = keys_of (filter (is_seen state) state.variables)

-- the calls of GetNextVariableName that begin with this GUID and name and go on with each key found, with this room, answer these keys
-- and then the end (UEFI 2.10, 8.2.2)
abbrev pub Walks : State → ℕ → Guid → List ℕ → List Key → Type 0
Walks state room guid name [] = next_reply state (record { guid = guid; name = name; room = room }) ≡ End
Walks state room guid name (key ∷ keys) =
    (next_reply state (record { guid = guid; name = name; room = room }) ≡ Found key) × Walks state room key.guid key.name keys

-- a name is well-formed
abbrev pub IsWellFormed : List ℕ → Type 0
IsWellFormed name = name_check name ≡ Ok tt

-- the variables of a state stand in key order, each once, under well-formed names
pub record IsSound (state : State) : Type 0 where
  pub ordered : IsStrictlySortedBy key_cmp (keys_of state.variables)
  pub named : All (λ key. IsWellFormed key.name) (keys_of state.variables)

-- every state that changes lead to from a sound one is sound
abbrev pub ChangesKeepSoundness : Type 0
ChangesKeepSoundness = (state : State) (history : List Entry) → IsSound state → IsSound (run state history)

-- a walk from an empty name, with room for every name, answers each visible key once, in key order, and no other (UEFI 2.10, 8.2.2)
abbrev pub WalksAnswerEachKeyOnce : Type 0
WalksAnswerEachKeyOnce =
    (state : State) (room : ℕ) (guid : Guid) (keys : List Key) → IsSound state → 2 * longest_name + 2 ≤ room
    → (Walks state room guid [] (visible_keys state)) × (Walks state room guid [] keys → keys ≡ visible_keys state)
