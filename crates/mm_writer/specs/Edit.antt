-- What a change of a store does to its variables, and where it writes.
use Rattle.std.specs.Prelude.{◌≡◌, ◌≤◌, ◌<◌, ℕ, length, Ok, List, [], ◌∷◌, ◌++◌, IfSome, IsSome, IsSomeAnd}
use Rattle.std.specs.BTreeMap.{is_at}
use Rattle.std.specs.Map.{lookup}
use Rattle.mm_writer.specs.declared.edit.Edit.{Edit}
use Rattle.mm_writer.specs.declared.edit.Edit.TheVariants.{Put, Remove}
use Rattle.nv_store.specs.Outcome.{with_put, without}
use Rattle.nv_store.specs.Places.{nowhere, put_spans, remove_spans}
use Rattle.nv_store.specs.Rooms.{IsNoRoom}
use Rattle.var_region.specs.declared.new_record.NewRecord.{NewRecord}
use Rattle.var_region.specs.NewRecord.{CanWrite, new_key, new_variable}
use Rattle.var_types.specs.Attributes.{store_of}
use Rattle.var_types.specs.declared.call.SetCall.{SetCall}
use Rattle.var_types.specs.declared.key.Key.{Key}
use Rattle.var_types.specs.declared.reply.SetReply.TheVariants.{Ok as Changed}
use Rattle.var_types.specs.declared.span.Span.{Span}
use Rattle.var_types.specs.declared.store.Store.{Store}
use Rattle.var_types.specs.declared.variable.Variable.{Variable}
use Rattle.var_types.specs.Key.{key_cmp, key_of}
use Rattle.var_types.specs.Name.{name_check}
use Rattle.var_types.specs.Reading.{set_key}
use Rattle.var_types.specs.Set.{changed, set_step}
use Rattle.var_types.specs.Room.{room_limit, room_needed}
use Rattle.var_types.specs.Spans.{IsWritten}
use Rattle.var_types.specs.State.{State, stored_at}
use Rattle.var_types.specs.Stores.{map_in}

-- the variables after an edit: one is put at its key, or the one of a key goes (UEFI 2.10, 8.2.3)
abbrev pub edited : Edit → List (Key × Variable) → List (Key × Variable)
edited (Put new) = with_put (new_key new) (new_variable new)
edited (Remove guid name) = without (key_of guid name.now)

-- the key of an edit
abbrev pub edit_key : Edit → Key
edit_key (Put new) = new_key new
edit_key (Remove guid name) = key_of guid name.now

-- the record that an edit puts, if it puts one, may be written
abbrev pub CanWriteEdit : Edit → Type 0
CanWriteEdit (Put new) = CanWrite new
CanWriteEdit (Remove guid name) = Unit {0}

-- where an edit writes in a store's bytes, as three ranges (this project's own)
unfoldable pub edit_spans : Store → List ℕ → Edit → List Span
edit_spans store bytes (Put new) = put_spans store bytes new
edit_spans store bytes (Remove guid name) = remove_spans store bytes (key_of guid name.now) ++ nowhere ∷ []

-- a store's bytes after an edit: its variables are edited, and they are others where the edit writes alone (this project's own)
pub record IsEdited (store : Store) (edit : Edit) (old new : List ℕ) : Type 0 where
  pub map : map_in store new ≡ edited edit (map_in store old)
  pub written : IsWritten (edit_spans store old edit) old new

-- a variable may be put into a store in a state: its record may be written, it is kept in that store, as what is stored at its key is, and the
-- store has room (UEFI 2.10, 8.2.3)
pub record MayPutIn (state : State) (store : Store) (new : NewRecord) : Type 0 where
  pub can : CanWrite new
  pub in_store : store_of new.attributes ≡ store
  pub alike : IfSome (stored_at state (new_key new)) (λ variable. store_of variable.attributes ≡ store)
  pub room : room_needed state (new_key new) (new_variable new) ≤ room_limit store

-- the variable of a key may go from a store in a state: it is stored there
abbrev pub MayRemoveFrom : State → Store → Key → Type 0
MayRemoveFrom state store key = IsSomeAnd (stored_at state key) (λ variable. store_of variable.attributes ≡ store)

-- an edit that a set in a state may come to
abbrev pub MayEdit : State → Store → Edit → Type 0
MayEdit state store (Put new) = MayPutIn state store new
MayEdit state store (Remove guid name) = MayRemoveFrom state store (key_of guid name.now)

-- a new record may be put into a store's bytes: it may be written, is of that store, and has room there
pub record CanPut (store : Store) (bytes : List ℕ) (new : NewRecord) : Type 0 where
  pub can : CanWrite new
  pub of_store : store_of new.attributes ≡ store
  pub room : (need have : ℕ) → IsNoRoom store bytes new need have → ⊥

-- an edit of a store's bytes can be made: what is put may be put, and what goes is there
abbrev pub CanEdit : Store → List ℕ → Edit → Type 0
CanEdit store bytes (Put new) = CanPut store bytes new
CanEdit store bytes (Remove guid name) = IsSome (lookup (is_at (key_cmp (key_of guid name.now))) (map_in store bytes))

-- a set of the service in a state comes to a write of a variable with these parts at its key: its record may be written, what is stored there is kept in
-- the same store, that has room, and the history holds one more change (UEFI 2.10, 8.2.3)
pub record MayWrite (state : State) (call : SetCall) (variable : Variable) : Type 0 where
  pub named : name_check call.name ≡ Ok tt
  pub known : variable.attributes ≤ 0xFF
  pub few : length variable.bytes ≤ 65536
  pub alike : IfSome (stored_at state (set_key call)) (λ stored. store_of stored.attributes ≡ store_of variable.attributes)
  pub room : room_needed state (set_key call) variable ≤ room_limit (store_of variable.attributes)
  pub step : set_step state call ≡ (Changed, changed state (with_put (set_key call) variable state.variables))
  pub more : state.made < state.limit
