-- What an edit of one store leaves: the stores mean the state after it.
use Rattle.std.proofs.Common.{◌≡◌, Bool, true, false, cond, not, List, Option, Some, None, IfSome, refl, sym, ap, ◌∙◌}
use Rattle.std.proofs.lemmas.Map.Entries.{option_filter}
use Rattle.std.specs.Prelude.{IsSomeAnd}
use Rattle.mm_writer.proofs.Filtered.{picked, picked_put, picked_put_other, picked_removed, picked_removed_other}
use Rattle.mm_writer.specs.declared.edit.Edit.{Edit}
use Rattle.mm_writer.specs.declared.edit.Edit.TheVariants.{Put, Remove}
use Rattle.mm_writer.specs.Edit.{MayEdit, edited}
use Rattle.var_region.specs.NewRecord.{new_key, new_variable}
use Rattle.var_types.specs.Attributes.{has, non_volatile_bit, store_of}
use Rattle.var_types.specs.declared.key.Key.{Key}
use Rattle.var_types.specs.declared.store.Store.{Store}
use Rattle.var_types.specs.declared.store.Store.TheVariants.{NonVolatile, Volatile}
use Rattle.var_types.specs.declared.variable.Variable.{Variable}
use Rattle.var_types.specs.Key.{key_of}
use Rattle.var_types.specs.Set.{changed}
use Rattle.var_types.specs.State.{State, stored_at}
use Rattle.var_types.specs.Stores.{Means, Stores, bytes_in, is_in, map_in, part, with_store}
use Rattle.var_types.specs.TwoRegionsLaws.{AreOrdered}

-- whether a variable is kept in a store
unfoldable pub kept_in : Store → Variable → Bool
kept_in NonVolatile variable = has variable.attributes non_volatile_bit
kept_in Volatile variable = not (has variable.attributes non_volatile_bit)

-- the other store
abbrev other : Store → Store
other NonVolatile = Volatile
other Volatile = NonVolatile

-- the variables that are kept in a store are those that a test of them picks
pub part_picked : (store : Store) (es : List (Key × Variable)) → part store es ≡ picked (kept_in store) es
unfolding is_in kept_in
part_picked NonVolatile es = refl
part_picked Volatile es = refl

-- a variable is kept in its store
pub kept_there : (store : Store) (variable : Variable) → store_of variable.attributes ≡ store → kept_in store variable ≡ true
unfolding kept_in
kept_there NonVolatile variable is = by (has variable.attributes non_volatile_bit) is
  where
    by : (b : Bool) → cond b NonVolatile Volatile ≡ NonVolatile → b ≡ true
    by true h = refl
    by false h = cc
kept_there Volatile variable is = by (has variable.attributes non_volatile_bit) is
  where
    by : (b : Bool) → cond b NonVolatile Volatile ≡ Volatile → not b ≡ true
    by true h = cc
    by false h = refl

-- one of the non-volatile store is non-volatile
pub non_volatile_there : (variable : Variable) → store_of variable.attributes ≡ NonVolatile → has variable.attributes non_volatile_bit ≡ true
unfolding kept_in
non_volatile_there variable is = kept_there NonVolatile variable is

-- and not in the other
kept_not : (store : Store) (variable : Variable) → store_of variable.attributes ≡ store → kept_in (other store) variable ≡ false
unfolding kept_in
kept_not NonVolatile variable is = by (has variable.attributes non_volatile_bit) is
  where
    by : (b : Bool) → cond b NonVolatile Volatile ≡ NonVolatile → not b ≡ false
    by true h = refl
    by false h = cc
kept_not Volatile variable is = by (has variable.attributes non_volatile_bit) is
  where
    by : (b : Bool) → cond b NonVolatile Volatile ≡ Volatile → b ≡ false
    by true h = cc
    by false h = refl

-- what is stored in one store isn't picked from the other
none_picked : (store : Store) (found : Option Variable) → IfSome found (λ variable. store_of variable.attributes ≡ store)
    → option_filter (kept_in (other store)) found ≡ None
none_picked store None alike = refl
none_picked store (Some variable) alike = ap (λ b. cond b (Some variable) None) (kept_not store variable alike)

-- what is there is there if anything is
pub there_if : (P : Variable → Type 0) (found : Option Variable) → IsSomeAnd found P → IfSome found P
there_if P None there = absurd there
there_if P (Some variable) there = there

module _ (state : State) (ordered : AreOrdered state.variables) (store : Store) where
  -- the edited part of its own store is the part of the edited variables
  pub same_part : (edit : Edit) → MayEdit state store edit → edited edit (part store state.variables) ≡ part store (edited edit state.variables)
  same_part (Put new) may =
      ap (edited (Put new)) (part_picked store state.variables)
      ∙ sym (picked_put (kept_in store) (new_key new) state.variables ordered (new_variable new) (kept_there store (new_variable new) may.in_store))
      ∙ sym (part_picked store (edited (Put new) state.variables))
  same_part (Remove guid name) may =
      ap (edited (Remove guid name)) (part_picked store state.variables)
      ∙ sym (picked_removed (kept_in store) (key_of guid name.now) state.variables ordered)
      ∙ sym (part_picked store (edited (Remove guid name) state.variables))

  -- the part of the other store stays
  pub other_part : (edit : Edit) → MayEdit state store edit → part (other store) state.variables ≡ part (other store) (edited edit state.variables)
  other_part (Put new) may =
      part_picked (other store) state.variables
      ∙ sym (picked_put_other (kept_in (other store)) (new_key new) state.variables ordered (new_variable new) (kept_not store (new_variable new) may.in_store)
      (none_picked store (stored_at state (new_key new)) may.alike))
      ∙ sym (part_picked (other store) (edited (Put new) state.variables))
  other_part (Remove guid name) may =
      let key = key_of guid name.now in
      part_picked (other store) state.variables
      ∙ sym (picked_removed_other (kept_in (other store)) key state.variables ordered
      (none_picked store (stored_at state key) (there_if (λ variable. store_of variable.attributes ≡ store) (stored_at state key) may)))
      ∙ sym (part_picked (other store) (edited (Remove guid name) state.variables))

-- the stores after an edit of one of them mean the state with the edited variables
pub means_edited : (stores : Stores) (state : State) (store : Store) (edit : Edit) (new : List _) → AreOrdered state.variables → Means stores state
    → MayEdit state store edit → map_in store new ≡ edited edit (map_in store (bytes_in stores store))
    → Means (with_store stores store new) (changed state (edited edit state.variables))
means_edited stores state NonVolatile edit new ordered means may is = record {
  each = by;
  phase = means.phase;
}
  where
    by : (s : Store) → map_in s (bytes_in (with_store stores NonVolatile new) s) ≡ part s (edited edit state.variables)
    by NonVolatile = is ∙ ap (edited edit) (means.each NonVolatile) ∙ same_part state ordered NonVolatile edit may
    by Volatile = means.each Volatile ∙ other_part state ordered NonVolatile edit may
means_edited stores state Volatile edit new ordered means may is = record {
  each = by;
  phase = means.phase;
}
  where
    by : (s : Store) → map_in s (bytes_in (with_store stores Volatile new) s) ≡ part s (edited edit state.variables)
    by Volatile = is ∙ ap (edited edit) (means.each Volatile) ∙ same_part state ordered Volatile edit may
    by NonVolatile = means.each NonVolatile ∙ other_part state ordered Volatile edit may
