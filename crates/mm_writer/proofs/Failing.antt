-- When a set may answer that the flash failed.
use Rattle.std.proofs.Common.{◌≡◌, ◌⊎◌, true, cond, Option, Some, None, sym, ap, subst, ◌∙◌, inl, inr, true≢false, is_eq}
use Rattle.std.proofs.lemmas.Cmp.{tied_itself}
use Rattle.std.specs.BTreeMap.{is_at}
use Rattle.std.specs.Map.{lookup}
use Rattle.std.specs.Prelude.{IsSomeAnd}
use Rattle.mm_writer.proofs.Edits.{non_volatile_there, same_part}
use Rattle.mm_writer.specs.declared.edit.Edit.{Edit}
use Rattle.mm_writer.specs.declared.edit.Edit.TheVariants.{Put, Remove}
use Rattle.mm_writer.specs.Edit.{MayEdit, edit_key, edited}
use Rattle.mm_writer.specs.Outcome.{IsAnswered}
use Rattle.mm_writer.specs.Side.{IsConsistent, Side, state_of}
use Rattle.var_region.specs.NewRecord.{new_key, new_variable}
use Rattle.var_types.proofs.Entries.{lookup-insert_entry}
use Rattle.var_types.proofs.Keys.{key_cmp_total}
use Rattle.var_types.specs.Attributes.{has, non_volatile_bit, store_of}
use Rattle.var_types.specs.declared.call.Call.TheVariants.{Set as SetCalled}
use Rattle.var_types.specs.declared.call.SetCall.{SetCall}
use Rattle.var_types.specs.declared.reply.Reply.TheVariants.{Set as SetReplied}
use Rattle.var_types.specs.declared.reply.SetReply.{SetReply}
use Rattle.var_types.specs.declared.reply.SetReply.TheVariants.{Device, Ok as Changed}
use Rattle.var_types.specs.declared.store.Store.TheVariants.{NonVolatile}
use Rattle.var_types.specs.declared.variable.Variable.{Variable}
use Rattle.var_types.specs.DeviceErrors.{HasNonVolatile, IsNonVolatileChange}
use Rattle.var_types.specs.Key.{key_cmp, key_of}
use Rattle.var_types.specs.Reading.{set_key}
use Rattle.var_types.specs.Set.{changed, set_step}
use Rattle.var_types.specs.State.{State, stored_at}
use Rattle.var_types.specs.Stores.{part}

module _ (side : Side) (c : IsConsistent side) (edit : Edit) (call : SetCall) (may : MayEdit (state_of side) NonVolatile edit) (is : set_step (state_of side) call ≡ (Changed, changed (state_of side) (edited edit (state_of side).variables))) where
  -- the variables that the set leaves in the non-volatile store
  pub part_left : part NonVolatile (set_step (state_of side) call).1.variables ≡ edited edit (part NonVolatile (state_of side).variables)
  part_left =
      ap (λ (o : SetReply × State). part NonVolatile o.1.variables) is
      ∙ sym (same_part (state_of side) c.sound.ordered NonVolatile edit may)

  -- a non-volatile variable was stored, or is now
  non_volatile_change : edit_key edit ≡ set_key call → HasNonVolatile (state_of side) (set_key call) ⊎ HasNonVolatile (set_step (state_of side) call).1 (set_key call)
  non_volatile_change same = by edit may same is
    where
      there : (found : Option Variable) → IsSomeAnd found (λ variable. store_of variable.attributes ≡ NonVolatile)
          → IsSomeAnd found (λ variable. has variable.attributes non_volatile_bit ≡ true)
      there None h = h
      there (Some variable) h = non_volatile_there variable h

      by : (e : Edit) → MayEdit (state_of side) NonVolatile e → edit_key e ≡ set_key call
          → set_step (state_of side) call ≡ (Changed, changed (state_of side) (edited e (state_of side).variables))
          → HasNonVolatile (state_of side) (set_key call) ⊎ HasNonVolatile (set_step (state_of side) call).1 (set_key call)
      by (Put new) can key step =
          let next = changed (state_of side) (edited (Put new) (state_of side).variables) in
          let found : stored_at next (new_key new) ≡ Some (new_variable new) =
          lookup-insert_entry key_cmp_total (new_key new) (new_variable new) (state_of side).variables (new_key new)
          ∙ ap (λ b. cond b (Some (new_variable new)) (lookup (is_at (key_cmp (new_key new))) (state_of side).variables))
          (ap is_eq (tied_itself key_cmp_total (new_key new))) in
          inr
          (subst (λ (s : State). HasNonVolatile s (set_key call)) (sym (ap (λ (o : SetReply × State). o.1) step))
          (subst (HasNonVolatile next) key
          (subst (λ o. IsSomeAnd o (λ (variable : Variable). has variable.attributes non_volatile_bit ≡ true)) (sym found)
          (non_volatile_there (new_variable new) can.in_store))))
      by (Remove guid name) can key step =
          inl (subst (HasNonVolatile (state_of side)) key (there (stored_at (state_of side) (key_of guid name.now)) can))

  -- so the set is a change of one
  pub is_change_of_one : edit_key edit ≡ set_key call → IsNonVolatileChange (state_of side) call
  is_change_of_one same = record { changes = ap (λ (o : SetReply × State). o.0) is; non_volatile = non_volatile_change same }

  -- and may answer that the flash failed
  pub answered_device : edit_key edit ≡ set_key call → (next : Side) → next ≡ side → (processor index : _)
      → IsAnswered side next processor index (SetCalled call) (SetReplied Device)
  answered_device same next left processor index = record {
    right = record { same = λ _ h. absurd (true≢false h); device = λ _. is_change_of_one same };
    change = λ h. absurd (true≢false (sym h));
    same = λ _. left;
  }
