-- An edit of the volatile store is no change of a non-volatile variable.
use Rattle.std.proofs.Common.{◌≡◌, true, Option, Some, None, IfSome, cond, is_eq, ⊎_elim, sym, ap, subst, ◌∙◌}
use Rattle.std.proofs.lemmas.Cmp.{tied_itself}
use Rattle.std.specs.BTreeMap.{is_at}
use Rattle.std.specs.Map.{lookup}
use Rattle.std.specs.Prelude.{IsSomeAnd}
use Rattle.mm_writer.proofs.Filtered.{at_without}
use Rattle.mm_writer.specs.declared.edit.Edit.{Edit}
use Rattle.mm_writer.specs.declared.edit.Edit.TheVariants.{Put, Remove}
use Rattle.mm_writer.specs.Edit.{MayEdit, edit_key, edited}
use Rattle.var_region.specs.NewRecord.{new_key, new_variable}
use Rattle.var_types.proofs.Entries.{lookup-insert_entry}
use Rattle.var_types.proofs.Keys.{key_cmp_total}
use Rattle.var_types.specs.Attributes.{has, non_volatile_bit, store_of}
use Rattle.var_types.specs.declared.call.SetCall.{SetCall}
use Rattle.var_types.specs.declared.reply.SetReply.{SetReply}
use Rattle.var_types.specs.declared.reply.SetReply.TheVariants.{Ok as Changed}
use Rattle.var_types.specs.declared.store.Store.TheVariants.{NonVolatile, Volatile}
use Rattle.var_types.specs.declared.variable.Variable.{Variable}
use Rattle.var_types.specs.DeviceErrors.{HasNonVolatile, IsNonVolatileChange}
use Rattle.var_types.specs.Key.{key_cmp, key_of}
use Rattle.var_types.specs.Reading.{set_key}
use Rattle.var_types.specs.Set.{changed, set_step}
use Rattle.var_types.specs.State.{State, stored_at}
use Rattle.var_types.specs.TwoRegionsLaws.{AreOrdered}

-- no variable is kept in both stores
one_store : (variable : Variable) → store_of variable.attributes ≡ Volatile → has variable.attributes non_volatile_bit ≡ true → ⊥
one_store variable volatile set =
    let here : store_of variable.attributes ≡ NonVolatile = ap (λ b. cond b NonVolatile Volatile) set in by (sym here ∙ volatile)
  where
    by : NonVolatile ≡ Volatile → ⊥
    by h = cc

not_in_both : (found : Option Variable) → IfSome found (λ variable. store_of variable.attributes ≡ Volatile)
    → IsSomeAnd found (λ variable. has variable.attributes non_volatile_bit ≡ true) → ⊥
not_in_both None volatile set = set
not_in_both (Some variable) volatile set = one_store variable volatile set

if_there : (found : Option Variable) → IsSomeAnd found (λ variable. store_of variable.attributes ≡ Volatile)
    → IfSome found (λ variable. store_of variable.attributes ≡ Volatile)
if_there None h = tt
if_there (Some variable) h = h

module _ (state : State) (ordered : AreOrdered state.variables) (call : SetCall) where
  pub not_non_volatile : (edit : Edit) → MayEdit state Volatile edit → edit_key edit ≡ set_key call
      → set_step state call ≡ (Changed, changed state (edited edit state.variables)) → IsNonVolatileChange state call → ⊥
  not_non_volatile (Put new) may key step change =
      let next = changed state (edited (Put new) state.variables) in
      let found : stored_at next (new_key new) ≡ Some (new_variable new) =
      lookup-insert_entry key_cmp_total (new_key new) (new_variable new) state.variables (new_key new)
      ∙ ap (λ b. cond b (Some (new_variable new)) (lookup (is_at (key_cmp (new_key new))) state.variables))
      (ap is_eq (tied_itself key_cmp_total (new_key new))) in
      ⊎_elim
      (λ (before : HasNonVolatile state (set_key call)).
      not_in_both (stored_at state (new_key new)) may.alike (subst (HasNonVolatile state) (sym key) before))
      (λ (after : HasNonVolatile (set_step state call).1 (set_key call)).
      one_store (new_variable new) may.in_store
      (subst (λ o. IsSomeAnd o (λ (variable : Variable). has variable.attributes non_volatile_bit ≡ true)) found
      (subst (HasNonVolatile next) (sym key)
      (subst (λ (s : State). HasNonVolatile s (set_key call)) (ap (λ (o : SetReply × State). o.1) step) after))))
      change.non_volatile
  not_non_volatile (Remove guid name) may key step change =
      let gone = key_of guid name.now in
      let next = changed state (edited (Remove guid name) state.variables) in
      let none : stored_at next gone ≡ None =
      at_without gone state.variables ordered gone
      ∙ ap (λ b. cond b None (lookup (is_at (key_cmp gone)) state.variables)) (ap is_eq (tied_itself key_cmp_total gone)) in
      ⊎_elim
      (λ (before : HasNonVolatile state (set_key call)).
      not_in_both (stored_at state gone) (if_there (stored_at state gone) may) (subst (HasNonVolatile state) (sym key) before))
      (λ (after : HasNonVolatile (set_step state call).1 (set_key call)).
      subst (λ o. IsSomeAnd o (λ (variable : Variable). has variable.attributes non_volatile_bit ≡ true)) none
      (subst (HasNonVolatile next) (sym key)
      (subst (λ (s : State). HasNonVolatile s (set_key call)) (ap (λ (o : SetReply × State). o.1) step) after)))
      change.non_volatile
