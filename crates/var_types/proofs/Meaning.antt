-- Stores that mean a state: reads of them are reads of the state.
use Rattle.std.proofs.Common.{◌≡◌, Option, Some, None, Result, Ok, Err, refl, subst, sym, ap, ◌∙◌}
use Rattle.var_types.proofs.Joined.{apart-parts, joined-parts}
use Rattle.var_types.specs.declared.call.GetCall.{GetCall}
use Rattle.var_types.specs.declared.call.NextCall.{NextCall}
use Rattle.var_types.specs.declared.name.NameFault.{NameFault}
use Rattle.var_types.specs.declared.name.NameFault.TheVariants.{Empty, TooLong, InnerNul}
use Rattle.var_types.specs.declared.store.Store.TheVariants.{NonVolatile, Volatile}
use Rattle.var_types.specs.declared.variable.Variable.{Variable}
use Rattle.var_types.specs.Get.{get_found, get_reply, visible_named}
use Rattle.var_types.specs.Name.{name_check}
use Rattle.var_types.specs.Key.{key_of}
use Rattle.var_types.specs.Next.{next_above, next_behind, next_named, next_reply}
use Rattle.var_types.specs.State.{State, visible_at}
use Rattle.var_types.specs.Stores.{Means, Stores, is_in, map_in, part, state_in, state_seen, state_with}
use Rattle.var_types.specs.TwoRegions.{AreApart, joined}
use Rattle.var_types.specs.TwoRegionsLaws.{AreOrdered}

module _ (state : State) where
  -- the state's variables and phase alone
  abbrev seen : State
  seen = state_with state.variables state.runtime

  -- a get looks at nothing else
  get_of_seen : (call : GetCall) → get_reply seen call ≡ get_reply state call
  unfolding get_reply
  get_of_seen call = by (name_check call.name)
    where
      by : (check : Result (Unit {0}) NameFault)
          → get_found (visible_named seen call.guid call.name check) call.room ≡ get_found (visible_named state call.guid call.name check) call.room
      by (Ok u) = refl
      by (Err fault) = refl

  -- nor does a next
  next_of_seen : (call : NextCall) → next_reply seen call ≡ next_reply state call
  unfolding next_reply next_named next_above
  next_of_seen call = by (name_check call.name)
    where
      behind : (found : Option Variable) → next_behind seen call found ≡ next_behind state call found
      behind None = refl
      behind (Some variable) = refl

      by : (check : Result (Unit {0}) NameFault) → next_named seen call check ≡ next_named state call check
      by (Ok u) = behind (visible_at state (key_of call.guid call.name))
      by (Err Empty) = refl
      by (Err (TooLong units)) = refl
      by (Err (InnerNul at)) = refl

module _ (stores : Stores) (state : State) (ordered : AreOrdered state.variables) (means : Means stores state) where
  -- the stores have no key in both
  pub apart_stores : AreApart (map_in NonVolatile stores.non_volatile) (map_in Volatile stores.volatile)
  unfolding is_in
  apart_stores =
      let parts = apart-parts (is_in NonVolatile) state.variables ordered in
      subst (λ xs. AreApart xs (map_in Volatile stores.volatile)) (sym (means.each NonVolatile))
      (subst (AreApart (part NonVolatile state.variables)) (sym (means.each Volatile)) parts)

  -- the variables of both are the state's
  joined_stores : joined (map_in NonVolatile stores.non_volatile) (map_in Volatile stores.volatile) ≡ state.variables
  unfolding is_in
  joined_stores =
      (λ i. joined (means.each NonVolatile i) (means.each Volatile i)) ∙ joined-parts (is_in NonVolatile) state.variables ordered

  -- what readers of the stores see is what readers of the state do
  seen_stores : state_in stores ≡ state_with state.variables state.runtime
  unfolding state_in state_seen map_in
  seen_stores = λ i. state_with (joined_stores i) (means.phase i)

  pub get_of_stores : (call : GetCall) → get_reply (state_in stores) call ≡ get_reply state call
  get_of_stores call = ap (λ s. get_reply s call) seen_stores ∙ get_of_seen state call

  pub next_of_stores : (call : NextCall) → next_reply (state_in stores) call ≡ next_reply state call
  next_of_stores call = ap (λ s. next_reply s call) seen_stores ∙ next_of_seen state call
