-- The side after an edit of one of its stores.
use Rattle.std.proofs.Common.{◌≡◌, ℕ, ◌≤◌, List, length, map, take, slice_index, refl, sym, ap, subst, ◌∙◌, arith}
use Rattle.std.proofs.lemmas.List.{length-map, take_all}
use Rattle.mm_writer.proofs.Consistent.{consistent_grown}
use Rattle.mm_writer.proofs.Edits.{means_edited}
use Rattle.mm_writer.specs.declared.edit.Edit.{Edit}
use Rattle.mm_writer.specs.Edit.{MayEdit, edited}
use Rattle.mm_writer.specs.Side.{IsConsistent, Side, first_state, grown, state_of}
use Rattle.pending_range.specs.declared.ranges.Ranges.{Ranges}
use Rattle.pending_range.specs.Laws.{AgreementGrows, AgreementIsReflexive}
use Rattle.pending_range.specs.Ranges.{AgreeOutside, IsCovered, IsWider}
use Rattle.var_trace.specs.declared.change.Change.{Change}
use Rattle.var_trace.specs.Pieces.{with_change}
use Rattle.var_trace.specs.StoreChange.{StoreChange}
use Rattle.var_trace.specs.StoresAfter.{history_in, stores_after}
use Rattle.var_types.specs.declared.call.Call.TheVariants.{Set}
use Rattle.var_types.specs.declared.call.SetCall.{SetCall}
use Rattle.var_types.specs.declared.reply.SetReply.{SetReply}
use Rattle.var_types.specs.declared.reply.SetReply.TheVariants.{Ok as Changed}
use Rattle.var_types.specs.declared.store.Store.{Store}
use Rattle.var_types.specs.declared.store.Store.TheVariants.{NonVolatile, Volatile}
use Rattle.var_types.specs.History.{Entry, run}
use Rattle.var_types.specs.Set.{changed, set_step}
use Rattle.var_types.specs.State.{State}
use Rattle.var_types.specs.Step.{step}
use Rattle.var_types.specs.Stores.{Means, Stores, bytes_in, map_in, with_store}

-- the stores of a consistent side mean its state
pub means_now : (side : Side) → IsConsistent side → Means side.stores (state_of side)
unfolding state_of
means_now side c =
    let n = length side.log in
    let all : length side.log ≤ n = omega arith in
    let entries : length (history_in side.log) ≤ n = omega (arith, length-map side.log (λ (change : Change). change.entry)) in
    subst (λ (s : Stores). Means s (run (first_state side) (history_in side.log)))
    (ap (stores_after side.opening) (take_all n side.log all) ∙ sym c.stores)
    (subst (λ (es : List Entry). Means (stores_after side.opening (take n side.log)) (run (first_state side) es)) (take_all n (history_in side.log) entries)
    (c.means n (let low : n ≤ length side.log = omega arith in low)))

-- stores of which one was written agree outside of what covers its changes
pub agree_written : (ranges : Ranges) (stores : Stores) (store : Store) (new : List ℕ) → length new ≡ length (bytes_in stores store)
    → ((at : ℕ) → (IsCovered ranges store at → ⊥) → slice_index new at ≡ slice_index (bytes_in stores store) at)
    → AgreeOutside ranges stores (with_store stores store new)
agree_written ranges stores NonVolatile new len covered = record { sizes = sizes; outside = outside }
  where
    sizes : (s : Store) → length (bytes_in stores s) ≡ length (bytes_in (with_store stores NonVolatile new) s)
    sizes NonVolatile = sym len
    sizes Volatile = refl

    outside : (s : Store) (at : ℕ) → (IsCovered ranges s at → ⊥)
        → slice_index (bytes_in stores s) at ≡ slice_index (bytes_in (with_store stores NonVolatile new) s) at
    outside NonVolatile at out = sym (covered at out)
    outside Volatile at out = refl
agree_written ranges stores Volatile new len covered = record { sizes = sizes; outside = outside }
  where
    sizes : (s : Store) → length (bytes_in stores s) ≡ length (bytes_in (with_store stores Volatile new) s)
    sizes NonVolatile = refl
    sizes Volatile = sym len

    outside : (s : Store) (at : ℕ) → (IsCovered ranges s at → ⊥)
        → slice_index (bytes_in stores s) at ≡ slice_index (bytes_in (with_store stores Volatile new) s) at
    outside NonVolatile at out = refl
    outside Volatile at out = sym (covered at out)

-- what a set that is a change leaves
pub step_set : (state : State) (call : SetCall) (next : State) → set_step state call ≡ (Changed, next) → (step state (Set call)).1 ≡ next
unfolding step
step_set state call next is = ap (λ (o : SetReply × State). o.1) is

module _ (grows : AgreementGrows) (same : AgreementIsReflexive) (side : Side) (c : IsConsistent side) (store : Store) (edit : Edit) (may : MayEdit (state_of side) store edit) (call : SetCall) (is : set_step (state_of side) call ≡ (Changed, changed (state_of side) (edited edit (state_of side).variables))) where
  -- the side after an edit that a set comes to is consistent
  pub consistent_edited : (entry : Entry) (delta : StoreChange) (new : List ℕ) (ranges : Ranges) → entry.call ≡ Set call
      → map_in store new ≡ edited edit (map_in store (bytes_in side.stores store)) → with_change side.stores delta ≡ with_store side.stores store new
      → IsWider side.ranges ranges → length new ≡ length (bytes_in side.stores store)
      → ((at : ℕ) → (IsCovered ranges store at → ⊥) → slice_index new at ≡ slice_index (bytes_in side.stores store) at)
      → IsConsistent (grown side (record { entry = entry; delta = delta }) (with_store side.stores store new) ranges)
  consistent_edited entry delta new ranges of map writes wider len covered =
      let state = state_of side in
      let next : State = changed state (edited edit state.variables) in
      let left : (step state entry.call).1 ≡ next = ap (λ call. (step state call).1) of ∙ step_set state call next is in
      consistent_grown side (record { entry = entry; delta = delta }) grows same (with_store side.stores store new) ranges c (sym writes)
      (subst (Means (with_store side.stores store new)) (sym left)
      (means_edited side.stores state store edit new c.sound.ordered (means_now side c) may map))
      (ap (λ (s : State). s.made) left) (ap (λ (s : State). s.limit) left) wider (agree_written ranges side.stores store new len covered)
