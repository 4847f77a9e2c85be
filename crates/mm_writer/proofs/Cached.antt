-- A cache that takes what the pending ranges cover has the stores of the writer's side, and nothing is pending then.
use Rattle.std.proofs.Common.{◌≡◌, ⊎_elim, ℕ, List, [], ◌∷◌, length, Option, sym, ap, subst, ◌∙◌, arith, length-append}
use Rattle.std.proofs.lemmas.Bool.{cases_Bool}
use Rattle.mm_writer.specs.Behind.{IsBehind, merged_side}
use Rattle.mm_writer.specs.declared.books.Books.{Books}
use Rattle.mm_writer.specs.Doubt.{SetInDoubt}
use Rattle.mm_writer.specs.Engine.{IsEngine, opened_side, opened_stores, side_by}
use Rattle.mm_writer.specs.Outcome.{IsAnswered, entry_after}
use Rattle.mm_writer.specs.Side.{IsConsistent, Side, first_state, state_of}
use Rattle.pending_range.specs.declared.ranges.Ranges.{Ranges}
use Rattle.pending_range.specs.Laws.{AgreementIsReflexive}
use Rattle.pending_range.specs.Ranges.{AgreeOutside, no_ranges}
use Rattle.policy_table.specs.PolicyState.{PolicyState}
use Rattle.runtime_cache.specs.Merged.{MergedCachesAreTheStores, merged}
use Rattle.set_rules.specs.declared.room_totals.RoomTotals.{RoomTotals}
use Rattle.var_trace.proofs.StoresAfter.{are_after}
use Rattle.var_trace.specs.declared.change.Change.{Change}
use Rattle.var_trace.specs.Laws.{ChangesFollowTheHistory}
use Rattle.var_trace.specs.StoreChange.{StoreChange}
use Rattle.var_trace.specs.StoresAfter.{bytes_at}
use Rattle.var_types.specs.declared.call.Call.{Call}
use Rattle.var_types.specs.declared.reply.Reply.{Reply}
use Rattle.var_types.specs.Step.{is_change}
use Rattle.var_types.specs.Stores.{Stores}

module _ (side : Side) (c : IsConsistent side) where
  -- the stores after all changes are those now
  pub bytes_now : ChangesFollowTheHistory → side.stores ≡ bytes_at side.opening side.log (length side.log)
  bytes_now follow = c.stores ∙ sym (follow side.opening side.log []).all

  -- a cache that is behind has them once it has taken what is pending
  pub merged_is : MergedCachesAreTheStores → (cache : Stores) → IsBehind side cache → merged side.ranges cache side.stores ≡ side.stores
  merged_is merges cache behind =
      merges side.ranges cache side.stores
      (subst (λ (s : Stores). AgreeOutside side.ranges s side.stores) (sym behind.is) (c.pending behind.taken behind.least behind.most))

  -- the side is consistent then
  consistent_merged : ChangesFollowTheHistory → AgreementIsReflexive → IsConsistent (merged_side side)
  unfolding state_of first_state
  consistent_merged follow same = record {
    stores = c.stores;
    means = c.means;
    made = c.made;
    limit = c.limit;
    sound = c.sound;
    flushed = omega arith;
    pending = λ b low within.
        subst (λ (s : Stores). AgreeOutside no_ranges s side.stores)
        (bytes_now follow ∙ ap (bytes_at side.opening side.log) (let all : length side.log ≡ b = omega (arith, low, within) in all))
        (same no_ranges side.stores);
  }

-- and the engine keeps what it has to
pub engine_merged : ChangesFollowTheHistory → AgreementIsReflexive → (side : Side) (totals : RoomTotals) (table : PolicyState) (set : SetInDoubt) (doubt : Option (List ℕ))
    → IsEngine side totals table set doubt → IsEngine (merged_side side) totals table set doubt
unfolding state_of first_state
engine_merged follow same side totals table set doubt engine = record {
  kept = record {
    consistent = consistent_merged side engine.kept.consistent follow same;
    rooms = engine.kept.rooms;
    policies = engine.kept.policies;
  };
  doubted = engine.doubted;
}

-- the side whose ranges were cleared, and whose changes count as taken
pub side_merged : (opened mirror volatile : List ℕ) (books : Books) (ranges : Ranges) (flushed : ℕ) → ranges ≡ no_ranges → flushed ≡ length books.trace.log
    → side_by opened mirror volatile (record books { ranges = ranges; flushed = flushed }) ≡ merged_side (side_by opened mirror volatile books)
side_merged opened mirror volatile books ranges flushed none all = λ i.
    let side : Side = record (side_by opened mirror volatile books) { ranges = none i; flushed = all i } in
    side

-- ---- a cache that is behind

-- the stores at an opening are
pub behind_opened : (volume : List ℕ) (limit : ℕ) (side : Side) (cache : Stores) → side ≡ opened_side volume limit → cache ≡ opened_stores volume → IsBehind side cache
behind_opened volume limit side cache is stores =
    subst (λ (s : Side). IsBehind s cache) (sym is) (record { taken = 0; least = omega arith; most = omega arith; is = stores })

-- one that is stays behind over a call
pub behind_answered : (old new : Side) (processor index : ℕ) (call : Call) (reply : Reply) → IsAnswered old new processor index call reply → (cache : Stores)
    → IsBehind old cache → IsBehind new cache
behind_answered old new processor index call reply answered cache behind =
    ⊎_elim
    (λ changes.
    let grows = answered.change changes in
    let size = ap (λ (log : List Change). length log) grows.log in
    let more = length-append old.log (change_of grows.delta ∷ []) in
    let least = behind.least in
    let most = behind.most in
    let flushed = grows.flushed in
    record {
      taken = behind.taken;
      least = omega (arith, least, flushed);
      most = omega (arith, most, size, more);
      is =
          behind.is ∙ sym ((are_after old.opening old.log (change_of grows.delta ∷ [])).same behind.taken behind.most)
          ∙ (λ i. bytes_at (sym grows.opening i) (sym grows.log i) behind.taken);
    })
    (λ same. subst (λ (s : Side). IsBehind s cache) (sym (answered.same same)) behind) (cases_Bool (is_change reply))
  where
    change_of : StoreChange → Change
    change_of delta = record { entry = entry_after old processor index call; delta = delta }

-- and one that has taken all is
pub behind_merged : (side next : Side) (cache : Stores) → next ≡ merged_side side → cache ≡ bytes_at side.opening side.log (length side.log) → IsBehind next cache
behind_merged side next cache is all =
    subst (λ (s : Side). IsBehind s cache) (sym is)
    (record { taken = length side.log; least = omega arith; most = omega arith; is = all })
