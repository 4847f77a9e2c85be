-- The steps of a change behind the history's new entry keep what holds of the world.
use Rattle.std.proofs.Common.{◌≡◌, ◌≢◌, ℕ, ◌+◌, ◌≤◌, Bool, true, false, List, ◌∷◌, ◌++◌, length, Some, None, refl, sym, ap, subst, ◌∙◌, inl, inr, ⊎_elim, arith}
use Rattle.std.specs.Prelude.{slice_get, if◌then◌else◌}
use Rattle.var_trace.specs.Routes.{IsRouteBy}
use Rattle.var_trace.specs.StoresAfter.{bytes_at}
use Rattle.var_types.specs.declared.answered.Route.{Route}
use Rattle.var_types.specs.declared.answered.Route.TheVariants.{Flushed, Deferred}
use Rattle.var_types.specs.declared.call.Call.{Call}
use Rattle.var_types.specs.declared.reply.Reply.{Reply}
use Rattle.var_types.specs.Session.{changes_from}
use Rattle.var_types.specs.Step.{is_change}
use Rattle.svc_core.proofs.Facts.{answers, call_writes, deferred_change, flushed_change, own, past_with, write_owes}
use Rattle.svc_core.proofs.Frames.{grip_apart, past_raised}
use Rattle.svc_core.proofs.MergeRows.{merged_is, swept_history}
use Rattle.svc_core.proofs.Shapes.{low, row_back, row_desk, row_flush, row_still}
use Rattle.svc_core.specs.declared.point.Point.TheVariants.{TryLock, FlushTakeCache, Flush, FlushSwapHeld, FlushPutCache, FlushUnlock, Defer, Leave}
use Rattle.svc_core.specs.Invariant.{HasCall, IsConsistent, IsFormed, owed}
use Rattle.svc_core.specs.Rows.{merged_cache, swept}
use Rattle.svc_core.specs.Stages.{writes}
use Rattle.svc_core.specs.World.{CacheSide, Processor, World, answered, done, homed, moved}

module _ (w : World) (p : ℕ) (a : Processor) (k : IsConsistent w) (get : slice_get w.processors p ≡ Some a) where
  -- the lock word of the writer's side is no processor's
  side_free : 255 ≢ p + 1
  side_free e = omega (arith, low w p a a k get, k.bounds.few)

  -- a formed change, that made is yet to count, with a route of the writer's side
  routed_form : (place : ℕ) (reply : Reply) (route : Route) → HasCall writes a.calls
      → IsFormed w.opening w.writer.log w.writer.made w.count p a.calls a.answered (record { place = place; route = None; reply = reply; late = false })
      → IsRouteBy false true w.count p place route
      → IsFormed w.opening w.writer.log w.writer.made w.count p a.calls a.answered (record { place = place; route = Some route; reply = reply; late = false })
  routed_form place reply route has form routed = record {
    call = form.call;
    later = form.later;
    calls_are = form.calls_are;
    right = form.right;
    within = form.within;
    behind_all = form.behind_all;
    routed =
        subst (λ (b : Bool). IsRouteBy b (is_change reply) w.count p place route) (sym (call_writes a.calls form.later form.call form.calls_are has))
        (subst (λ (b : Bool). IsRouteBy false b w.count p place route) (sym (form.change refl)) routed);
    below = λ late. cc;
    change = form.change;
  }

  pub keeps_flush_lock : (place : ℕ) (reply : Reply) → a.point ≡ TryLock place reply → w.lock ≡ 0
      → IsConsistent (record (moved w p a (FlushTakeCache place reply)) { lock = 255 })
  keeps_flush_lock place reply at free =
      let o = own w p a k get (TryLock place reply) at in
      let no : w.lock ≢ 255 = λ e. omega arith in
      row_flush w p a (record a { point = FlushTakeCache place reply }) k get 255 w.cached o.stages.0 (inl free) (inr refl)
      (record { held_is = k.cache.held_is; cache_is = λ e. absurd (e refl); rests = λ e. absurd (omega arith) })
      (record {
        grips = side_free;
        stages = o.stages;
        flushes = (refl, o.stages.0, k.cache.rests free, k.cache.cache_is no);
        past =
            past_with w.opening w.writer.log w.writer.made w.count p a.calls a.answered writes writes None None None None
            (Some (record { place = place; route = None; reply = reply; late = false }))
            (Some (record { place = place; route = Some Flushed; reply = reply; late = false })) (Some place) o.past o.past.has tt tt
            (routed_form place reply Flushed o.past.has o.past.forms tt);
      })

  pub keeps_flush_later : (place : ℕ) (reply : Reply) → a.point ≡ TryLock place reply → w.lock ≢ 0
      → IsConsistent (moved w p a (Defer place reply w.lock))
  keeps_flush_later place reply at busy =
      let o = own w p a k get (TryLock place reply) at in
      let no : w.lock ≢ 255 = λ e. o.flushes e o.stages.0 in
      let most : w.lock ≤ w.count = ⊎_elim (λ (e : w.lock ≡ 255). absurd (no e)) (λ (e : w.lock ≤ w.count). e) k.bounds.word in
      row_still w p a (record a { point = Defer place reply w.lock }) k get
      (record {
        grips = o.grips;
        stages = o.stages;
        flushes = o.flushes;
        past =
            past_with w.opening w.writer.log w.writer.made w.count p a.calls a.answered writes writes None None None (Some w.lock)
            (Some (record { place = place; route = None; reply = reply; late = false }))
            (Some (record { place = place; route = Some (Deferred w.lock); reply = reply; late = false })) (Some place) o.past o.past.has tt
            (omega arith, most, o.grips) (routed_form place reply (Deferred w.lock) o.past.has o.past.forms (omega arith, most, o.grips));
      })

  pub keeps_flush_take_cache : (place : ℕ) (reply : Reply) → a.point ≡ FlushTakeCache place reply
      → IsConsistent (record (moved w p a (Flush place reply)) { cached = homed w.cached false })
  keeps_flush_take_cache place reply at =
      let o = own w p a k get (FlushTakeCache place reply) at in
      let lock : w.lock ≡ 255 = o.flushes.0 in
      row_flush w p a (record a { point = Flush place reply }) k get w.lock (homed w.cached false) o.stages.0 (inr lock) (inr lock)
      (record { held_is = k.cache.held_is; cache_is = λ e. absurd (e lock); rests = λ e. absurd (omega arith) })
      (record { grips = o.grips; stages = o.stages; flushes = (o.flushes.0, o.flushes.1, refl, o.flushes.3); past = o.past })

  -- a formed change, once made counts it
  late_form : (place : ℕ) (reply : Reply) (route : Route) → place ≡ w.writer.made
      → IsFormed w.opening w.writer.log w.writer.made w.count p a.calls a.answered (record { place = place; route = Some route; reply = reply; late = false })
      → IsFormed w.opening w.writer.log (w.writer.made + 1) w.count p a.calls a.answered
      (record { place = place; route = Some route; reply = reply; late = true })
  late_form place reply route here form = record {
    call = form.call;
    later = form.later;
    calls_are = form.calls_are;
    right = form.right;
    within = omega arith;
    behind_all = form.behind_all;
    routed = form.routed;
    below = λ late change. omega arith;
    change = λ late. cc;
  }

  pub keeps_flush : (place : ℕ) (reply : Reply) → a.point ≡ Flush place reply
      → IsConsistent
      (record (moved w p a (FlushSwapHeld place reply))
      { cached = record w.cached { cache = merged_cache w }; writer = record (swept w.writer) { made = w.writer.made + 1 } })
  keeps_flush place reply at =
      let o = own w p a k get (Flush place reply) at in
      let lock : w.lock ≡ 255 = o.flushes.0 in
      let level : length w.writer.log ≡ w.writer.made + 1 = o.stages.1 in
      let here : place ≡ w.writer.made = o.stages.2 in
      let new : CacheSide = record w.cached { cache = merged_cache w } in
      let all : merged_cache w ≡ w.writer.stores =
      merged_is w k w.cached.held o.flushes.3.0 o.flushes.3.1 (omega (arith, k.cache.held_is, k.history.made_in)) in
      let bytes : merged_cache w ≡ bytes_at w.opening.stores w.writer.log (w.writer.made + 1) =
      all ∙ k.history.stores_are ∙ ap (bytes_at w.opening.stores w.writer.log) level in
      row_back w p a (record a { point = FlushSwapHeld place reply }) k get new (record (swept w.writer) { made = w.writer.made + 1 }) o.stages.0
      (swept_history w k (w.writer.made + 1) (omega arith))
      (record { held_is = omega (arith, k.cache.held_is); cache_is = λ e. absurd (e lock); rests = λ e. absurd (omega arith) })
      (λ q g apart below old. grip_apart w.lock w.lock w.cached new q g (λ e. omega arith) (λ e. omega arith) old)
      (λ q cs xs in_call load find form entry apart old.
      past_raised w.opening w.writer.log w.writer.made (w.writer.made + 1) w.count q cs xs (omega arith) in_call load find form entry old)
      (record {
        grips = o.grips;
        stages = (o.stages.0, (level, o.stages.3));
        flushes = (o.flushes.0, o.flushes.1, o.flushes.2, (bytes, omega arith));
        past =
            past_with w.opening w.writer.log (w.writer.made + 1) w.count p a.calls a.answered writes writes None None None None
            (Some (record { place = place; route = Some Flushed; reply = reply; late = false }))
            (Some (record { place = place; route = Some Flushed; reply = reply; late = true })) (Some place)
            (past_raised w.opening w.writer.log w.writer.made (w.writer.made + 1) w.count p a.calls a.answered (omega arith) writes None None
            (Some (record { place = place; route = Some Flushed; reply = reply; late = false })) (Some place) o.past)
            o.past.has tt tt (late_form place reply Flushed here o.past.forms);
      })

  pub keeps_flush_swap_held : (place : ℕ) (reply : Reply) → a.point ≡ FlushSwapHeld place reply
      → IsConsistent (record (moved w p a (FlushPutCache place reply)) { cached = record w.cached { held = w.writer.made } })
  keeps_flush_swap_held place reply at =
      let o = own w p a k get (FlushSwapHeld place reply) at in
      let lock : w.lock ≡ 255 = o.flushes.0 in
      row_flush w p a (record a { point = FlushPutCache place reply }) k get w.lock (record w.cached { held = w.writer.made }) o.stages.0 (inr lock) (inr lock)
      (record { held_is = omega arith; cache_is = λ e. absurd (e lock); rests = λ e. absurd (omega arith) })
      (record { grips = o.grips; stages = o.stages; flushes = o.flushes; past = o.past })

  pub keeps_flush_put_cache : (place : ℕ) (reply : Reply) → a.point ≡ FlushPutCache place reply
      → IsConsistent (record (moved w p a (FlushUnlock place reply)) { cached = homed w.cached true })
  keeps_flush_put_cache place reply at =
      let o = own w p a k get (FlushPutCache place reply) at in
      let lock : w.lock ≡ 255 = o.flushes.0 in
      row_flush w p a (record a { point = FlushUnlock place reply }) k get w.lock (homed w.cached true) o.stages.0 (inr lock) (inr lock)
      (record { held_is = k.cache.held_is; cache_is = λ e. absurd (e lock); rests = λ e. refl })
      (record { grips = o.grips; stages = o.stages; flushes = (o.flushes.0, o.flushes.1, refl, o.flushes.3); past = o.past })

  -- what a change owes doesn't depend on how that is said
  same_owed : (place : ℕ) (reply : Reply) → is_change reply ≡ true
      → owed (Some place) p (length a.answered) a.calls ≡ owed (if is_change reply then Some place else None) p (length a.answered) a.calls
  same_owed place reply change = ap (λ (b : Bool). owed (if b then Some place else None) p (length a.answered) a.calls) (sym change)

  pub keeps_flush_unlock : (place : ℕ) (reply : Reply) → a.point ≡ FlushUnlock place reply
      → IsConsistent (record (moved w p a (Leave place reply Flushed)) { lock = 0 })
  keeps_flush_unlock place reply at =
      let o = own w p a k get (FlushUnlock place reply) at in
      let lock : w.lock ≡ 255 = o.flushes.0 in
      let form = o.past.forms in
      let change : is_change reply ≡ true =
      flushed_change form.call (is_change reply) w.count p place (call_writes a.calls form.later form.call form.calls_are o.past.has) form.routed in
      row_flush w p a (record a { point = Leave place reply Flushed }) k get 0 w.cached o.stages.0 (inr lock) (inl refl)
      (record { held_is = k.cache.held_is; cache_is = λ e. o.flushes.3; rests = λ e. o.flushes.2 })
      (record {
        grips = λ e. omega arith;
        stages = o.stages;
        flushes = λ e. absurd (omega arith);
        past = record {
          has = o.past.has;
          right = o.past.right;
          ordered = o.past.ordered;
          behind_made = o.past.behind_made;
          routed = o.past.routed;
          once = o.past.once ∙ ap (λ es. changes_from p 0 a.answered ++ es) (same_owed place reply change);
          loads = tt;
          finds = tt;
          forms = form;
        };
      })

  pub keeps_defer : (place : ℕ) (reply : Reply) (holder : ℕ) → a.point ≡ Defer place reply holder
      → IsConsistent (record (moved w p a (Leave place reply (Deferred holder))) { writer = record w.writer { made = w.writer.made + 1 } })
  keeps_defer place reply holder at =
      let o = own w p a k get (Defer place reply holder) at in
      let level : length w.writer.log ≡ w.writer.made + 1 = o.stages.1 in
      let here : place ≡ w.writer.made = o.stages.2 in
      let form = o.past.forms in
      let change : is_change reply ≡ true =
      deferred_change form.call (is_change reply) w.count p place holder (call_writes a.calls form.later form.call form.calls_are o.past.has) form.routed in
      let raised = past_raised w.opening w.writer.log w.writer.made (w.writer.made + 1) w.count p a.calls a.answered (omega arith) writes None (Some holder)
      (Some (record { place = place; route = Some (Deferred holder); reply = reply; late = false })) (Some place) o.past in
      row_back w p a (record a { point = Leave place reply (Deferred holder) }) k get w.cached (record w.writer { made = w.writer.made + 1 }) o.stages.0
      (record {
        made_in = omega arith;
        room = k.history.room;
        stores_are = k.history.stores_are;
        sizes = k.history.sizes;
        outside = k.history.outside;
        means = k.history.means;
        changes = k.history.changes;
        known = k.history.known;
      })
      (record { held_is = omega (arith, k.cache.held_is); cache_is = k.cache.cache_is; rests = k.cache.rests })
      (λ q g apart below old. old)
      (λ q cs xs in_call load find form entry apart old.
      past_raised w.opening w.writer.log w.writer.made (w.writer.made + 1) w.count q cs xs (omega arith) in_call load find form entry old)
      (record {
        grips = o.grips;
        stages = (o.stages.0, (level, o.stages.3));
        flushes = o.flushes;
        past = record {
          has = o.past.has;
          right = o.past.right;
          ordered = o.past.ordered;
          behind_made = raised.behind_made;
          routed = o.past.routed;
          once = o.past.once ∙ ap (λ es. changes_from p 0 a.answered ++ es) (same_owed place reply change);
          loads = tt;
          finds = tt;
          forms = late_form place reply (Deferred holder) here form;
        };
      })

  pub keeps_leave : (place : ℕ) (reply : Reply) (route : Route) (call : Call) (calls : List Call) → a.point ≡ Leave place reply route
      → a.calls ≡ call ∷ calls → IsConsistent (record (answered w p a call calls place route reply) { writer_lock = 0 })
  keeps_leave place reply route call calls at is =
      let o = own w p a k get (Leave place reply route) at in
      let no : w.lock ≢ 255 = λ e. o.flushes e o.stages.0 in
      row_desk w p a (done a call calls place route reply) k get 0 (inr o.stages.0) (inl refl) no (λ e. o.stages.1)
      (record {
        grips = o.grips;
        stages = λ e. omega arith;
        flushes = λ e. absurd (no e);
        past =
            answers w.opening w.writer.log w.writer.made w.count p a.calls a.answered call calls is route
            (record { place = place; route = Some route; reply = reply; late = true }) refl refl (if is_change reply then Some place else None) writes None None
            o.past (write_owes p (length a.answered) place call calls route reply);
      })
