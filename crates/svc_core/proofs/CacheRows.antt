-- The steps of a read that is answered from the cache keep what holds of the world.
use Rattle.std.proofs.Common.{◌≡◌, ◌≢◌, ℕ, ◌+◌, ◌≤◌, true, false, List, ◌∷◌, length, Some, None, refl, sym, ap, subst, ◌∙◌, inl, inr, ⊎_elim, arith}
use Rattle.std.specs.Prelude.{slice_get}
use Rattle.var_trace.specs.Routes.{is_read}
use Rattle.var_trace.specs.StoresAfter.{bytes_at}
use Rattle.var_types.specs.declared.answered.Route.TheVariants.{Cache}
use Rattle.var_types.specs.declared.call.Call.{Call}
use Rattle.var_types.specs.declared.reply.Reply.{Reply}
use Rattle.var_types.specs.Step.{is_change}
use Rattle.svc_core.proofs.Facts.{answers, call_reads, formed_read, looked, own, past_with, read_owes}
use Rattle.svc_core.proofs.Looks.{read_no_change}
use Rattle.svc_core.proofs.Shapes.{low, row_still, row_word}
use Rattle.svc_core.specs.declared.point.Point.TheVariants.{Start, LoadMade, LoadHeld, TakeCache, Look, Unlock, MergeEnter, AskEnter}
use Rattle.svc_core.specs.Invariant.{HasCall, IsConsistent}
use Rattle.svc_core.specs.Stages.{none, reads}
use Rattle.svc_core.specs.World.{Processor, World, answered, done, homed, look, moved}

module _ (w : World) (p : ℕ) (a : Processor) (k : IsConsistent w) (get : slice_get w.processors p ≡ Some a) where
  -- a lock word that is the processor's isn't the writer's side's
  pub mine_free : w.lock ≡ p + 1 → w.lock ≢ 255
  mine_free e f = omega (arith, low w p a a k get, k.bounds.few)

  pub keeps_lock_free : (call : Call) (calls : List Call) → a.point ≡ Start → a.calls ≡ call ∷ calls → is_read call ≡ true → w.lock ≡ 0
      → IsConsistent (record (moved w p a LoadMade) { lock = p + 1 })
  keeps_lock_free call calls at is is_one free =
      let o = own w p a k get Start at in
      let below : p + 1 ≢ 255 = λ e. omega (arith, low w p a a k get, k.bounds.few) in
      let full : w.lock ≢ 255 = λ e. omega arith in
      row_word w p a (record a { point = LoadMade }) k get (p + 1) w.cached (inl free) (inr refl)
      (record { held_is = k.cache.held_is; cache_is = λ e. k.cache.cache_is full; rests = λ e. absurd (omega arith) })
      (record {
        grips = (refl, k.cache.rests free);
        stages = o.stages;
        flushes = λ e. absurd (below e);
        past =
            past_with w.opening w.writer.log w.writer.made w.count p a.calls a.answered none reads None None None None None None None o.past
            (subst (HasCall reads) (sym is) is_one) tt tt tt;
      })

  pub keeps_lock_taken : (call : Call) (calls : List Call) → a.point ≡ Start → a.calls ≡ call ∷ calls → is_read call ≡ true → w.lock ≢ 0
      → IsConsistent (moved w p a (AskEnter w.lock))
  keeps_lock_taken call calls at is is_one busy =
      let o = own w p a k get Start at in
      row_still w p a (record a { point = AskEnter w.lock }) k get
      (record {
        grips = o.grips;
        stages = o.stages;
        flushes = o.flushes;
        past =
            past_with w.opening w.writer.log w.writer.made w.count p a.calls a.answered none reads None None None (Some w.lock) None None None o.past
            (subst (HasCall reads) (sym is) is_one) tt
            (⊎_elim (λ (e : w.lock ≡ 255). inl e) (λ (e : w.lock ≤ w.count). inr (omega arith, e, o.grips)) k.bounds.word) tt;
      })

  pub keeps_load_made : a.point ≡ LoadMade → IsConsistent (moved w p a (LoadHeld w.writer.made))
  keeps_load_made at =
      let o = own w p a k get LoadMade at in
      row_still w p a (record a { point = LoadHeld w.writer.made }) k get
      (record {
        grips = (o.grips.0, o.grips.1, k.cache.held_is);
        stages = o.stages;
        flushes = o.flushes;
        past =
            past_with w.opening w.writer.log w.writer.made w.count p a.calls a.answered reads reads None (Some w.writer.made) None None None None None o.past
            o.past.has (let e : w.writer.made ≤ w.writer.made = omega arith in e, o.past.behind_made) tt tt;
      })

  pub keeps_held_is_made : (made : ℕ) → a.point ≡ LoadHeld made → w.cached.held ≡ made → IsConsistent (moved w p a (TakeCache made))
  keeps_held_is_made made at e =
      let o = own w p a k get (LoadHeld made) at in
      row_still w p a (record a { point = TakeCache made }) k get
      (record { grips = (o.grips.0, o.grips.1, e); stages = o.stages; flushes = o.flushes; past = o.past })

  pub keeps_held_is_behind : (made : ℕ) → a.point ≡ LoadHeld made → w.cached.held ≢ made → IsConsistent (moved w p a (MergeEnter made w.cached.held))
  keeps_held_is_behind made at apart =
      let o = own w p a k get (LoadHeld made) at in
      let most : w.cached.held ≤ made = o.grips.2 in
      row_still w p a (record a { point = MergeEnter made w.cached.held }) k get
      (record { grips = (o.grips.0, o.grips.1, refl, omega arith); stages = o.stages; flushes = o.flushes; past = o.past })

  pub keeps_take_cache : (place : ℕ) → a.point ≡ TakeCache place → IsConsistent (record (moved w p a (Look place)) { cached = homed w.cached false })
  keeps_take_cache place at =
      let o = own w p a k get (TakeCache place) at in
      let mine : w.lock ≡ p + 1 = o.grips.0 in
      row_word w p a (record a { point = Look place }) k get w.lock (homed w.cached false) (inr mine) (inr mine)
      (record { held_is = k.cache.held_is; cache_is = λ e. k.cache.cache_is e; rests = λ e. absurd (omega arith) })
      (record { grips = (o.grips.0, refl, o.grips.2); stages = o.stages; flushes = o.flushes; past = o.past })

  pub keeps_look_in_cache : (place : ℕ) (call : Call) (calls : List Call) → a.point ≡ Look place → a.calls ≡ call ∷ calls
      → IsConsistent (record (moved w p a (Unlock place (look w.cached.cache call))) { cached = homed w.cached true })
  keeps_look_in_cache place call calls at is =
      let o = own w p a k get (Look place) at in
      let mine : w.lock ≡ p + 1 = o.grips.0 in
      let is_one : is_read call ≡ true = call_reads a.calls calls call is o.past.has in
      let held : w.cached.held ≡ place = o.grips.2 in
      let within : place ≤ w.writer.made = o.past.loads.0 in
      let bytes : w.cached.cache ≡ bytes_at w.opening.stores w.writer.log place =
      (k.cache.cache_is (mine_free mine)).0 ∙ ap (bytes_at w.opening.stores w.writer.log) held in
      let right = looked w.opening w.count w.writer.made w.writer.log w.writer.stores w.writer.ranges w.writer.flushed k.history k.bounds.sound w.cached.cache
      place call bytes (omega (arith, k.history.made_in)) is_one in
      row_word w p a (record a { point = Unlock place (look w.cached.cache call) }) k get w.lock (homed w.cached true) (inr mine) (inr mine)
      (record { held_is = k.cache.held_is; cache_is = λ e. k.cache.cache_is e; rests = λ e. refl })
      (record {
        grips = (o.grips.0, refl, o.grips.2);
        stages = o.stages;
        flushes = o.flushes;
        past =
            past_with w.opening w.writer.log w.writer.made w.count p a.calls a.answered reads reads (Some place) None None None None
            (Some (record { place = place; route = Some Cache; reply = look w.cached.cache call; late = true })) None o.past o.past.has tt tt
            (formed_read w.opening w.writer.log w.writer.made w.count p a.calls a.answered call calls is is_one place Cache (look w.cached.cache call) right within
            k.history.made_in o.past.loads.1 tt);
      })

  pub keeps_unlock : (place : ℕ) (reply : Reply) (call : Call) (calls : List Call) → a.point ≡ Unlock place reply → a.calls ≡ call ∷ calls
      → IsConsistent (record (answered w p a call calls place Cache reply) { lock = 0 })
  keeps_unlock place reply call calls at is =
      let o = own w p a k get (Unlock place reply) at in
      let mine : w.lock ≡ p + 1 = o.grips.0 in
      let is_one : is_read o.past.forms.call ≡ true = call_reads a.calls o.past.forms.later o.past.forms.call o.past.forms.calls_are o.past.has in
      let same : is_change reply ≡ false = read_no_change _ o.past.forms.call reply is_one o.past.forms.right.reply_is in
      row_word w p a (done a call calls place Cache reply) k get 0 w.cached (inr mine) (inl refl)
      (record { held_is = k.cache.held_is; cache_is = λ e. k.cache.cache_is (mine_free mine); rests = λ e. o.grips.1 })
      (record {
        grips = λ e. omega arith;
        stages = o.stages;
        flushes = λ e. absurd (omega arith);
        past =
            answers w.opening w.writer.log w.writer.made w.count p a.calls a.answered call calls is Cache
            (record { place = place; route = Some Cache; reply = reply; late = true }) refl refl None reads None None o.past
            (read_owes p (length a.answered) place call calls Cache reply same);
      })
