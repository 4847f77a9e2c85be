-- The steps of a read that merges, or asks the writer's side, keep what holds of the world.
use Rattle.std.proofs.Common.{◌≡◌, ◌≢◌, ℕ, ◌+◌, ◌<◌, ◌≤◌, true, false, List, ◌∷◌, length, Some, None, refl, sym, ap, subst, ◌∙◌, inl, inr, arith}
use Rattle.std.specs.Prelude.{slice_get}
use Rattle.pending_range.specs.Ranges.{AgreeOutside, no_ranges}
use Rattle.runtime_cache.proofs.Merges.{merged_all}
use Rattle.var_trace.specs.Routes.{is_read}
use Rattle.var_trace.specs.StoresAfter.{bytes_at}
use Rattle.var_types.specs.declared.answered.Route.TheVariants.{Merged, Writer as Asked}
use Rattle.var_types.specs.declared.call.Call.{Call}
use Rattle.var_types.specs.declared.reply.Reply.{Reply}
use Rattle.var_types.specs.Step.{is_change}
use Rattle.var_types.specs.Stores.{Stores}
use Rattle.svc_core.proofs.CacheRows.{mine_free}
use Rattle.svc_core.proofs.Coverings.{agree_same}
use Rattle.svc_core.proofs.Facts.{answers, call_reads, formed_read, looked, own, past_with, read_owes}
use Rattle.svc_core.proofs.Frames.{grip_apart}
use Rattle.svc_core.proofs.Looks.{read_no_change}
use Rattle.svc_core.proofs.Shapes.{row_back, row_desk, row_still, row_word}
use Rattle.svc_core.specs.declared.point.Point.TheVariants.{MergeEnter, MergeLoadMade, MergeTakeCache, Merge, MergePutCache, MergeLeave, MergeUnlock}
use Rattle.svc_core.specs.declared.point.Point.TheVariants.{AskEnter, AskLook, AskLeave}
use Rattle.svc_core.specs.Invariant.{AreBelow, History, IsConsistent}
use Rattle.svc_core.specs.Rows.{merged_cache, swept}
use Rattle.svc_core.specs.Stages.{reads}
use Rattle.svc_core.specs.World.{CacheSide, Processor, World, answered, done, homed, look, moved}

module _ (w : World) (k : IsConsistent w) where
  -- a cache of the stores after some number of changes is the stores, once it has taken what the ranges cover
  pub merged_is : (n : ℕ) → w.cached.cache ≡ bytes_at w.opening.stores w.writer.log n → w.writer.flushed ≤ n → n ≤ length w.writer.log
      → merged_cache w ≡ w.writer.stores
  merged_is n is after within =
      merged_all w.writer.ranges w.cached.cache w.writer.stores
      (subst (λ (s : Stores). AgreeOutside w.writer.ranges s w.writer.stores) (sym is) (k.history.outside n after within))

  -- behind a merge no range is left, and made may be the length of the history
  pub swept_history : (made : ℕ) → made ≤ length w.writer.log
      → History w.opening w.count made w.writer.log w.writer.stores no_ranges (length w.writer.log)
  swept_history made within = record {
    made_in = within;
    room = k.history.room;
    stores_are = k.history.stores_are;
    sizes = k.history.sizes;
    outside = λ n after before.
        let last : n ≡ length w.writer.log = omega arith in
        subst (λ (s : Stores). AgreeOutside no_ranges s w.writer.stores) (k.history.stores_are ∙ ap (bytes_at w.opening.stores w.writer.log) (sym last))
        (agree_same no_ranges w.writer.stores);
    means = k.history.means;
    changes = k.history.changes;
    known = k.history.known;
  }

module _ (w : World) (p : ℕ) (a : Processor) (k : IsConsistent w) (get : slice_get w.processors p ≡ Some a) where
  pub keeps_merge_enter : (made held : ℕ) → a.point ≡ MergeEnter made held → w.writer_lock ≡ 0
      → IsConsistent (record (moved w p a (MergeLoadMade made held)) { writer_lock = p + 1 })
  keeps_merge_enter made held at free =
      let o = own w p a k get (MergeEnter made held) at in
      let mine : w.lock ≡ p + 1 = o.grips.0 in
      row_desk w p a (record a { point = MergeLoadMade made held }) k get (p + 1) (inl free) (inr refl) (mine_free w p a k get mine)
      (λ e. absurd (omega arith))
      (record { grips = o.grips; stages = (refl, k.rests free); flushes = λ e. absurd (mine_free w p a k get mine e); past = o.past })

  pub keeps_merge_load_made : (made held : ℕ) → a.point ≡ MergeLoadMade made held → IsConsistent (moved w p a (MergeTakeCache made held w.writer.made))
  keeps_merge_load_made made held at =
      let o = own w p a k get (MergeLoadMade made held) at in
      row_still w p a (record a { point = MergeTakeCache made held w.writer.made }) k get
      (record { grips = o.grips; stages = (o.stages.0, o.stages.1, refl); flushes = o.flushes; past = o.past })

  pub keeps_merge_take_cache : (made held place : ℕ) → a.point ≡ MergeTakeCache made held place
      → IsConsistent (record (moved w p a (Merge made held place)) { cached = homed w.cached false })
  keeps_merge_take_cache made held place at =
      let o = own w p a k get (MergeTakeCache made held place) at in
      let mine : w.lock ≡ p + 1 = o.grips.0 in
      row_word w p a (record a { point = Merge made held place }) k get w.lock (homed w.cached false) (inr mine) (inr mine)
      (record { held_is = k.cache.held_is; cache_is = λ e. k.cache.cache_is e; rests = λ e. absurd (omega arith) })
      (record { grips = (o.grips.0, refl, o.grips.2, o.grips.3); stages = o.stages; flushes = o.flushes; past = o.past })

  pub keeps_merge : (made held place : ℕ) (call : Call) (calls : List Call) → a.point ≡ Merge made held place → a.calls ≡ call ∷ calls
      → IsConsistent
      (record (moved w p a (MergePutCache made held place (look (merged_cache w) call)))
      { cached = record { held = place; home = false; cache = merged_cache w }; writer = swept w.writer })
  keeps_merge made held place call calls at is =
      let o = own w p a k get (Merge made held place) at in
      let mine : w.lock ≡ p + 1 = o.grips.0 in
      let desk : w.writer_lock ≡ p + 1 = o.stages.0 in
      let level : length w.writer.log ≡ w.writer.made = o.stages.1.0 in
      let counted : place ≡ w.writer.made = o.stages.2 in
      let cache = k.cache.cache_is (mine_free w p a k get mine) in
      let is_one : is_read call ≡ true = call_reads a.calls calls call is o.past.has in
      let new : CacheSide = record { held = place; home = false; cache = merged_cache w } in
      let all : merged_cache w ≡ w.writer.stores = merged_is w k w.cached.held cache.0 cache.1 (omega (arith, k.cache.held_is, k.history.made_in)) in
      let bytes : merged_cache w ≡ bytes_at w.opening.stores w.writer.log place =
      all ∙ k.history.stores_are ∙ ap (bytes_at w.opening.stores w.writer.log) (level ∙ sym counted) in
      let right = looked w.opening w.count w.writer.made w.writer.log w.writer.stores w.writer.ranges w.writer.flushed k.history k.bounds.sound (merged_cache w)
      place call bytes (omega arith) is_one in
      let loaded : made ≤ w.writer.made = o.past.loads.0 in
      let low_held : held < made = o.grips.3 in
      row_back w p a (record a { point = MergePutCache made held place (look (merged_cache w) call) }) k get new (swept w.writer) desk
      (swept_history w k w.writer.made k.history.made_in)
      (record { held_is = omega arith; cache_is = λ e. (bytes, omega arith); rests = λ e. absurd (omega arith) })
      (λ q g apart below old.
      grip_apart w.lock w.lock w.cached new q g (λ e. apart (let z : q ≡ p = omega arith in z)) (λ e. apart (let z : q ≡ p = omega arith in z)) old)
      (λ q calls answered in_call load find form entry apart old. old)
      (record {
        grips = (o.grips.0, refl, refl);
        stages = o.stages;
        flushes = o.flushes;
        past =
            past_with w.opening w.writer.log w.writer.made w.count p a.calls a.answered reads reads (Some made) None None None None
            (Some (record { place = place; route = Some (Merged made held); reply = look (merged_cache w) call; late = true })) None o.past o.past.has tt tt
            (formed_read w.opening w.writer.log w.writer.made w.count p a.calls a.answered call calls is is_one place (Merged made held)
            (look (merged_cache w) call) right (omega arith) k.history.made_in (subst (λ (n : ℕ). AreBelow n a.answered) (sym counted) o.past.behind_made) (low_held, omega arith));
      })

  pub keeps_merge_put_cache : (made held place : ℕ) (reply : Reply) → a.point ≡ MergePutCache made held place reply
      → IsConsistent (record (moved w p a (MergeLeave made held place reply)) { cached = homed w.cached true })
  keeps_merge_put_cache made held place reply at =
      let o = own w p a k get (MergePutCache made held place reply) at in
      let mine : w.lock ≡ p + 1 = o.grips.0 in
      row_word w p a (record a { point = MergeLeave made held place reply }) k get w.lock (homed w.cached true) (inr mine) (inr mine)
      (record { held_is = k.cache.held_is; cache_is = λ e. k.cache.cache_is e; rests = λ e. refl })
      (record { grips = (o.grips.0, refl, o.grips.2); stages = o.stages; flushes = o.flushes; past = o.past })

  pub keeps_merge_leave : (made held place : ℕ) (reply : Reply) → a.point ≡ MergeLeave made held place reply
      → IsConsistent (record (moved w p a (MergeUnlock made held place reply)) { writer_lock = 0 })
  keeps_merge_leave made held place reply at =
      let o = own w p a k get (MergeLeave made held place reply) at in
      let mine : w.lock ≡ p + 1 = o.grips.0 in
      row_desk w p a (record a { point = MergeUnlock made held place reply }) k get 0 (inr o.stages.0) (inl refl) (mine_free w p a k get mine)
      (λ e. o.stages.1)
      (record { grips = o.grips; stages = λ e. omega arith; flushes = λ e. absurd (mine_free w p a k get mine e); past = o.past })

  pub keeps_merge_unlock : (made held place : ℕ) (reply : Reply) (call : Call) (calls : List Call) → a.point ≡ MergeUnlock made held place reply
      → a.calls ≡ call ∷ calls → IsConsistent (record (answered w p a call calls place (Merged made held) reply) { lock = 0 })
  keeps_merge_unlock made held place reply call calls at is =
      let o = own w p a k get (MergeUnlock made held place reply) at in
      let mine : w.lock ≡ p + 1 = o.grips.0 in
      let is_one : is_read o.past.forms.call ≡ true = call_reads a.calls o.past.forms.later o.past.forms.call o.past.forms.calls_are o.past.has in
      let same : is_change reply ≡ false = read_no_change _ o.past.forms.call reply is_one o.past.forms.right.reply_is in
      row_word w p a (done a call calls place (Merged made held) reply) k get 0 w.cached (inr mine) (inl refl)
      (record { held_is = k.cache.held_is; cache_is = λ e. k.cache.cache_is (mine_free w p a k get mine); rests = λ e. o.grips.1 })
      (record {
        grips = λ e. omega arith;
        stages = o.stages;
        flushes = λ e. absurd (omega arith);
        past =
            answers w.opening w.writer.log w.writer.made w.count p a.calls a.answered call calls is (Merged made held)
            (record { place = place; route = Some (Merged made held); reply = reply; late = true }) refl refl None reads None None o.past
            (read_owes p (length a.answered) place call calls (Merged made held) reply same);
      })

  pub keeps_ask_enter : (holder : ℕ) → a.point ≡ AskEnter holder → w.writer_lock ≡ 0
      → IsConsistent (record (moved w p a (AskLook holder)) { writer_lock = p + 1 })
  keeps_ask_enter holder at free =
      let o = own w p a k get (AskEnter holder) at in
      let no : w.lock ≢ 255 = λ e. k.bounds.keeper e free in
      row_desk w p a (record a { point = AskLook holder }) k get (p + 1) (inl free) (inr refl) no (λ e. absurd (omega arith))
      (record { grips = o.grips; stages = (refl, k.rests free); flushes = λ e. absurd (no e); past = o.past })

  pub keeps_ask_look : (holder : ℕ) (call : Call) (calls : List Call) → a.point ≡ AskLook holder → a.calls ≡ call ∷ calls
      → IsConsistent (moved w p a (AskLeave holder w.writer.made (look w.writer.stores call)))
  keeps_ask_look holder call calls at is =
      let o = own w p a k get (AskLook holder) at in
      let level : length w.writer.log ≡ w.writer.made = o.stages.1.0 in
      let is_one : is_read call ≡ true = call_reads a.calls calls call is o.past.has in
      let bytes : w.writer.stores ≡ bytes_at w.opening.stores w.writer.log w.writer.made =
      k.history.stores_are ∙ ap (bytes_at w.opening.stores w.writer.log) level in
      let right = looked w.opening w.count w.writer.made w.writer.log w.writer.stores w.writer.ranges w.writer.flushed k.history k.bounds.sound w.writer.stores
      w.writer.made call bytes k.history.made_in is_one in
      row_still w p a (record a { point = AskLeave holder w.writer.made (look w.writer.stores call) }) k get
      (record {
        grips = o.grips;
        stages = (o.stages.0, o.stages.1, refl);
        flushes = o.flushes;
        past =
            past_with w.opening w.writer.log w.writer.made w.count p a.calls a.answered reads reads None None (Some holder) None None
            (Some (record { place = w.writer.made; route = Some (Asked holder); reply = look w.writer.stores call; late = true })) None o.past o.past.has tt tt
            (formed_read w.opening w.writer.log w.writer.made w.count p a.calls a.answered call calls is is_one w.writer.made (Asked holder)
            (look w.writer.stores call) right (omega arith) k.history.made_in o.past.behind_made o.past.finds);
      })

  pub keeps_ask_leave : (holder place : ℕ) (reply : Reply) (call : Call) (calls : List Call) → a.point ≡ AskLeave holder place reply
      → a.calls ≡ call ∷ calls → IsConsistent (record (answered w p a call calls place (Asked holder) reply) { writer_lock = 0 })
  keeps_ask_leave holder place reply call calls at is =
      let o = own w p a k get (AskLeave holder place reply) at in
      let no : w.lock ≢ 255 = λ e. o.flushes e o.stages.0 in
      let is_one : is_read o.past.forms.call ≡ true = call_reads a.calls o.past.forms.later o.past.forms.call o.past.forms.calls_are o.past.has in
      let same : is_change reply ≡ false = read_no_change _ o.past.forms.call reply is_one o.past.forms.right.reply_is in
      row_desk w p a (done a call calls place (Asked holder) reply) k get 0 (inr o.stages.0) (inl refl) no (λ e. o.stages.1)
      (record {
        grips = o.grips;
        stages = λ e. omega arith;
        flushes = λ e. absurd (no e);
        past =
            answers w.opening w.writer.log w.writer.made w.count p a.calls a.answered call calls is (Asked holder)
            (record { place = place; route = Some (Asked holder); reply = reply; late = true }) refl refl None reads None None o.past
            (read_owes p (length a.answered) place call calls (Asked holder) reply same);
      })
