-- The steps of a call that may change the state, up to the history's new entry, keep what holds of the world.
use Rattle.std.proofs.Common.{◌≡◌, ◌≢◌, ℕ, ◌+◌, ◌≤◌, Bool, true, false, cond, List, [], ◌∷◌, ◌++◌, length, Some, None, refl, sym, ap, subst, ◌∙◌, inl, inr, arith}
use Rattle.std.specs.Prelude.{slice_get, if◌then◌else◌}
use Rattle.std.proofs.lemmas.Bool.{eq-eqb}
use Rattle.std.proofs.lemmas.List.{append-nil}
use Rattle.var_trace.specs.declared.change.Change.{Change}
use Rattle.var_trace.specs.Pieces.{with_change}
use Rattle.var_trace.specs.Routes.{IsRouteBy, is_read}
use Rattle.var_trace.specs.StoresAfter.{bytes_at, history_in}
use Rattle.var_types.proofs.Sessions.{slice_get-seam}
use Rattle.var_types.specs.declared.answered.Route.TheVariants.{Plain}
use Rattle.var_types.specs.declared.call.Call.{Call}
use Rattle.var_types.specs.declared.reply.Reply.{Reply}
use Rattle.var_types.specs.History.{Entry}
use Rattle.var_types.specs.Kept.{kept}
use Rattle.var_types.specs.Session.{changes_from, entries_of}
use Rattle.var_types.specs.State.{State}
use Rattle.var_types.specs.Step.{is_change, step}
use Rattle.var_types.specs.Stores.{Means, Stores}
use Rattle.svc_core.proofs.Facts.{call_writes, own, past_with, reply_of_step}
use Rattle.svc_core.proofs.Frames.{all_right_more, entries_more, past_more}
use Rattle.svc_core.proofs.Histories.{bytes_same, grown, history_more, length-history, length-more, state_same}
use Rattle.svc_core.proofs.Shapes.{low, row_back, row_desk}
use Rattle.svc_core.specs.declared.flash_step.FlashStep.{FlashStep}
use Rattle.svc_core.specs.declared.point.Point.TheVariants.{Start, Decide, Write, TryLock, Leave}
use Rattle.svc_core.specs.FlashSteps.{after_step}
use Rattle.svc_core.specs.Invariant.{AreBelow, HasCall, IsConsistent, Planning, owed}
use Rattle.svc_core.specs.Plan.{IsChangePlan, IsPlan}
use Rattle.svc_core.specs.Ranges.{covering}
use Rattle.svc_core.specs.Stages.{none, writes}
use Rattle.svc_core.specs.World.{Processor, World, WriterSide, moved}
use Rattle.svc_core.specs.Writer.{Writer, kept_after, state_at}

module _ (w : World) (p : ℕ) (a : Processor) (k : IsConsistent w) (get : slice_get w.processors p ≡ Some a) where
  pub keeps_enter : (call : Call) (calls : List Call) → a.point ≡ Start → a.calls ≡ call ∷ calls → is_read call ≡ false → w.writer_lock ≡ 0
      → IsConsistent (record (moved w p a Decide) { writer_lock = p + 1 })
  keeps_enter call calls at is is_other free =
      let o = own w p a k get Start at in
      let no : w.lock ≢ 255 = λ e. k.bounds.keeper e free in
      row_desk w p a (record a { point = Decide }) k get (p + 1) (inl free) (inr refl) no (λ e. absurd (omega arith))
      (record {
        grips = o.grips;
        stages = (refl, k.rests free);
        flushes = λ e. absurd (no e);
        past =
            past_with w.opening w.writer.log w.writer.made w.count p a.calls a.answered none writes None None None None None None None o.past
            (subst (HasCall writes) (sym is) is_other) tt tt tt;
      })

  -- the writer's own is the world's
  abbrev even_own : Writer
  even_own = record { log = w.writer.log; stores = w.writer.stores; image = w.writer.flash }

  pub keeps_decide_no_change : (call : Call) (calls : List Call) (reply : Reply) (new : Writer) → a.point ≡ Decide → a.calls ≡ call ∷ calls
      → IsPlan w.opening w.writer.own p (length a.answered) call (record { reply = reply; steps = []; change = None }) new
      → IsConsistent (record (moved w p a (Leave w.writer.made reply Plain)) { writer = record w.writer { own = new } })
  keeps_decide_no_change call calls reply new at is plan =
      let o = own w p a k get Decide at in
      let desk : w.writer_lock ≡ p + 1 = o.stages.0 in
      let level : length w.writer.log ≡ w.writer.made = o.stages.1.0 in
      let even = o.stages.1.1 in
      let is_other : is_read call ≡ false = call_writes a.calls calls call is o.past.has in
      let same : is_change reply ≡ false = plan.outcome.0 in
      let stays : new ≡ w.writer.own = plan.outcome.2 in
      let reply_is : reply ≡ (step (state_at w.opening w.writer.log w.writer.made) call).0 =
      plan.reply ∙ ap (λ (x : Writer). (step (state_at w.opening x.log (length x.log)) call).0) even.same
      ∙ ap (λ (n : ℕ). (step (state_at w.opening w.writer.log n) call).0) level in
      row_back w p a (record a { point = Leave w.writer.made reply Plain }) k get w.cached (record w.writer { own = new }) desk k.history k.cache
      (λ q g apart below old. old) (λ q cs xs in_call load find form entry apart old. old)
      (record {
        grips = o.grips;
        stages = (desk, (level, record { same = stays ∙ even.same; keeps = even.keeps }));
        flushes = o.flushes;
        past = record {
          has = o.past.has;
          right = o.past.right;
          ordered = o.past.ordered;
          behind_made = o.past.behind_made;
          routed = o.past.routed;
          once =
              o.past.once
              ∙ ap (λ (b : Bool). changes_from p 0 a.answered ++ owed (if b then Some w.writer.made else None) p (length a.answered) a.calls) (sym same);
          loads = tt;
          finds = tt;
          forms = record {
            call = call;
            later = calls;
            calls_are = is;
            right = record {
              in_history = omega (arith, length-history w.writer.log, level);
              reply_is = reply_of_step (state_at w.opening w.writer.log w.writer.made) call reply reply_is;
              one_entry = λ change. let lost : true ≡ false = sym change ∙ same in cc;
            };
            within = omega arith;
            behind_all = o.past.behind_made;
            routed =
                subst (λ (b : Bool). IsRouteBy b (is_change reply) w.count p w.writer.made Plain) (sym is_other)
                (subst (λ (b : Bool). IsRouteBy false b w.count p w.writer.made Plain) (sym same) refl);
            below = λ late change. let lost : true ≡ false = sym change ∙ same in cc;
            change = λ late. cc;
          };
        };
      })

  -- a change is planned from where the writer stands
  planning : (call : Call) (calls : List Call) (reply : Reply) (steps : List FlashStep) (change : Change) (new before : Writer) → before ≡ even_own
      → a.calls ≡ call ∷ calls → length w.writer.log ≡ w.writer.made → is_change reply ≡ true
      → reply ≡ (step (state_at w.opening before.log (length before.log)) call).0
      → IsChangePlan w.opening before p (length a.answered) call steps change new
      → Planning w.opening w.writer.made w.writer.log w.writer.stores w.writer.flash new p a.calls (length a.answered) w.writer.made reply steps change
  planning call calls reply steps change new before same is level changes reply_is plan =
      let plan' : IsChangePlan w.opening even_own p (length a.answered) call steps change new =
      subst (λ (x : Writer). IsChangePlan w.opening x p (length a.answered) call steps change new) same plan in
      record {
        none_ahead = level;
        room = plan'.room;
        place_is = refl;
        own_log = plan'.log;
        own_stores = plan'.stores;
        own_image = plan'.image;
        inside = plan'.inside;
        fit = plan'.fit;
        means = subst (λ (l : List Change). Means new.stores (state_at w.opening l (length w.writer.log + 1))) plan'.log plan'.means;
        moments = plan'.moments;
        end = plan'.end ∙ ap (λ (l : List Change). kept_after w.opening l (length w.writer.log + 1)) plan'.log;
        call = call;
        later = calls;
        calls_are = is;
        entry =
            plan'.entry
            ∙ ap (λ (n : ℕ). let e : Entry = record { number = n; processor = p; index = length a.answered; call = call } in e) level;
        changes = changes;
        reply_is = reply_is ∙ ap (λ (x : Writer). (step (state_at w.opening x.log (length x.log)) call).0) same;
      }

  pub keeps_decide_change : (call : Call) (calls : List Call) (reply : Reply) (steps : List FlashStep) (change : Change) (new : Writer) → a.point ≡ Decide
      → a.calls ≡ call ∷ calls
      → IsPlan w.opening w.writer.own p (length a.answered) call (record { reply = reply; steps = steps; change = Some change }) new
      → IsConsistent (record (moved w p a (Write w.writer.made reply steps change)) { writer = record w.writer { own = new } })
  keeps_decide_change call calls reply steps change new at is plan =
      let o = own w p a k get Decide at in
      let desk : w.writer_lock ≡ p + 1 = o.stages.0 in
      row_back w p a (record a { point = Write w.writer.made reply steps change }) k get w.cached (record w.writer { own = new }) desk k.history k.cache
      (λ q g apart below old. old) (λ q cs xs in_call load find form entry apart old. old)
      (record {
        grips = o.grips;
        stages = (
          desk,
          planning call calls reply steps change new w.writer.own o.stages.1.1.same is o.stages.1.0 plan.outcome.0 plan.reply plan.outcome.1,
        );
        flushes = o.flushes;
        past = o.past;
      })

  pub keeps_flash_step : (place : ℕ) (reply : Reply) (step : FlashStep) (steps : List FlashStep) (change : Change)
      → a.point ≡ Write place reply (step ∷ steps) change
      → IsConsistent (record (moved w p a (Write place reply steps change)) { writer = record w.writer { flash = after_step step w.writer.flash } })
  keeps_flash_step place reply step steps change at =
      let o = own w p a k get (Write place reply (step ∷ steps) change) at in
      let plan = o.stages.1 in
      row_back w p a (record a { point = Write place reply steps change }) k get w.cached (record w.writer { flash = after_step step w.writer.flash }) o.stages.0
      k.history k.cache (λ q g apart below old. old) (λ q cs xs in_call load find form entry apart old. old)
      (record {
        grips = o.grips;
        stages = (
          o.stages.0,
          record {
            none_ahead = plan.none_ahead;
            room = plan.room;
            place_is = plan.place_is;
            own_log = plan.own_log;
            own_stores = plan.own_stores;
            own_image = plan.own_image;
            inside = plan.inside;
            fit = plan.fit.1;
            means = plan.means;
            moments = plan.moments.2;
            end = plan.end;
            call = plan.call;
            later = plan.later;
            calls_are = plan.calls_are;
            entry = plan.entry;
            changes = plan.changes;
            reply_is = plan.reply_is;
          },
        );
        flushes = o.flushes;
        past = o.past;
      })

  module _ (place : ℕ) (reply : Reply) (change : Change) (at : a.point ≡ Write place reply [] change) where
    abbrev more : List Change
    more = w.writer.log ++ change ∷ []

    abbrev taker : WriterSide
    taker = record w.writer {
      log = more;
      stores = with_change w.writer.stores change.delta;
      ranges = covering w.writer.ranges change.delta.pieces;
    }

    -- a change's entry is the processor's own
    entries_own : (entry : Entry) → entry.processor ≡ p → entries_of p (entry ∷ []) ≡ entry ∷ []
    entries_own entry e = ap (λ (b : Bool). cond b (entry ∷ []) []) (eq-eqb entry.processor p e)

    pub keeps_take_change : IsConsistent (record (moved w p a (TryLock place reply)) { writer = taker })
    keeps_take_change =
        let o = own w p a k get (Write place reply [] change) at in
        let plan = o.stages.1 in
        let desk : w.writer_lock ≡ p + 1 = o.stages.0 in
        let level : length w.writer.log ≡ w.writer.made = plan.none_ahead in
        let here : place ≡ length w.writer.log = plan.place_is ∙ sym level in
        let by_p : change.entry.processor ≡ p = ap (λ (e : Entry). e.processor) plan.entry in
        let stays : (n : ℕ) → n ≤ length w.writer.log → bytes_at w.opening.stores more n ≡ bytes_at w.opening.stores w.writer.log n =
        bytes_same w.opening w.writer.log change in
        let there : state_at w.opening more place ≡ state_at w.opening w.writer.log (length w.writer.log) =
        state_same w.opening w.writer.log change place (omega arith) ∙ ap (state_at w.opening w.writer.log) here in
        let reply_is : reply ≡ (step (state_at w.opening more place) plan.call).0 =
        plan.reply_is ∙ ap (λ (s : State). (step s plan.call).0) (sym there) in
        let counted : length more ≡ w.writer.made + 1 = length-more w.writer.log change ∙ ap (λ (n : ℕ). n + 1) level in
        let made_change : is_change (step (state_at w.opening w.writer.log (length w.writer.log)) change.entry.call).0 ≡ true =
        ap (λ (e : Entry). is_change (step (state_at w.opening w.writer.log (length w.writer.log)) e.call).0) plan.entry ∙ ap is_change (sym plan.reply_is)
        ∙ plan.changes in
        row_back w p a (record a { point = TryLock place reply }) k get w.cached taker desk
        (grown w.opening w.count w.writer.made w.writer.log w.writer.stores w.writer.ranges w.writer.flushed change k.history plan.room plan.inside
        (ap (λ (e : Entry). e.number) plan.entry ∙ here) (omega (arith, by_p, low w p a a k get)) made_change
        (subst (λ (s : Stores). Means s (state_at w.opening more (length w.writer.log + 1))) plan.own_stores plan.means))
        (record {
          held_is = k.cache.held_is;
          cache_is = λ e.
              let old = k.cache.cache_is e in
              (old.0 ∙ sym (stays w.cached.held (omega (arith, k.cache.held_is, k.history.made_in))), old.1);
          rests = k.cache.rests;
        })
        (λ q g apart below old. old)
        (λ q cs xs in_call load find form entry apart old.
        past_more w.opening w.writer.log change w.writer.made w.count q cs xs (λ e. apart (let z : q ≡ p = sym e ∙ by_p in z)) in_call load find form entry old)
        (record {
          grips = o.grips;
          stages = (
            desk,
            counted,
            plan.place_is,
            record {
              same = own_same plan.own_log plan.own_stores plan.own_image;
              keeps =
                  ap kept (sym plan.own_image) ∙ plan.end
                  ∙ ap (kept_after w.opening more) (sym (length-more w.writer.log change));
            },
          );
          flushes = o.flushes;
          past = record {
            has = o.past.has;
            right = all_right_more w.opening w.writer.log change w.writer.made w.count p a.calls a.answered o.past.right;
            ordered = o.past.ordered;
            behind_made = o.past.behind_made;
            routed = o.past.routed;
            once =
                entries_more w.writer.log change p
                ∙ ap (λ (es : List Entry). es ++ entries_of p (change.entry ∷ [])) (o.past.once ∙ append-nil (changes_from p 0 a.answered))
                ∙ ap (λ (es : List Entry). changes_from p 0 a.answered ++ es)
                (entries_own change.entry by_p ∙ ap (λ (e : Entry). e ∷ []) plan.entry
                ∙ ap (owed (Some place) p (length a.answered)) (sym plan.calls_are));
            loads = tt;
            finds = tt;
            forms = record {
              call = plan.call;
              later = plan.later;
              calls_are = plan.calls_are;
              right = record {
                in_history = omega (arith, length-history more, length-more w.writer.log change, here);
                reply_is = reply_of_step (state_at w.opening more place) plan.call reply reply_is;
                one_entry = λ change_is.
                    ap (λ (es : List Entry). slice_get es place) (history_more w.writer.log change)
                    ∙ slice_get-seam (history_in w.writer.log) [] change.entry place (here ∙ sym (length-history w.writer.log))
                    ∙ ap Some plan.entry;
              };
              within = omega (arith, plan.place_is);
              behind_all = subst (λ (n : ℕ). AreBelow n a.answered) (sym plan.place_is) o.past.behind_made;
              routed = tt;
              below = λ late. cc;
              change = λ late. plan.changes;
            };
          };
        })
      where
        own_same : w.writer.own.log ≡ more → w.writer.own.stores ≡ with_change w.writer.stores change.delta → w.writer.own.image ≡ w.writer.flash
            → w.writer.own ≡ record { log = more; stores = with_change w.writer.stores change.delta; image = w.writer.flash }
        own_same e f g = λ i. record { log = e i; stores = f i; image = g i }
