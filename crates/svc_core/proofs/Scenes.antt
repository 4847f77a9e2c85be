-- A step of a scene: what it gives, and that what holds of a world's parts holds behind it.
use Rattle.std.proofs.Common.{◌≡◌, ◌≢◌, ℕ, ◌<◌, Bool, true, false, List, [], ◌∷◌, length, Option, Some, None, refl, sym, ap, subst, ◌∙◌, ⊎_elim}
use Rattle.std.specs.Prelude.{slice_get, slice_set, IfSome, IsSome}
use Rattle.flash_dev.specs.declared.fault_plan.Torn.{Torn}
use Rattle.var_trace.specs.declared.change.Change.{Change}
use Rattle.var_types.specs.declared.call.Call.{Call}
use Rattle.svc_core.proofs.Clears.{clear, some_call}
use Rattle.svc_core.proofs.Facts.{own}
use Rattle.svc_core.proofs.Keeps.{ended, keeps, legal}
use Rattle.svc_core.proofs.Points.{call_get, index_get, point_get, put_over, same_point}
use Rattle.svc_core.proofs.Powers.{some_there}
use Rattle.svc_core.specs.declared.event.Event.{Event}
use Rattle.svc_core.specs.declared.event.Event.TheVariants.{Step, Power}
use Rattle.svc_core.specs.declared.event.Stepped.TheVariants.{Moved, Still, OutOfMemory}
use Rattle.svc_core.specs.declared.machine.Machine.{Machine}
use Rattle.svc_core.specs.declared.point.Point.{Point}
use Rattle.svc_core.specs.declared.point.Point.TheVariants.{Decide}
use Rattle.svc_core.specs.declared.standing.Standing.{Standing}
use Rattle.svc_core.specs.declared.standing.Standing.TheVariants.{Running, PowerLost, GivenUp, Spoiled}
use Rattle.svc_core.specs.Events as events
use Rattle.svc_core.specs.Events.{Happens, IsStill, IsStillFor, IsStuck, IsToEnter, Powered}
use Rattle.svc_core.specs.Invariant.{HasCall, IsConsistent}
use Rattle.svc_core.specs.Laws.{Holds, IsEnded, IsLegalWorld}
use Rattle.svc_core.specs.Machine.{IsAdvance, IsClear, IsPowerLost, IsReady, IsStillOf, decided_by, limited, put_back, world_of}
use Rattle.svc_core.specs.Plan.{IsOutcome, IsPlan, Plan}
use Rattle.svc_core.specs.Power.{IsLeft, Keeps, next_step, torn_by, world_left}
use Rattle.svc_core.specs.Progress.{answered_at, call_at, point_at, with_point}
use Rattle.svc_core.specs.Rows as row
use Rattle.svc_core.specs.Rows.{Row}
use Rattle.svc_core.specs.Scene.{CanGo, IsSceneOf, IsStepped, Scene, is_lost, is_over, own_by, powered, scene_of}
use Rattle.svc_core.specs.Stages.{writes}
use Rattle.svc_core.specs.World.{Processor, World}
use Rattle.svc_core.specs.Writer.{Opening, Writer}

-- no row changes the opening
pub row_opening : (w : World) (p : ℕ) (a : Processor) (next : World) → Row w p a next → next.opening ≡ w.opening
row_opening w p a _ (row.lock_free call calls at is reads free) = refl
row_opening w p a _ (row.lock_taken call calls at is reads taken) = refl
row_opening w p a _ (row.load_made at) = refl
row_opening w p a _ (row.held_is_made made at same) = refl
row_opening w p a _ (row.held_is_behind made at apart) = refl
row_opening w p a _ (row.take_cache place at) = refl
row_opening w p a _ (row.look_in_cache place call calls at is) = refl
row_opening w p a _ (row.unlock place reply call calls at is) = refl
row_opening w p a _ (row.merge_enter made held at free) = refl
row_opening w p a _ (row.merge_load_made made held at) = refl
row_opening w p a _ (row.merge_take_cache made held place at) = refl
row_opening w p a _ (row.merge made held place call calls at is) = refl
row_opening w p a _ (row.merge_put_cache made held place reply at) = refl
row_opening w p a _ (row.merge_leave made held place reply at) = refl
row_opening w p a _ (row.merge_unlock made held place reply call calls at is) = refl
row_opening w p a _ (row.ask_enter holder at free) = refl
row_opening w p a _ (row.ask_look holder call calls at is) = refl
row_opening w p a _ (row.ask_leave holder place reply call calls at is) = refl
row_opening w p a _ (row.enter call calls at is other free) = refl
row_opening w p a _ (row.decide_no_change call calls reply new at is plan) = refl
row_opening w p a _ (row.decide_change call calls reply steps change new at is plan) = refl
row_opening w p a _ (row.flash_step place reply step steps change at) = refl
row_opening w p a _ (row.take_change place reply change at) = refl
row_opening w p a _ (row.flush_lock place reply at free) = refl
row_opening w p a _ (row.flush_later place reply at busy) = refl
row_opening w p a _ (row.flush_take_cache place reply at) = refl
row_opening w p a _ (row.flush place reply at) = refl
row_opening w p a _ (row.flush_swap_held place reply at) = refl
row_opening w p a _ (row.flush_put_cache place reply at) = refl
row_opening w p a _ (row.flush_unlock place reply at) = refl
row_opening w p a _ (row.defer place reply holder at) = refl
row_opening w p a _ (row.leave place reply route call calls at is) = refl

-- the own of a writer that didn't fail
own_kept : (standing : Standing) (own : Writer) (m : Machine) → is_over standing ≡ false → own_by standing own m ≡ own
own_kept Running own m e = refl
own_kept PowerLost own m e = refl
own_kept GivenUp own m e = cc
own_kept Spoiled own m e = cc

-- an opening with its own limit
limited_same : (opening : Opening) (limit : ℕ) → limit ≡ opening.start.limit → limited opening limit ≡ opening
limited_same opening limit e = ap (limited opening) e

module _ (standing : Standing) (opening : Opening) (own_now : Writer) (m : Machine) (s : Scene) (view : scene_of standing opening own_now m ≡ s)
    (inv : IsSceneOf standing opening own_now m) (live : s.lost ≡ false) (running : s.over ≡ false) where
  lost_is : is_lost standing ≡ false
  lost_is = ap (λ (x : Scene). x.lost) view ∙ live

  over_is : is_over standing ≡ false
  over_is = ap (λ (x : Scene). x.over) view ∙ running

  own_is : own_by standing own_now m ≡ own_now
  own_is = own_kept standing own_now m over_is

  world_is : world_of opening own_now m ≡ s.world
  world_is = ap (λ (x : Writer). world_of opening x m) (sym own_is) ∙ ap (λ (x : Scene). x.world) view

  pub consistent : IsConsistent (world_of opening own_now m)
  consistent =
      subst (λ (x : Writer). IsConsistent (world_of opening x m)) own_is
      (subst (λ (b : Bool). Holds b (world_of opening (own_by standing own_now m) m)) lost_is inv.holds)

  pub processors_are : s.world.processors ≡ m.progress.processors
  processors_are = ap (λ (x : World). x.processors) (sym world_is)

  pub within_of : (p : ℕ) → p < length s.world.processors → p < length m.progress.processors
  within_of p within = subst (λ (ps : List Processor). p < length ps) processors_are within

  -- a step that isn't a decision
  pub can_go : (p : ℕ) (x : Point) → p < length m.progress.processors → point_at m.progress.processors p ≡ Some x → x ≢ Decide → IsReady m p
      → CanGo s.world p
  can_go p x within at other ready = record {
    within = subst (λ (ps : List Processor). p < length ps) (sym processors_are) within;
    decided = λ a get e.
        let here : slice_get m.progress.processors p ≡ Some a = ap (λ (ps : List Processor). slice_get ps p) (sym processors_are) ∙ get in
        let same : Some x ≡ Some a.point = sym at ∙ point_get m.progress.processors p a here in
        other (let y : x ≡ a.point = cc in y ∙ e);
    ready = λ a get stuck.
        let here : slice_get m.progress.processors p ≡ Some a = ap (λ (ps : List Processor). slice_get ps p) (sym processors_are) ∙ get in
        ready opening own_now a here (subst (λ (x : World). IsStuck x a) (sym world_is) stuck);
  }

  module _ (p : ℕ) (can : CanGo s.world p) where
    pub goer : (a : Processor) × (slice_get m.progress.processors p ≡ Some a)
    goer = some_there m.progress.processors p (within_of p can.within)

    there_too : slice_get s.world.processors p ≡ Some goer.0
    there_too = ap (λ (ps : List Processor). slice_get ps p) processors_are ∙ goer.1

    pub goes : IsStuck (world_of opening own_now m) goer.0 → ⊥
    goes stuck = can.ready goer.0 there_too (subst (λ (x : World). IsStuck x goer.0) world_is stuck)

    pub go_some : IsSome (call_at m.progress.processors p)
    go_some = some_call opening own_now m p goer.0 consistent goer.1 goes

    pub go_clear : IfSome (point_at m.progress.processors p) (λ x. IsClear (call_at m.progress.processors p) m x)
    go_clear = clear opening own_now m p goer.0 consistent goer.1 (can.decided goer.0 there_too)

  -- a processor that can move
  moves_on : (p : ℕ) (a : Processor) → slice_get m.progress.processors p ≡ Some a → (IsStuck (world_of opening own_now m) a → ⊥)
      → IsStill s.lost s.world (Step p) → ⊥
  moves_on p a get goes still =
      let there : slice_get s.world.processors p ≡ Some a = ap (λ (ps : List Processor). slice_get ps p) processors_are ∙ get in
      let here : IsStillFor s.world (slice_get s.world.processors p) = subst (λ (b : Bool). IsStill b s.world (Step p)) live still in
      goes (subst (λ (x : World). IsStuck x a) (sym world_is) (subst (IsStillFor s.world) there here))

  -- another scene of a row
  module _ (p : ℕ) (a : Processor) (other : Opening) (own_next : Writer) (next : Machine) (kept : other ≡ opening) (get : slice_get m.progress.processors p ≡ Some a)
      (taken : Row (world_of opening own_now m) p a (world_of opening own_next next)) where
    next_is : world_of opening own_next next ≡ world_of other (own_by standing own_next next) next
    next_is = λ i. world_of (sym kept i) (sym (own_kept standing own_next next over_is) i) next

    pub moved_step : (IsStuck (world_of opening own_now m) a → ⊥) → IsStepped s (Step p) Moved (scene_of standing other own_next next)
    moved_step goes =
        let there : slice_get s.world.processors p ≡ Some a = ap (λ (ps : List Processor). slice_get ps p) processors_are ∙ get in
        let again : Row s.world p a (world_of opening own_next next) = subst (λ (x : World). Row x p a (world_of opening own_next next)) world_is taken in (
          over_is,
          (
            moves_on p a get goes,
            subst (Happens (powered s) (Step p)) (λ i. record { lost = sym lost_is i; world = next_is i })
                (events.step p a (world_of opening own_next next) live there again),
          ),
        )

    pub moved_holds : IsSceneOf standing other own_next next
    moved_holds = record {
      holds =
          let k : Holds false (world_of opening own_next next) = keeps (world_of opening own_now m) (world_of opening own_next next) p a consistent get taken in
          subst (λ (b : Bool). Holds b (world_of other (own_by standing own_next next) next)) (sym lost_is) (subst (Holds false) next_is k);
      limit =
          ap (λ (x : Opening). x.start.limit) (row_opening (world_of opening own_now m) p a (world_of opening own_next next) taken) ∙ inv.limit
          ∙ ap (λ (x : Opening). x.start.limit) (sym kept);
    }

  -- and of an advance
  module _ (p : ℕ) (can : CanGo s.world p) (next : Machine) (advance : IsAdvance m p next) where
    gone : Row (world_of opening own_now m) p (goer p can).0 (world_of opening own_now next)
    gone = advance opening own_now (goer p can).0 (goer p can).1 (goes p can)

    pub gone_step : IsStepped s (Step p) Moved (scene_of standing opening own_now next)
    gone_step = moved_step p (goer p can).0 opening own_now next refl (goer p can).1 gone (goes p can)

    pub gone_holds : IsSceneOf standing opening own_now next
    gone_holds = moved_holds p (goer p can).0 opening own_now next refl (goer p can).1 gone

  -- for want of memory nothing has changed
  pub given_up_holds : (next : Machine) → next ≡ m → IsSceneOf GivenUp opening own_now next
  given_up_holds next same = subst (IsSceneOf GivenUp opening own_now) (sym same) (record { holds = consistent; limit = inv.limit })

  pub given_up : (event : Event) (next : Machine) → next ≡ m → IsStepped s event OutOfMemory (scene_of GivenUp opening own_now next)
  given_up event next same = (refl, (sym live, (s.world.writer.own, ap (world_of opening own_now) same ∙ world_is)))

  -- a processor that changes nothing
  pub still_step : (p : ℕ) → IsStillOf m p → IsStepped s (Step p) Still s
  still_step p still =
      let here : IsStillFor s.world (slice_get s.world.processors p) =
      subst (λ (x : World). IsStillFor x (slice_get x.processors p)) world_is (still opening own_now)
      in
      (running, subst (λ (b : Bool). IsStill b s.world (Step p)) (sym live) here, refl)

  -- a decision
  module _ (p : ℕ) (within : p < length m.progress.processors) (at : point_at s.world.processors p ≡ Some Decide) where
    pub decider : (a : Processor) × (slice_get m.progress.processors p ≡ Some a)
    decider = some_there m.progress.processors p within

    decides : decider.0.point ≡ Decide
    decides =
        let e : Some decider.0.point ≡ Some Decide =
        sym (point_get m.progress.processors p decider.0 decider.1) ∙ ap (λ (ps : List Processor). point_at ps p) (sym processors_are) ∙ at
        in cc

    writes_some : (calls : List Call) → HasCall writes calls → slice_get calls 0 ≡ None → ⊥
    writes_some [] h e = h
    writes_some (c ∷ cs) h e = cc

    pub has_first : call_at m.progress.processors p ≡ None → ⊥
    has_first none =
        writes_some decider.0.calls (own (world_of opening own_now m) p decider.0 consistent decider.1 Decide decides).past.has
        (sym (call_get m.progress.processors p decider.0 decider.1) ∙ none)

    -- the writer failed
    level : own_now ≡ record { log = m.progress.log; stores = m.stores; image = m.flash }
    level = (own (world_of opening own_now m) p decider.0 consistent decider.1 Decide decides).stages.1.1.same

    pub spoiled_holds : (other : Opening) (own_next : Writer) → other ≡ opening → IsSceneOf Spoiled other own_next m
    spoiled_holds other own_next kept = record {
      holds =
          subst (λ (x : Opening). IsConsistent (world_of x (record { log = m.progress.log; stores = m.stores; image = m.flash }) m)) (sym kept)
          (subst (λ (x : Writer). IsConsistent (world_of opening x m)) level consistent);
      limit = inv.limit ∙ ap (λ (x : Opening). x.start.limit) (sym kept);
    }

    pub spoiled : (event : Event) (other : Opening) (own_next : Writer) → other ≡ opening → IsStepped s event OutOfMemory (scene_of Spoiled other own_next m)
    spoiled event other own_next kept =
        let new : Writer = record { log = m.progress.log; stores = m.stores; image = m.flash } in (
          refl,
          (
            sym live,
            (
              new,
              ap (λ (x : Opening). world_of x new m) kept ∙ ap (λ (x : World). let y : World = record x { writer = record x.writer { own = new } } in y) world_is,
            ),
          ),
        )

    -- the writer has planned
    module _ (index : ℕ) (call : Call) (plan : Plan) (own_next : Writer) (index_is : index ≡ answered_at m.progress.processors p)
        (there : Some call ≡ call_at m.progress.processors p) (planned : IsPlan opening own_now p index call plan own_next) where
      calls_are : (calls : List Call) → slice_get calls 0 ≡ Some call → (later : List Call) × (calls ≡ call ∷ later)
      calls_are [] e = cc
      calls_are (c ∷ cs) e = let same : c ≡ call = cc in (cs, ap (λ (d : Call). d ∷ cs) same)

      first : (later : List Call) × (decider.0.calls ≡ call ∷ later)
      first = calls_are decider.0.calls (sym (call_get m.progress.processors p decider.0 decider.1) ∙ sym there)

      plan_is : IsPlan (limited opening m.progress.limit) own_now p (length decider.0.answered) call plan own_next
      plan_is =
          subst (λ (x : Opening). IsPlan x own_now p (length decider.0.answered) call plan own_next) (sym (limited_same opening m.progress.limit inv.limit))
          (subst (λ (n : ℕ). IsPlan opening own_now p n call plan own_next) (index_is ∙ index_get m.progress.processors p decider.0 decider.1) planned)

      decider_goes : IsStuck (world_of opening own_now m) decider.0 → ⊥
      decider_goes stuck =
          ⊎_elim (λ (none : decider.0.calls ≡ []). let e : call ∷ first.0 ≡ [] = sym first.1 ∙ none in cc)
          (λ (busy : (m.writer_lock ≢ 0) × IsToEnter decider.0.point decider.0.calls).
          let here : IsToEnter Decide decider.0.calls = subst (λ (y : Point). IsToEnter y decider.0.calls) decides busy.1 in here) stuck

      abbrev RowTo : Point → Type 0
      RowTo y = Row (world_of opening own_now m) p decider.0 (world_of opening own_next (put_back m p y))

      settle : (y : Point)
          → Row (world_of opening own_now m) p decider.0
          (world_of opening own_next (record m { progress = record m.progress { processors = slice_set m.progress.processors p (record decider.0 { point = y }) } }))
          → RowTo y
      settle y step =
          let same : slice_set m.progress.processors p (let b : Processor = record decider.0 { point = y } in b) ≡ with_point m.progress.processors p y =
          ap (λ (ps : List Processor). slice_set ps p (let b : Processor = record decider.0 { point = y } in b))
          (sym (same_point m.progress.processors p decider.0.point (point_get m.progress.processors p decider.0 decider.1)))
          ∙ put_over m.progress.processors p decider.0 decider.0.point y decider.1
          in
          subst (λ (ps : List Processor). Row (world_of opening own_now m) p decider.0
          (world_of opening own_next (record m { progress = record m.progress { processors = ps } }))) same step

      decided_row : (change : Option Change) → plan.change ≡ change → RowTo (decided_by m.made plan change)
      decided_row None e =
          let none : plan.steps ≡ [] = (subst (λ (x : Option Change). IsOutcome (limited opening m.progress.limit) own_now p (length decider.0.answered) call plan.reply plan.steps x own_next) e plan_is.outcome).1 in
          settle (decided_by m.made plan None)
          (row.decide_no_change call first.0 plan.reply own_next decides first.1
          (subst (λ (x : Plan). IsPlan (limited opening m.progress.limit) own_now p (length decider.0.answered) call x own_next)
          (λ i. record { reply = plan.reply; steps = none i; change = e i }) plan_is))
      decided_row (Some change) e =
          settle (decided_by m.made plan (Some change))
          (row.decide_change call first.0 plan.reply plan.steps change own_next decides first.1
          (subst (λ (x : Plan). IsPlan (limited opening m.progress.limit) own_now p (length decider.0.answered) call x own_next)
          (λ i. record { reply = plan.reply; steps = plan.steps; change = e i }) plan_is))

      pub decided_next : (next : Machine) → next ≡ put_back m p (decided_by m.made plan plan.change)
          → Row (world_of opening own_now m) p decider.0 (world_of opening own_next next)
      decided_next next is =
          subst (λ (x : Machine). Row (world_of opening own_now m) p decider.0 (world_of opening own_next x)) (sym is) (decided_row plan.change refl)

      pub decided_step : (other : Opening) (next : Machine) → other ≡ opening → next ≡ put_back m p (decided_by m.made plan plan.change)
          → IsStepped s (Step p) Moved (scene_of standing other own_next next)
      decided_step other next kept is = moved_step p decider.0 other own_next next kept decider.1 (decided_next next is) decider_goes

      pub decided_holds : (other : Opening) (next : Machine) → other ≡ opening → next ≡ put_back m p (decided_by m.made plan plan.change)
          → IsSceneOf standing other own_next next
      decided_holds other next kept is = moved_holds p decider.0 other own_next next kept decider.1 (decided_next next is)

  -- power is lost
  module _ (torn : Torn) (next : Machine) (lost : IsPowerLost m torn next) where
    left_is : world_of opening own_now next ≡ world_left (world_of opening own_now m) next.flash
    left_is = ap (world_of opening own_now) lost.0

    pub power_holds : IsSceneOf PowerLost opening own_now next
    power_holds = record {
      holds =
          let e : Holds true (world_left (world_of opening own_now m) next.flash) =
          ended (world_of opening own_now m) next.flash consistent (lost.1 opening own_now).1
          in
          subst (Holds true) (sym left_is) e;
      limit = ap (λ (x : Machine). x.progress.limit) lost.0 ∙ inv.limit;
    }

    pub power_step : IsStepped s (Power torn) Moved (scene_of PowerLost opening own_now next)
    power_step =
        let both : (next.flash ≡ torn_by torn (next_step s.world) s.world.writer.flash) × IsLeft s.world next.flash =
        subst (λ (x : World). (next.flash ≡ torn_by torn (next_step x) x.writer.flash) × IsLeft x next.flash) world_is (lost.1 opening own_now)
        in (
          refl,
          (
            subst (λ (b : Bool). IsStill b s.world (Power torn)) live,
            subst (Happens (powered s) (Power torn))
                (λ i. record { lost = true; world = (ap (λ (x : World). world_left x next.flash) (sym world_is) ∙ sym left_is) i })
                (events.power torn next.flash live both.0 both.1),
          ),
        )

-- the session of a scene is legal
pub scene_legal : (standing : Standing) (opening : Opening) (own_now : Writer) (m : Machine) (s : Scene) → scene_of standing opening own_now m ≡ s
    → IsSceneOf standing opening own_now m → IsLegalWorld s.world
scene_legal standing opening own_now m s view inv =
    subst (λ (x : Scene). IsLegalWorld x.world) view (legal (is_lost standing) (world_of opening (own_by standing own_now m) m) inv.holds)

-- where power was lost, the flash keeps what it has to
pub scene_keeps : (standing : Standing) (opening : Opening) (own_now : Writer) (m : Machine) (s : Scene) → scene_of standing opening own_now m ≡ s
    → IsSceneOf standing opening own_now m → s.lost ≡ true → Keeps s.world s.world.writer.flash
scene_keeps standing opening own_now m s view inv lost =
    let e : is_lost standing ≡ true = ap (λ (x : Scene). x.lost) view ∙ lost in
    let ended : IsEnded (world_of opening (own_by standing own_now m) m) = subst (λ (b : Bool). Holds b (world_of opening (own_by standing own_now m) m)) e inv.holds in
    subst (λ (x : Scene). Keeps x.world x.world.writer.flash) view ended.keeps
