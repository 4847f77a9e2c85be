-- The steps of the machine are steps of the table.
use Rattle.std.proofs.Common.{◌≡◌, ◌≢◌, ℕ, ◌+◌, true, false, List, [], ◌∷◌, ◌++◌, Some, None, refl, sym, ap, subst, ◌∙◌, inl, inr, ⊎_elim}
use Rattle.std.proofs.lemmas.Bool.{cases_eq}
use Rattle.std.specs.Prelude.{slice_get, slice_set}
use Rattle.pending_range.specs.declared.ranges.Ranges.{Ranges}
use Rattle.runtime_cache.specs.Merged.{merged}
use Rattle.var_trace.specs.declared.change.Change.{Change}
use Rattle.var_trace.specs.Pieces.{with_change}
use Rattle.var_trace.specs.Routes.{is_read}
use Rattle.var_types.specs.declared.answered.Route.{Route}
use Rattle.var_types.specs.declared.answered.Route.TheVariants.{Cache, Merged, Writer as Asked, Flushed, Deferred}
use Rattle.var_types.specs.declared.call.Call.{Call}
use Rattle.var_types.specs.declared.reply.Reply.{Reply}
use Rattle.var_types.specs.Stores.{Stores}
use Rattle.svc_core.proofs.Points.{answer_over, call_get, put_over}
use Rattle.svc_core.specs.declared.flash_step.FlashStep.{FlashStep}
use Rattle.svc_core.specs.declared.machine.Machine.{Machine}
use Rattle.svc_core.specs.declared.point.Point.{Point}
use Rattle.svc_core.specs.declared.point.Point.TheVariants.{Start, LoadMade, LoadHeld, TakeCache, Look, Unlock}
use Rattle.svc_core.specs.declared.point.Point.TheVariants.{MergeEnter, MergeLoadMade, MergeTakeCache, Merge, MergePutCache, MergeLeave, MergeUnlock}
use Rattle.svc_core.specs.declared.point.Point.TheVariants.{AskEnter, AskLook, AskLeave, Decide, Write, TryLock}
use Rattle.svc_core.specs.declared.point.Point.TheVariants.{FlushTakeCache, Flush, FlushSwapHeld, FlushPutCache, FlushUnlock, Defer, Leave}
use Rattle.svc_core.specs.Events.{IsStuck, IsToEnter}
use Rattle.svc_core.specs.FlashSteps.{after_step}
use Rattle.svc_core.specs.Machine.{IsStep, changed_machine, merged_machine, put_back, with_answered, with_processors, world_of}
use Rattle.svc_core.specs.Progress.{ProgressState, call_at, with_answer, with_point}
use Rattle.svc_core.specs.Ranges.{covering}
use Rattle.svc_core.specs.Rows as row
use Rattle.svc_core.specs.Rows.{Row}
use Rattle.svc_core.specs.World.{Processor, World, done, look}
use Rattle.svc_core.specs.Writer.{Opening, Writer}

-- machines of the same parts
pub changed_path : (m : Machine) (change : Change) (p : ℕ) (x : Point) (stores : Stores) (ranges : Ranges) (progress : ProgressState)
    → stores ≡ with_change m.stores change.delta → ranges ≡ covering m.ranges change.delta.pieces
    → progress ≡ record m.progress { log = m.progress.log ++ change ∷ [] }
    → put_back (record m { stores = stores; ranges = ranges; progress = progress }) p x ≡ put_back (changed_machine m change) p x
changed_path m change p x stores ranges progress s r g = λ i. put_back (record m { stores = s i; ranges = r i; progress = g i }) p x

pub stepped_path : (m : Machine) (p place : ℕ) (reply : Reply) (change : Change) (flash next : List ℕ) (steps rest : List FlashStep) → flash ≡ next
    → steps ≡ rest → put_back (record m { flash = flash }) p (Write place reply steps change) ≡ put_back (record m { flash = next }) p (Write place reply rest change)
stepped_path m p place reply change flash next steps rest f s = λ i. put_back (record m { flash = f i }) p (Write place reply (s i) change)

-- a processor that isn't stuck has a call
record HasOne (calls : List Call) : Type 0 where
  call : Call
  later : List Call
  is : calls ≡ call ∷ later

has_one : (calls : List Call) → (calls ≡ [] → ⊥) → HasOne calls
has_one [] some = absurd (some refl)
has_one (c ∷ cs) some = record { call = c; later = cs; is = refl }

-- and where it is to take the writer's lock, that is free
free_of : (w : World) (a : Processor) → IsToEnter a.point a.calls → (IsStuck w a → ⊥) → w.writer_lock ≡ 0
free_of w a enters ready = ⊎_elim (λ (e : w.writer_lock ≡ 0). e) (λ (busy : w.writer_lock ≡ 0 → ⊥). absurd (ready (inr (busy, enters)))) (cases_eq w.writer_lock 0)

-- its first call is the one that was found
record BeginsWith (calls : List Call) (call : Call) : Type 0 where
  later : List Call
  is : calls ≡ call ∷ later

first_is : (calls : List Call) (call : Call) → slice_get calls 0 ≡ Some call → BeginsWith calls call
first_is [] call h = cc
first_is (c ∷ cs) call h = record { later = cs; is = ap (λ (d : Call). d ∷ cs) (let e : c ≡ call = cc in e) }

module _ (m next : Machine) (p : ℕ) (x : Point) (opening : Opening) (own : Writer) (a : Processor) (get : slice_get m.progress.processors p ≡ Some a) where
  abbrev RowTo : List Processor → Type 0
  RowTo ps = Row (world_of opening own (put_back m p x)) p (record a { point = x }) (world_of opening own (with_processors next ps))

  -- a row that leads to another point
  settle : (y : Point) → RowTo (slice_set (with_point m.progress.processors p x) p (record a { point = y })) → RowTo (with_point m.progress.processors p y)
  settle y step = subst RowTo (put_over m.progress.processors p a x y get) step

  -- a row that answers
  settle_answer : (call : Call) (later : List Call) (place : ℕ) (route : Route) (reply : Reply) → a.point ≡ Start → a.calls ≡ call ∷ later
      → RowTo (slice_set (with_point m.progress.processors p x) p (done a call later place route reply))
      → RowTo (with_answer m.progress.processors p place route reply)
  settle_answer call later place route reply start is step =
      subst RowTo (answer_over place route reply call later m.progress.processors p a x get start is) step

module _ (m : Machine) (p : ℕ) where
  pub is_load_made : IsStep m p LoadMade (put_back m p (LoadHeld m.made))
  is_load_made = λ opening own a get start ready.
      settle m m p LoadMade opening own a get (LoadHeld m.made) (row.load_made refl)

  pub is_held_is_made : (made : ℕ) (same : m.held ≡ made) → IsStep m p (LoadHeld made) (put_back m p (TakeCache made))
  is_held_is_made made same = λ opening own a get start ready.
      settle m m p (LoadHeld made) opening own a get (TakeCache made) (row.held_is_made made refl same)

  pub is_held_is_behind : (made : ℕ) (apart : m.held ≢ made) → IsStep m p (LoadHeld made) (put_back m p (MergeEnter made m.held))
  is_held_is_behind made apart = λ opening own a get start ready.
      settle m m p (LoadHeld made) opening own a get (MergeEnter made m.held) (row.held_is_behind made refl apart)

  pub is_take_cache : (place : ℕ) → IsStep m p (TakeCache place) (put_back (record m { home = false }) p (Look place))
  is_take_cache place = λ opening own a get start ready.
      settle m (record m { home = false }) p (TakeCache place) opening own a get (Look place) (row.take_cache place refl)

  pub is_merge_load_made : (made held : ℕ) → IsStep m p (MergeLoadMade made held) (put_back m p (MergeTakeCache made held m.made))
  is_merge_load_made made held = λ opening own a get start ready.
      settle m m p (MergeLoadMade made held) opening own a get (MergeTakeCache made held m.made) (row.merge_load_made made held refl)

  pub is_merge_take_cache : (made held place : ℕ) → IsStep m p (MergeTakeCache made held place) (put_back (record m { home = false }) p (Merge made held place))
  is_merge_take_cache made held place = λ opening own a get start ready.
      settle m (record m { home = false }) p (MergeTakeCache made held place) opening own a get (Merge made held place) (row.merge_take_cache made held place refl)

  pub is_merge_put_cache : (made held place : ℕ) (reply : Reply) → IsStep m p (MergePutCache made held place reply) (put_back (record m { home = true }) p (MergeLeave made held place reply))
  is_merge_put_cache made held place reply = λ opening own a get start ready.
      settle m (record m { home = true }) p (MergePutCache made held place reply) opening own a get (MergeLeave made held place reply) (row.merge_put_cache made held place reply refl)

  pub is_merge_leave : (made held place : ℕ) (reply : Reply) → IsStep m p (MergeLeave made held place reply) (put_back (record m { writer_lock = 0 }) p (MergeUnlock made held place reply))
  is_merge_leave made held place reply = λ opening own a get start ready.
      settle m (record m { writer_lock = 0 }) p (MergeLeave made held place reply) opening own a get (MergeUnlock made held place reply) (row.merge_leave made held place reply refl)

  pub is_flash_step : (place : ℕ) (reply : Reply) (step : FlashStep) (steps : List FlashStep) (change : Change) → IsStep m p (Write place reply (step ∷ steps) change) (put_back (record m { flash = after_step step m.flash }) p (Write place reply steps change))
  is_flash_step place reply step steps change = λ opening own a get start ready.
      settle m (record m { flash = after_step step m.flash }) p (Write place reply (step ∷ steps) change) opening own a get (Write place reply steps change) (row.flash_step place reply step steps change refl)

  pub is_take_change : (place : ℕ) (reply : Reply) (change : Change) → IsStep m p (Write place reply [] change) (put_back (changed_machine m change) p (TryLock place reply))
  is_take_change place reply change = λ opening own a get start ready.
      settle m (changed_machine m change) p (Write place reply [] change) opening own a get (TryLock place reply) (row.take_change place reply change refl)

  pub is_flush_lock : (place : ℕ) (reply : Reply) (free : m.lock ≡ 0) → IsStep m p (TryLock place reply) (put_back (record m { lock = 255 }) p (FlushTakeCache place reply))
  is_flush_lock place reply free = λ opening own a get start ready.
      settle m (record m { lock = 255 }) p (TryLock place reply) opening own a get (FlushTakeCache place reply) (row.flush_lock place reply refl free)

  pub is_flush_later : (place : ℕ) (reply : Reply) (busy : m.lock ≢ 0) → IsStep m p (TryLock place reply) (put_back m p (Defer place reply m.lock))
  is_flush_later place reply busy = λ opening own a get start ready.
      settle m m p (TryLock place reply) opening own a get (Defer place reply m.lock) (row.flush_later place reply refl busy)

  pub is_flush_take_cache : (place : ℕ) (reply : Reply) → IsStep m p (FlushTakeCache place reply) (put_back (record m { home = false }) p (Flush place reply))
  is_flush_take_cache place reply = λ opening own a get start ready.
      settle m (record m { home = false }) p (FlushTakeCache place reply) opening own a get (Flush place reply) (row.flush_take_cache place reply refl)

  pub is_flush : (place : ℕ) (reply : Reply) → IsStep m p (Flush place reply) (put_back (record (merged_machine m) { made = m.made + 1 }) p (FlushSwapHeld place reply))
  is_flush place reply = λ opening own a get start ready.
      settle m (record (merged_machine m) { made = m.made + 1 }) p (Flush place reply) opening own a get (FlushSwapHeld place reply) (row.flush place reply refl)

  pub is_flush_swap_held : (place : ℕ) (reply : Reply) → IsStep m p (FlushSwapHeld place reply) (put_back (record m { held = m.made }) p (FlushPutCache place reply))
  is_flush_swap_held place reply = λ opening own a get start ready.
      settle m (record m { held = m.made }) p (FlushSwapHeld place reply) opening own a get (FlushPutCache place reply) (row.flush_swap_held place reply refl)

  pub is_flush_put_cache : (place : ℕ) (reply : Reply) → IsStep m p (FlushPutCache place reply) (put_back (record m { home = true }) p (FlushUnlock place reply))
  is_flush_put_cache place reply = λ opening own a get start ready.
      settle m (record m { home = true }) p (FlushPutCache place reply) opening own a get (FlushUnlock place reply) (row.flush_put_cache place reply refl)

  pub is_flush_unlock : (place : ℕ) (reply : Reply) → IsStep m p (FlushUnlock place reply) (put_back (record m { lock = 0 }) p (Leave place reply Flushed))
  is_flush_unlock place reply = λ opening own a get start ready.
      settle m (record m { lock = 0 }) p (FlushUnlock place reply) opening own a get (Leave place reply Flushed) (row.flush_unlock place reply refl)

  pub is_defer : (place : ℕ) (reply : Reply) (holder : ℕ) → IsStep m p (Defer place reply holder) (put_back (record m { made = m.made + 1 }) p (Leave place reply (Deferred holder)))
  is_defer place reply holder = λ opening own a get start ready.
      settle m (record m { made = m.made + 1 }) p (Defer place reply holder) opening own a get (Leave place reply (Deferred holder)) (row.defer place reply holder refl)

  pub is_merge_enter : (made held : ℕ) → IsStep m p (MergeEnter made held) (put_back (record m { writer_lock = p + 1 }) p (MergeLoadMade made held))
  is_merge_enter made held = λ opening own a get start ready.
      settle m (record m { writer_lock = p + 1 }) p (MergeEnter made held) opening own a get (MergeLoadMade made held)
      (row.merge_enter made held refl (free_of (world_of opening own m) (record a { point = MergeEnter made held }) tt ready))

  pub is_ask_enter : (holder : ℕ) → IsStep m p (AskEnter holder) (put_back (record m { writer_lock = p + 1 }) p (AskLook holder))
  is_ask_enter holder = λ opening own a get start ready.
      settle m (record m { writer_lock = p + 1 }) p (AskEnter holder) opening own a get (AskLook holder)
      (row.ask_enter holder refl (free_of (world_of opening own m) (record a { point = AskEnter holder }) tt ready))

  pub is_unlock : (place : ℕ) (reply : Reply) → IsStep m p (Unlock place reply) (with_answered (record m { lock = 0 }) p place Cache reply)
  is_unlock place reply = λ opening own a get start ready.
      let one = has_one a.calls (λ none. ready (inl none)) in
      settle_answer m (record m { lock = 0 }) p (Unlock place reply) opening own a get one.call one.later place Cache reply start one.is
      (row.unlock place reply one.call one.later refl one.is)

  pub is_merge_unlock : (made held place : ℕ) (reply : Reply) → IsStep m p (MergeUnlock made held place reply) (with_answered (record m { lock = 0 }) p place (Merged made held) reply)
  is_merge_unlock made held place reply = λ opening own a get start ready.
      let one = has_one a.calls (λ none. ready (inl none)) in
      settle_answer m (record m { lock = 0 }) p (MergeUnlock made held place reply) opening own a get one.call one.later place (Merged made held) reply start one.is
      (row.merge_unlock made held place reply one.call one.later refl one.is)

  pub is_ask_leave : (holder place : ℕ) (reply : Reply) → IsStep m p (AskLeave holder place reply) (with_answered (record m { writer_lock = 0 }) p place (Asked holder) reply)
  is_ask_leave holder place reply = λ opening own a get start ready.
      let one = has_one a.calls (λ none. ready (inl none)) in
      settle_answer m (record m { writer_lock = 0 }) p (AskLeave holder place reply) opening own a get one.call one.later place (Asked holder) reply start one.is
      (row.ask_leave holder place reply one.call one.later refl one.is)

  pub is_leave : (place : ℕ) (reply : Reply) (route : Route) → IsStep m p (Leave place reply route) (with_answered (record m { writer_lock = 0 }) p place route reply)
  is_leave place reply route = λ opening own a get start ready.
      let one = has_one a.calls (λ none. ready (inl none)) in
      settle_answer m (record m { writer_lock = 0 }) p (Leave place reply route) opening own a get one.call one.later place route reply start one.is
      (row.leave place reply route one.call one.later refl one.is)

  -- what is looked up is the reply to the first call
  pub is_look : (place : ℕ) (call : Call) (reply : Reply) → call_at m.progress.processors p ≡ Some call → reply ≡ look m.cache call
      → IsStep m p (Look place) (put_back (record m { home = true }) p (Unlock place reply))
  is_look place call reply there is = λ opening own a get start ready.
      let one = first_is a.calls call (sym (call_get m.progress.processors p a get) ∙ there) in
      subst (λ (r : Reply). Row (world_of opening own (put_back m p (Look place))) p (record a { point = Look place })
      (world_of opening own (put_back (record m { home = true }) p (Unlock place r)))) (sym is)
      (settle m (record m { home = true }) p (Look place) opening own a get (Unlock place (look m.cache call))
      (row.look_in_cache place call one.later refl one.is))

  pub is_ask_look : (holder : ℕ) (call : Call) (reply : Reply) → call_at m.progress.processors p ≡ Some call → reply ≡ look m.stores call
      → IsStep m p (AskLook holder) (put_back m p (AskLeave holder m.made reply))
  is_ask_look holder call reply there is = λ opening own a get start ready.
      let one = first_is a.calls call (sym (call_get m.progress.processors p a get) ∙ there) in
      subst (λ (r : Reply). Row (world_of opening own (put_back m p (AskLook holder))) p (record a { point = AskLook holder })
      (world_of opening own (put_back m p (AskLeave holder m.made r)))) (sym is)
      (settle m m p (AskLook holder) opening own a get (AskLeave holder m.made (look m.stores call)) (row.ask_look holder call one.later refl one.is))

  pub is_merge : (made held place : ℕ) (call : Call) (reply : Reply) → call_at m.progress.processors p ≡ Some call → reply ≡ look m.stores call
      → merged m.ranges m.cache m.stores ≡ m.stores
      → IsStep m p (Merge made held place)
      (put_back (record (merged_machine m) { home = false; held = place }) p (MergePutCache made held place reply))
  is_merge made held place call reply there is same = λ opening own a get start ready.
      let one = first_is a.calls call (sym (call_get m.progress.processors p a get) ∙ there) in
      subst (λ (r : Reply). Row (world_of opening own (put_back m p (Merge made held place))) p (record a { point = Merge made held place })
      (world_of opening own (put_back (record (merged_machine m) { home = false; held = place }) p (MergePutCache made held place r))))
      (sym (is ∙ ap (λ (s : Stores). look s call) (sym same)))
      (settle m (record (merged_machine m) { home = false; held = place }) p (Merge made held place) opening own a get
      (MergePutCache made held place (look (merged m.ranges m.cache m.stores) call)) (row.merge made held place call one.later refl one.is))

  -- the first step of a call
  pub is_lock_free : (call : Call) → call_at m.progress.processors p ≡ Some call → is_read call ≡ true → m.lock ≡ 0
      → IsStep m p Start (put_back (record m { lock = p + 1 }) p LoadMade)
  is_lock_free call there is_one free = λ opening own a get start ready.
      let one = first_is a.calls call (sym (call_get m.progress.processors p a get) ∙ there) in
      settle m (record m { lock = p + 1 }) p Start opening own a get LoadMade (row.lock_free call one.later refl one.is is_one free)

  pub is_lock_taken : (call : Call) → call_at m.progress.processors p ≡ Some call → is_read call ≡ true → m.lock ≢ 0
      → IsStep m p Start (put_back m p (AskEnter m.lock))
  is_lock_taken call there is_one busy = λ opening own a get start ready.
      let one = first_is a.calls call (sym (call_get m.progress.processors p a get) ∙ there) in
      settle m m p Start opening own a get (AskEnter m.lock) (row.lock_taken call one.later refl one.is is_one busy)

  pub is_enter : (call : Call) → call_at m.progress.processors p ≡ Some call → is_read call ≡ false
      → IsStep m p Start (put_back (record m { writer_lock = p + 1 }) p Decide)
  is_enter call there is_other = λ opening own a get start ready.
      let one = first_is a.calls call (sym (call_get m.progress.processors p a get) ∙ there) in
      settle m (record m { writer_lock = p + 1 }) p Start opening own a get Decide
      (row.enter call one.later refl one.is is_other
      (free_of (world_of opening own m) (record a { point = Start }) (enters a.calls one.later one.is) ready))
    where
      enters : (calls later : List Call) → calls ≡ call ∷ later → IsToEnter Start calls
      enters calls later e = subst (IsToEnter Start) (sym e) is_other

  -- a processor that has no call is stuck
  pub is_none : (x : Point) (next : Machine) → call_at m.progress.processors p ≡ None → IsStep m p x next
  is_none x next none = λ opening own a get start ready.
      absurd (ready (inl (empty a.calls (sym (call_get m.progress.processors p a get) ∙ none))))
    where
      empty : (calls : List Call) → slice_get calls 0 ≡ None → calls ≡ []
      empty [] h = refl
      empty (c ∷ cs) h = cc
