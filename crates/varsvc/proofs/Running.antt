-- A run of calls on the writer's side: what one call more makes of it.
use Rattle.std.proofs.Common.{◌≡◌, ◌≢◌, ◌⊎◌, inl, inr, ⊎_elim, ℕ, ◌+◌, ◌-◌, ◌^◌, ◌≤◌, Bool, true, false, List, [], ◌∷◌, ◌++◌, length, take, filter, Option, Some, None, IfSome, refl, sym, ap, subst, ◌∙◌, arith, true≢false, if◌then◌else◌}
use Rattle.std.proofs.lemmas.Bool.{cases_Bool}
use Rattle.std.proofs.lemmas.List.{append-nil, length-append, length-map, map-append, take-append-le, take_all}
use Rattle.std.proofs.lemmas.List.Elements.{Contains-append_left, Contains-push, filter-append}
use Rattle.std.specs.List.{Contains}
use Rattle.std.specs.Prelude.{IsSomeAnd}
use Rattle.flash_dev.proofs.Calls.{told_at}
use Rattle.flash_dev.proofs.Moments.{stays_none, stays_then, stays_weaken}
use Rattle.flash_dev.specs.Moments.{Stays}
use Rattle.mm_writer.specs.Doubt.{IsInDoubt, SetInDoubt, variables_at, variables_with}
use Rattle.mm_writer.specs.Outcome.{AnswersSet, Grows, HasReplyCause, IsAnswered, IsKeptBut, IsKeptBy, IsSetLeft, entry_after}
use Rattle.mm_writer.specs.Side.{Side, first_state, state_of}
use Rattle.outside.specs.Faults.{HasRisen}
use Rattle.report_text.specs.Session.{history_from}
use Rattle.var_trace.specs.declared.change.Change.{Change}
use Rattle.var_trace.specs.StoresAfter.{history_in}
use Rattle.var_types.proofs.Sessions.{run-append}
use Rattle.var_types.specs.declared.answered.Answered.{Answered}
use Rattle.var_types.specs.declared.answered.Route.TheVariants.{Plain}
use Rattle.var_types.specs.declared.call.Call.{Call}
use Rattle.var_types.specs.declared.call.Call.TheVariants.{Set as SetCalled}
use Rattle.var_types.specs.declared.call.SetCall.{SetCall}
use Rattle.var_types.specs.declared.reply.Reply.{Reply}
use Rattle.var_types.specs.declared.reply.Reply.TheVariants.{Set as SetReplied}
use Rattle.var_types.specs.declared.reply.SetReply.{SetReply}
use Rattle.var_types.specs.declared.reply.SetReply.TheVariants as set
use Rattle.var_types.specs.declared.store.Store.TheVariants.{NonVolatile}
use Rattle.var_types.specs.declared.variable.Variable.{Variable}
use Rattle.var_types.specs.Attributes.{has, non_volatile_bit}
use Rattle.var_types.specs.DeviceErrors.{HasNonVolatile, IsNonVolatileChange, IsReplyIn, is_device_error}
use Rattle.var_types.specs.History.{Entry, after, run}
use Rattle.var_types.specs.Kept.{kept}
use Rattle.var_types.specs.Laws.{LegalSessionsGrow}
use Rattle.var_types.specs.Session.{IsAnsweredAfter, IsLegalSession, changes_from, entry_of}
use Rattle.var_types.specs.Reading.{set_key}
use Rattle.var_types.specs.Set.{set_step}
use Rattle.var_types.specs.State.{State, start, stored_at}
use Rattle.var_types.specs.Step.{is_change, step}
use Rattle.var_types.specs.Stores.{Stores, map_in, part}
use Rattle.varsvc.specs.Running.{HasRun, IsCallLeft, IsLeftSoFar, IsNewDoubt, Serves}
use Rattle.varsvc.specs.Runs.{AreInTurn, IsFrontLeft, IsLeftBySet, IsRunLeft, WasFailed, all_answered, failures}
use Rattle.varsvc.proofs.Processors.{answered-more, answered-next, history_from-more, history_from-next, in_turn-behind, legal-next}

-- ---- the side behind a change

-- it opened as before
first_same : (old new : Side) (entry : Entry) → Grows old new entry → first_state new ≡ first_state old
unfolding first_state
first_same old new entry g =
    ap (λ (o : Stores). start (map_in NonVolatile o.non_volatile) new.limit) g.opening
    ∙ ap (λ (n : ℕ). start (map_in NonVolatile old.opening.non_volatile) n) g.limit

-- its history has the entry behind the others
history_grown : (old new : Side) (entry : Entry) → Grows old new entry → history_in new.log ≡ history_in old.log ++ entry ∷ []
history_grown old new entry g = ap history_in g.log ∙ map-append (λ (change : Change). change.entry) old.log _

-- its state is the one that the change leaves
state_grown : (old new : Side) (entry : Entry) → Grows old new entry → state_of new ≡ (step (state_of old) entry.call).1
unfolding state_of
state_grown old new entry g =
    ap (λ (s : State). run s (history_in new.log)) (first_same old new entry g)
    ∙ ap (run (first_state old)) (history_grown old new entry g)
    ∙ run-append (first_state old) (history_in old.log) (entry ∷ [])

-- ---- the side behind a call

-- it opened as before, and its history is as before, or has one entry more
record IsBehind (old new : Side) : Type 0 where
  first : first_state new ≡ first_state old
  more : List Entry
  history : history_in new.log ≡ history_in old.log ++ more

behind : (old new : Side) (processor index : ℕ) (call : Call) (reply : Reply) → IsAnswered old new processor index call reply → IsBehind old new
behind old new processor index call reply a =
    ⊎_elim
    (λ yes.
    let g = a.change yes in
    record { first = first_same old new _ g; more = entry_after old processor index call ∷ []; history = history_grown old new _ g })
    (λ no.
    let e = a.same no in
    record { first = ap first_state e; more = []; history = ap (λ (s : Side). history_in s.log) e ∙ sym (append-nil (history_in old.log)) })
    (cases_Bool (is_change reply))

-- as many entries as changes
pub length_history : (side : Side) → length (history_in side.log) ≡ length side.log
length_history side = length-map side.log (λ (change : Change). change.entry)

-- a side's state is that after the whole of its history
pub state_is : (side : Side) (first : State) (history : List Entry) → first_state side ≡ first → history_in side.log ≡ history
    → state_of side ≡ after first history (length history)
unfolding state_of
state_is side first history opened log =
    (λ i. run (opened i) (log i))
    ∙ ap (run first) (sym (take_all (length history) history (let all : length history ≤ length history = omega arith in all)))

-- the state after fewer entries is as it was
state_longer : (first : State) (history longer more : List Entry) → longer ≡ history ++ more → (k : ℕ) → k ≤ length history
    → after first longer k ≡ after first history k
state_longer first history longer more is k within =
    ap (run first) (ap (take k) is ∙ take-append-le k history more within)

-- an image that keeps the variables of now keeps those after a front of the history, which is the whole
pub front_now : (side : Side) (first : State) (history : List Entry) → first_state side ≡ first → history_in side.log ≡ history → (left : List ℕ)
    → IsKeptBy side left → IsFrontLeft first history left
front_now side first history opened log left is = (
  length history,
  omega arith,
  is ∙ ap (λ (s : State). part NonVolatile s.variables) (state_is side first history opened log),
)

-- a set that failed among some calls did among more
failed_longer : (answers longer more : List Answered) → longer ≡ answers ++ more → (named : SetInDoubt) → WasFailed answers named → WasFailed longer named
failed_longer answers longer more is named failed = record {
  answer = failed.answer;
  answered =
      subst (λ (xs : List Answered). Contains xs failed.answer) (sym is) (Contains-append_left answers more failed.answer failed.answered);
  call = failed.call;
  place = failed.place;
  device = failed.device;
}

-- what a run may leave a longer one may
left_longer : (first : State) (history longer more : List Entry) (answers others rest : List Answered) → longer ≡ history ++ more → others ≡ answers ++ rest
    → (left : List ℕ) → IsRunLeft first history answers left → IsRunLeft first longer others left
left_longer first history longer more answers others rest is are left =
    let size : length longer ≡ length history + length more = ap (λ (es : List Entry). length es) is ∙ length-append history more in
    ⊎_elim
    (λ front.
    let within = front.1 in
    inl
    (front.0, omega (arith, size, within), front.2 ∙ ap (λ (s : State). part NonVolatile s.variables) (sym (state_longer first history longer more is front.0 within))))
    (λ by_set.
    inr
    (record {
      set = by_set.set;
      failed = failed_longer answers others rest are by_set.set by_set.failed;
      place = let low = by_set.place in omega (arith, size, low);
      kept =
          by_set.kept
          ∙ ap (λ (s : State). part NonVolatile (set_step s by_set.set.call).1.variables)
          (sym (state_longer first history longer more is by_set.set.place by_set.place));
    }))

-- what an image may keep of a side whose set in doubt has failed
but_left : (side : Side) (doubt : Option SetInDoubt) (first : State) (history : List Entry) (answers : List Answered) → first_state side ≡ first → history_in side.log ≡ history
    → IfSome doubt (IsInDoubt (first_state side) (history_in side.log)) → IfSome doubt (WasFailed answers) → (left : List ℕ)
    → IsKeptBut side doubt left → IsRunLeft first history answers left
but_left side None first history answers opened log may failed left is = inl (front_now side first history opened log left is)
but_left side (Some named) first history answers opened log may failed left is =
    ⊎_elim (λ (before : IsKeptBy side left). inl (front_now side first history opened log left before))
    (λ (with_it : kept left ≡ variables_with (first_state side) (history_in side.log) named).
    inr
    (record {
      set = named;
      failed = failed;
      place = subst (λ (es : List Entry). named.place ≤ length es) log may.place;
      kept = with_it ∙ (λ i. variables_with (opened i) (log i) named);
    }))
    is

-- what is true of one set in doubt is true of another fact of it
some_more : (o : Option SetInDoubt) (P Q : SetInDoubt → Type 0) → ((named : SetInDoubt) → P named → Q named) → IfSome o P → IfSome o Q
some_more None P Q more is = tt
some_more (Some named) P Q more is = more named is

-- ---- counts

-- one more answered call, of which the reply may say that the flash failed
abbrev pub added : Bool → ℕ
added failed = if failed then 1 else 0

failures-snoc : (xs : List Answered) (a : Answered) → failures (xs ++ a ∷ []) ≡ failures xs + added (is_device_error a.reply)
failures-snoc xs a =
    ap (λ (ys : List Answered). length ys) (filter-append (λ (b : Answered). is_device_error b.reply) xs (a ∷ []))
    ∙ length-append (filter (λ (b : Answered). is_device_error b.reply) xs) (filter (λ (b : Answered). is_device_error b.reply) (a ∷ []))
    ∙ ap (λ n. failures xs + n) (one (is_device_error a.reply))
  where
    one : (b : Bool) → length (if b then a ∷ [] else []) ≡ added b
    one true = refl
    one false = refl

-- ---- whether a set changes a non-volatile variable

stored_or_not : (found : Option Variable) → IsSomeAnd found (λ variable. has variable.attributes non_volatile_bit ≡ true)
    ⊎ (IsSomeAnd found (λ variable. has variable.attributes non_volatile_bit ≡ true) → ⊥)
stored_or_not None = inr (λ h. h)
stored_or_not (Some variable) =
    ⊎_elim inl (λ no. inr (λ h. true≢false (sym h ∙ no))) (cases_Bool (has variable.attributes non_volatile_bit))

change_or_not : (state : State) (call : SetCall) → (set_step state call).0 ≡ set.Ok → IsNonVolatileChange state call ⊎ (IsNonVolatileChange state call → ⊥)
change_or_not state call changes =
    ⊎_elim (λ before. inl (record { changes = changes; non_volatile = inl before }))
    (λ none.
    ⊎_elim (λ behind. inl (record { changes = changes; non_volatile = inr behind }))
    (λ nothing. inr (λ change. ⊎_elim none nothing change.non_volatile)) (stored_or_not (stored_at (set_step state call).1 (set_key call))))
    (stored_or_not (stored_at state (set_key call)))

-- the reply to a set
set_of : Reply → SetReply
set_of (SetReplied reply) = reply
set_of _ = set.Same

replied_ok : (state : State) (call : SetCall) → IsReplyIn state (SetCalled call) (SetReplied set.Ok) → (set_step state call).0 ≡ set.Ok
unfolding step set_of
replied_ok state call right = sym (ap set_of (right.same refl refl))

module _ {F : Type 0} {fault_count moment : F → ℕ} {left_since : F → ℕ → List ℕ → Type 0} {holds : F → Option (List ℕ)} where
  -- ---- one call

  -- a call that leaves the flash as it is
  pub serves_quiet : (old new : F × (Option SetInDoubt × Side)) (processor index : ℕ) (call : Call) (reply : Reply)
      → IsAnswered old.1.1 new.1.1 processor index call reply
      → is_device_error reply ≡ false → new.0 ≡ old.0 → new.1.0 ≡ old.1.0 → IfSome (holds old.0) (IsKeptBut old.1.1 old.1.0)
      → IfSome old.1.0 (IsInDoubt (first_state old.1.1) (history_in old.1.1.log))
      → Serves fault_count moment left_since holds old new processor index call reply
  serves_quiet old new processor index call reply answered calm same doubt keeps may = record {
    answered = answered;
    cause = record {
      done = λ _. ap fault_count same;
      rose = λ h. absurd (true≢false (sym h ∙ calm));
      never_falls = let e = ap fault_count same in omega (arith, e);
    };
    before = may;
    doubt = inl doubt;
    at_any_moment =
        subst (λ (f : F). Stays (IsCallLeft old.1.1 old.1.0 new.1.1 call reply) moment left_since holds old.0 f) (sym same)
        (stays_none (IsCallLeft old.1.1 old.1.0 new.1.1 call reply) old.0
        (λ image told. inl (told_at (IsKeptBut old.1.1 old.1.0) (holds old.0) image keeps told)));
  }

  -- a read
  pub serves_read : (e : F × (Option SetInDoubt × Side)) (processor index : ℕ) (call : Call) (reply : Reply) → IsReplyIn (state_of e.1.1) call reply
      → is_change reply ≡ false → is_device_error reply ≡ false → IfSome (holds e.0) (IsKeptBut e.1.1 e.1.0)
      → IfSome e.1.0 (IsInDoubt (first_state e.1.1) (history_in e.1.1.log))
      → Serves fault_count moment left_since holds e e processor index call reply
  serves_read e processor index call reply right still calm keeps may =
      serves_quiet e e processor index call reply
      (record { right = right; change = λ h. absurd (true≢false (sym h ∙ still)); same = λ _. refl }) calm refl refl keeps may

  module _ (old new : F × (Option SetInDoubt × Side)) (processor index : ℕ) (call : SetCall) (keeps : IfSome (holds old.0) (IsKeptBut old.1.1 old.1.0)) (may : IfSome old.1.0 (IsInDoubt (first_state old.1.1) (history_in old.1.1.log))) where
    -- a set that made its change
    set_made : AnswersSet moment left_since holds fault_count old new processor index call set.Ok
        → Serves fault_count moment left_since holds old new processor index (SetCalled call) (SetReplied set.Ok)
    unfolding step
    set_made made = record {
      answered = made.answered;
      cause = record {
        done = λ _. made.cause.done (λ e. cc);
        rose = λ h. absurd (true≢false (sym h));
        never_falls = made.cause.never_falls;
      };
      before = may;
      doubt =
          ⊎_elim (λ change. inr (subst (λ (o : Option SetInDoubt). IfSome o (IsNewDoubt old.1.1 (SetCalled call) (SetReplied set.Ok))) (sym (made.ended refl change)) tt))
          (λ none. inl (made.volatile refl none).1) (change_or_not (state_of old.1.1) call (replied_ok (state_of old.1.1) call made.answered.right));
      at_any_moment =
          stays_weaken (IsSetLeft old.1.1 old.1.0 call) (IsCallLeft old.1.1 old.1.0 new.1.1 (SetCalled call) (SetReplied set.Ok)) old.0 new.0 made.at_any_moment
          (λ image left told is.
          ⊎_elim inl
          (λ behind.
          inr
          (inl (behind ∙ ap (λ (s : State). part NonVolatile s.variables) (sym (state_grown old.1.1 new.1.1 _ (made.answered.change refl))))))
          is.kept);
    }

    -- one whose call of the flash failed, or the heal before it
    set_failed : AnswersSet moment left_since holds fault_count old new processor index call set.Device
        → Serves fault_count moment left_since holds old new processor index (SetCalled call) (SetReplied set.Device)
    set_failed made = record {
      answered = made.answered;
      cause = record {
        done = λ h. absurd (true≢false h);
        rose = λ _. made.cause.failed refl;
        never_falls = made.cause.never_falls;
      };
      before = may;
      doubt =
          ⊎_elim
          (λ failed.
          inr
          (subst (λ (o : Option SetInDoubt). IfSome o (IsNewDoubt old.1.1 (SetCalled call) (SetReplied set.Device))) (sym failed)
          (record { is = refl; device = refl; place = refl })))
          (λ unhealed. inl unhealed.same) (made.failed refl);
      at_any_moment =
          stays_weaken (IsSetLeft old.1.1 old.1.0 call) (IsCallLeft old.1.1 old.1.0 new.1.1 (SetCalled call) (SetReplied set.Device)) old.0 new.0 made.at_any_moment
          (λ image left told is.
          ⊎_elim inl (λ with_it. inr (inr (record { set = call; is = refl; device = refl; kept = with_it }))) is.kept);
    }

    -- one that leaves all as it was
    set_quiet : (reply : SetReply) → AnswersSet moment left_since holds fault_count old new processor index call reply → is_device_error (SetReplied reply) ≡ false
        → reply ≢ set.Ok → reply ≢ set.Device → Serves fault_count moment left_since holds old new processor index (SetCalled call) (SetReplied reply)
    set_quiet reply made calm changed failed =
        serves_quiet old new processor index (SetCalled call) (SetReplied reply) made.answered calm (made.untouched changed failed)
        (made.same_doubt changed failed) keeps may

    -- any set
    pub serves_set : (reply : SetReply) → AnswersSet moment left_since holds fault_count old new processor index call reply
        → Serves fault_count moment left_since holds old new processor index (SetCalled call) (SetReplied reply)
    serves_set set.Ok made = set_made made
    serves_set set.Same made = set_quiet set.Same made refl (λ e. cc) (λ e. cc)
    serves_set (set.Refused reason) made = set_quiet (set.Refused reason) made refl (λ e. cc) (λ e. cc)
    serves_set set.Device made = set_failed made
    serves_set set.OutOfMemory made = set_quiet set.OutOfMemory made refl (λ e. cc) (λ e. cc)

  -- ---- one processor more, which has made no call

  pub run_next : (first : State) (flash : F) (engine : F × (Option SetInDoubt × Side)) (processors : List (List Answered))
      → HasRun fault_count moment left_since holds first flash engine processors
      → HasRun fault_count moment left_since holds first flash engine (processors ++ [] ∷ [])
  run_next first flash engine processors ran =
      let history = history_from-next processors in
      let answered = answered-next processors in
      record {
        opened = ran.opened;
        log = ran.log ∙ sym history;
        legal =
            subst (λ (es : List Entry). IsLegalSession first es (processors ++ [] ∷ [])) (sym history)
            (legal-next first (history_from 0 processors) processors ran.legal);
        in_turn = subst (AreInTurn 0) (sym answered) ran.in_turn;
        calm = λ none. ran.calm (sym (ap failures answered) ∙ none);
        failed = subst (λ (xs : List Answered). (fault_count flash + failures xs ≤ fault_count engine.0) ⊎ (2 ^ 64 - 1 ≤ fault_count engine.0)) (sym answered) ran.failed;
        never_falls = ran.never_falls;
        doubt = subst (λ (xs : List Answered). IfSome engine.1.0 (WasFailed xs)) (sym answered) ran.doubt;
        at_any_moment =
            stays_weaken (IsLeftSoFar first processors) (IsLeftSoFar first (processors ++ [] ∷ [])) flash engine.0 ran.at_any_moment
            (λ image left told is.
            subst (λ (es : List Entry). IsRunLeft first es (all_answered (processors ++ [] ∷ [])) left) (sym history)
            (subst (λ (xs : List Answered). IsRunLeft first (history_from 0 processors) xs left) (sym answered) is));
      }

  -- ---- one call more

  module _ (grows : LegalSessionsGrow) (first : State) (flash : F) (old new : F × (Option SetInDoubt × Side)) (front : List (List Answered)) (xs : List Answered) (processor index place : ℕ) (call : Call) (reply : Reply) (ran : HasRun fault_count moment left_since holds first flash old (front ++ xs ∷ [])) (turn : processor ≡ length front) (at : index ≡ length xs) (made : place ≡ length old.1.1.log) (served : Serves fault_count moment left_since holds old new processor index call reply) where
    abbrev answer : Answered
    answer = record { call = call; place = place; route = Plain; reply = reply }

    -- the processors before the call and behind it
    abbrev before : List (List Answered)
    before = front ++ xs ∷ []

    abbrev after_it : List (List Answered)
    after_it = front ++ (xs ++ answer ∷ []) ∷ []

    so_far : length (history_from 0 before) ≡ length old.1.1.log
    so_far = ap (λ (es : List Entry). length es) (sym ran.log) ∙ length_history old.1.1

    history_more : history_from 0 after_it ≡ history_from 0 before ++ changes_from (length front) (length xs) (answer ∷ [])
    history_more = history_from-more front xs answer

    log_more : history_in new.1.1.log ≡ history_from 0 before ++ changes_from (length front) (length xs) (answer ∷ [])
    log_more =
        ⊎_elim
        (λ yes.
        history_grown old.1.1 new.1.1 _ (served.answered.change yes)
        ∙ ap (λ (es : List Entry). es ++ entry_after old.1.1 processor index call ∷ []) ran.log
        ∙ ap (λ (e : Entry). history_from 0 before ++ e ∷ []) (λ i. record { number = sym made i; processor = turn i; index = at i; call = call })
        ∙ ap (λ (b : Bool). history_from 0 before ++ (if b then entry_of (length front) (length xs) answer ∷ [] else [])) (sym yes))
        (λ no.
        ap (λ (s : Side). history_in s.log) (served.answered.same no) ∙ ran.log ∙ sym (append-nil (history_from 0 before))
        ∙ ap (λ (b : Bool). history_from 0 before ++ (if b then entry_of (length front) (length xs) answer ∷ [] else [])) (sym no))
        (cases_Bool (is_change reply))

    answered_after : IsAnsweredAfter first (history_from 0 before) answer
    unfolding state_of
    answered_after = record {
      place = made ∙ sym so_far;
      route = refl;
      reply =
          subst (λ (es : List Entry). IsReplyIn (run first es) call reply) ran.log
          (subst (λ (s : State). IsReplyIn (run s (history_in old.1.1.log)) call reply) ran.opened served.answered.right);
    }

    legal_more : IsLegalSession first (history_from 0 after_it) after_it
    legal_more =
        subst (λ (es : List Entry). IsLegalSession first es after_it) (sym history_more)
        (grows first (history_from 0 before) front [] xs answer ran.legal answered_after)

    all_more : all_answered after_it ≡ all_answered before ++ answer ∷ []
    all_more = answered-more front xs answer

    in_turn_more : AreInTurn 0 (all_answered after_it)
    in_turn_more = subst (AreInTurn 0) (sym all_more) (in_turn-behind before answer ran.in_turn (made ∙ sym so_far))

    count_more : failures (all_answered after_it) ≡ failures (all_answered before) + added (is_device_error reply)
    count_more = ap failures all_more ∙ failures-snoc (all_answered before) answer

    is_behind : IsBehind old.1.1 new.1.1
    is_behind = behind old.1.1 new.1.1 processor index call reply served.answered

    calm_more : failures (all_answered after_it) ≡ 0 → fault_count new.0 ≡ fault_count flash
    calm_more none =
        let count = count_more in
        ⊎_elim
        (λ yes. let one = ap added yes in absurd (omega (arith, none, count, one)))
        (λ no. let zero = ap added no in served.cause.done no ∙ ran.calm (omega (arith, none, count, zero)))
        (cases_Bool (is_device_error reply))

    failed_more : (fault_count flash + failures (all_answered after_it) ≤ fault_count new.0) ⊎ (2 ^ 64 - 1 ≤ fault_count new.0)
    failed_more =
        let count = count_more in
        let low = served.cause.never_falls in
        ⊎_elim
        (λ bound.
        ⊎_elim
        (λ yes.
        let one = ap added yes in
        ⊎_elim (λ less. inl (omega (arith, bound, less, count, one))) (λ most. inr (omega (arith, most, low))) (served.cause.rose yes))
        (λ no. let zero = ap added no in inl (omega (arith, bound, low, count, zero)))
        (cases_Bool (is_device_error reply)))
        (λ most. inr (omega (arith, most, low)))
        ran.failed

    opened_more : first_state new.1.1 ≡ first
    opened_more = is_behind.first ∙ ran.opened

    logged_more : history_in new.1.1.log ≡ history_from 0 after_it
    logged_more = log_more ∙ sym history_more

    -- the call, where it is a set that failed, is one of the answered
    failed_now : (s : SetInDoubt) → call ≡ SetCalled s.call → is_device_error reply ≡ true → s.place ≡ length old.1.1.log → WasFailed (all_answered after_it) s
    failed_now s is device place = record {
      answer = answer;
      answered = subst (λ (ys : List Answered). Contains ys answer) (sym all_more) (Contains-push (all_answered before) answer);
      call = is;
      place = made ∙ sym place;
      device = device;
    }

    doubt_more : IfSome new.1.0 (WasFailed (all_answered after_it))
    doubt_more =
        ⊎_elim
        (λ same.
        subst (λ (o : Option SetInDoubt). IfSome o (WasFailed (all_answered after_it))) (sym same)
        (some_more old.1.0 (WasFailed (all_answered before)) (WasFailed (all_answered after_it))
        (λ s failed. failed_longer (all_answered before) (all_answered after_it) (answer ∷ []) all_more s failed) ran.doubt))
        (λ newer.
        some_more new.1.0 (IsNewDoubt old.1.1 call reply) (WasFailed (all_answered after_it)) (λ s is. failed_now s is.is is.device is.place) newer)
        served.doubt

    -- the state before the call is that after as many entries as there were
    state_before : (n : ℕ) → n ≡ length old.1.1.log → after first (history_from 0 after_it) n ≡ state_of old.1.1
    state_before n is =
        ap (after first (history_from 0 after_it)) (is ∙ sym so_far)
        ∙ state_longer first (history_from 0 before) (history_from 0 after_it) _ history_more (length (history_from 0 before)) (omega arith)
        ∙ sym (state_is old.1.1 first (history_from 0 before) ran.opened ran.log)

    -- what the calls before left, or this one does
    more_left : (left : List ℕ) → IsRunLeft first (history_from 0 before) (all_answered before) left
        → IsRunLeft first (history_from 0 after_it) (all_answered after_it) left
    more_left left is =
        left_longer first (history_from 0 before) (history_from 0 after_it) _ (all_answered before) (all_answered after_it) (answer ∷ []) history_more all_more left is

    call_left : (image left : List ℕ) → IsCallLeft old.1.1 old.1.0 new.1.1 call reply image left
        → IsRunLeft first (history_from 0 after_it) (all_answered after_it) left
    call_left image left is =
        ⊎_elim
        (λ but.
        more_left left
        (but_left old.1.1 old.1.0 first (history_from 0 before) (all_answered before) ran.opened ran.log served.before ran.doubt left but))
        (λ others.
        ⊎_elim (λ now. inl (front_now new.1.1 first (history_from 0 after_it) opened_more logged_more left now))
        (λ failing.
        let s : SetInDoubt = record { processor = processor; index = index; place = place; call = failing.set } in
        let len = ap (λ (es : List Entry). length es) history_more ∙ length-append (history_from 0 before) (changes_from (length front) (length xs) (answer ∷ [])) in
        let before_it = so_far in
        inr
        (record {
          set = s;
          failed = failed_now s failing.is failing.device made;
          place = omega (arith, made, before_it, len);
          kept =
              failing.kept ∙ sym (ap (λ (state : State). part NonVolatile (set_step state failing.set).1.variables) (state_before place made));
        }))
        others)
        is

    pub run_more : HasRun fault_count moment left_since holds first flash new after_it
    run_more = record {
      opened = opened_more;
      log = logged_more;
      legal = legal_more;
      in_turn = in_turn_more;
      calm = calm_more;
      failed = failed_more;
      never_falls = let a = ran.never_falls in let b = served.cause.never_falls in omega (arith, a, b);
      doubt = doubt_more;
      at_any_moment =
          stays_then (IsLeftSoFar first before) (IsLeftSoFar first before) (IsCallLeft old.1.1 old.1.0 new.1.1 call reply) (IsLeftSoFar first after_it) flash old.0 new.0
          ran.at_any_moment ran.at_any_moment.now served.at_any_moment (λ image left told is. more_left left is)
          (λ image cells left told now end is. call_left cells left is);
    }
