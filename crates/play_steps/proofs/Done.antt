-- What an engine's answers come to.
use Rattle.std.proofs.Common.{◌≡◌, ◌≢◌, inl, ⊎_elim, ℕ, Bool, true, false, List, [], None, Result, Ok, Err, IfOk, length, refl, sym, ap, subst, ◌∙◌, true≢false}
use Rattle.mm_writer.specs.Outcome.{IsAnswered, IsKeptBy, IsSetLeft}
use Rattle.mm_writer.specs.Side.{Side, first_state, state_of}
use Rattle.svc_core.specs.declared.flash_step.FlashStep.{FlashStep}
use Rattle.svc_core.specs.FlashSteps.{after_steps}
use Rattle.svc_core.specs.Writer.{Opening}
use Rattle.var_types.specs.declared.call.Call.{Call}
use Rattle.var_types.specs.declared.call.Call.TheVariants.{ExitBoot, Get, Next, Policy, Set}
use Rattle.var_types.specs.declared.call.GetCall.{GetCall}
use Rattle.var_types.specs.declared.call.NextCall.{NextCall}
use Rattle.var_types.specs.declared.call.SetCall.{SetCall}
use Rattle.var_types.specs.declared.policy_call.PolicyCall.{PolicyCall}
use Rattle.var_types.specs.declared.policy_reply.PolicyReply.{PolicyReply}
use Rattle.var_types.specs.declared.policy_reply.PolicyReply.TheVariants as policy
use Rattle.var_types.specs.declared.reply.ExitReply.{ExitReply}
use Rattle.var_types.specs.declared.reply.GetReply.{GetReply}
use Rattle.var_types.specs.declared.reply.NextReply.{NextReply}
use Rattle.var_types.specs.declared.reply.Reply.{Reply}
use Rattle.var_types.specs.declared.reply.Reply.TheVariants.{Exit as ExitReplied, Get as GetReplied, Next as NextReplied, Policy as PolicyReplied, Set as SetReplied}
use Rattle.var_types.specs.declared.reply.SetReply.{SetReply}
use Rattle.var_types.specs.declared.reply.SetReply.TheVariants as set
use Rattle.var_types.specs.declared.store.Store.TheVariants.{NonVolatile}
use Rattle.var_types.specs.DeviceErrors.{is_device_error}
use Rattle.var_types.specs.Get.{get_reply}
use Rattle.var_types.specs.Next.{next_reply}
use Rattle.var_types.specs.Step.{is_change, lacks_memory, step}
use Rattle.var_types.specs.Stores.{map_in}
use Rattle.var_types.specs.State.{start}
use Rattle.play_steps.proofs.Marks.{HasNoShort, first_same, left_by_calls, not_short}
use Rattle.play_steps.specs.EngineWriter.{EngineState, IsDone, IsReady, IsWhole, KeepsEither, opening_of}
use Rattle.play_steps.specs.ListedFlash.{IsLeftIn, ListedState, StaysListed, bytes_of}

-- what is true of a result's value, from three facts of it
pub told_all : {A E : Type 0} (result : Result A E) (P Q R S : A → Type 0) → IfOk result P → IfOk result Q → IfOk result R
    → ((value : A) → P value → Q value → R value → S value) → IfOk result S
told_all (Ok value) P Q R S p q r all = all value p q r
told_all (Err fault) P Q R S p q r all = tt

-- the opening stays with what a side opened with and its limit
pub opening_by : (old new : EngineState) → new.1.1.opening ≡ old.1.1.opening → new.1.1.limit ≡ old.1.1.limit → opening_of new ≡ opening_of old
unfolding first_state
opening_by old new opening limit = λ i.
    let o : Opening = record { start = start (map_in NonVolatile (opening i).non_volatile) (limit i); stores = opening i } in
    o

-- so it stays over each call
pub opening_stays : (old new : EngineState) (processor index : ℕ) (call : Call) (reply : Reply) → IsAnswered old.1.1 new.1.1 processor index call reply
    → opening_of new ≡ opening_of old
opening_stays old new processor index call reply answered = by (is_change reply) refl
  where
    by : (b : Bool) → is_change reply ≡ b → opening_of new ≡ opening_of old
    by true e = let g = answered.change e in opening_by old new g.opening g.limit
    by false e =
        let same = answered.same e in
        opening_by old new (ap (λ (s : Side). s.opening) same) (ap (λ (s : Side). s.limit) same)

-- where no step is listed, only the bytes now may be left
left_of_none : (steps : List FlashStep) (first left : List ℕ) → steps ≡ [] → IsLeftIn steps first left → left ≡ after_steps steps first
left_of_none steps first left none is =
    subst (λ (s : List FlashStep). IsLeftIn s first left → left ≡ after_steps s first) (sym none) (λ is. is) is

module _ (old new : EngineState) (processor index : ℕ) (call : Call) (reply : Reply) (ready : IsReady old) (whole : IsWhole old) (answered : IsAnswered old.1.1 new.1.1 processor index call reply) (told : lacks_memory call reply ≡ false) (device : is_device_error reply ≡ false) where
  -- an engine whose flash stayed as it was
  pub untouched_done : new.0 ≡ old.0 → new.1.0 ≡ old.1.0 → IsDone old new processor index call reply
  untouched_done flash doubt = record {
    right = answered.right.same told device;
    change = answered.change;
    same = λ h. λ i. (flash i, (doubt i, answered.same h i));
    sure = doubt ∙ ready.sure;
    first = ap (λ (f : ListedState). f.first) flash;
    moments = λ left is.
        inl
        (subst (IsKeptBy old.1.1)
        (sym
        (left_of_none old.0.steps old.0.first left ready.given (subst (λ (f : ListedState). IsLeftIn f.steps f.first left) flash is)))
        (whole.kept ready.sure));
  }

  -- one whose set changed its flash
  pub touched_done : is_change reply ≡ true → new.1.0 ≡ None → new.0.first ≡ old.0.first
      → ((left : List ℕ) → IsLeftIn new.0.steps new.0.first left → KeepsEither old.1.1 call left) → IsDone old new processor index call reply
  touched_done changed sure first moments = record {
    right = answered.right.same told device;
    change = answered.change;
    same = λ h. absurd (true≢false (sym changed ∙ h));
    sure = sure;
    first = first;
    moments = moments;
  }

-- what a set may leave is no short list
set_left : (side : Side) (call : SetCall) (image : List ℕ) → length image ≡ 131072 → HasNoShort (IsSetLeft side None call) image
set_left side call image size = record { none = λ left short is. not_short image left size short is.headers }

-- what it may leave keeps the variables of before or those behind it
set_keeps : (side : Side) (call : SetCall) (image left : List ℕ) → IsSetLeft side None call image left → KeepsEither side (Set call) left
unfolding step
set_keeps side call image left is = is.kept

module _ (old new : EngineState) (call : SetCall) (ready : IsReady old) (whole : IsWhole old) (stays : StaysListed (IsSetLeft old.1.1 None call) old.0 new.0) where
  -- the flash before, with no step listed
  begun : old.0 ≡ record { first = bytes_of old.0; steps = []; faults = old.0.faults }
  begun = λ i.
      let steps : List FlashStep = ready.given i in
      let f : ListedState = record { first = first_now i; steps = steps; faults = old.0.faults } in
      f
    where
      first_now : old.0.first ≡ bytes_of old.0
      first_now = ap (λ (s : List FlashStep). after_steps s old.0.first) (sym ready.given)

  stays_begun : StaysListed (IsSetLeft old.1.1 None call) (record { first = bytes_of old.0; steps = []; faults = old.0.faults }) new.0
  stays_begun = subst (λ (f : ListedState). StaysListed (IsSetLeft old.1.1 None call) f new.0) begun stays

  pub set_first : new.0.first ≡ bytes_of old.0
  set_first = first_same (IsSetLeft old.1.1 None call) (bytes_of old.0) old.0.faults new.0 whole.size (set_left old.1.1 call (bytes_of old.0) whole.size) stays_begun

  pub set_moments : (left : List ℕ) → IsLeftIn new.0.steps new.0.first left → KeepsEither old.1.1 (Set call) left
  set_moments left is =
      ⊎_elim (λ same. inl (subst (IsKeptBy old.1.1) (sym same) (whole.kept ready.sure))) (set_keeps old.1.1 call (bytes_of old.0) left)
      (left_by_calls (IsSetLeft old.1.1 None call) (bytes_of old.0) old.0.faults new.0 whole.size (set_left old.1.1 call (bytes_of old.0) whole.size) stays_begun left is)

-- a set that was answered
pub set_done : (old new : EngineState) (processor index : ℕ) (call : SetCall) (reply : SetReply) → IsReady old → IsWhole old
    → IsAnswered old.1.1 new.1.1 processor index (Set call) (SetReplied reply) → (reply ≢ set.Ok → reply ≢ set.Device → new.0 ≡ old.0)
    → (reply ≢ set.Ok → reply ≢ set.Device → new.1.0 ≡ old.1.0) → (reply ≡ set.Ok → old.1.0 ≡ None → new.1.0 ≡ None)
    → StaysListed (IsSetLeft old.1.1 None call) old.0 new.0 → reply ≢ set.OutOfMemory → reply ≢ set.Device
    → IsDone old new processor index (Set call) (SetReplied reply)
set_done old new processor index call set.Ok ready whole answered flash doubt sure stays memory device =
    touched_done old new processor index (Set call) (SetReplied set.Ok) ready whole answered refl refl refl (sure refl ready.sure)
    (set_first old new call ready whole stays ∙ first_now) (set_moments old new call ready whole stays)
  where
    first_now : bytes_of old.0 ≡ old.0.first
    first_now = ap (λ (s : List FlashStep). after_steps s old.0.first) ready.given
set_done old new processor index call set.Same ready whole answered flash doubt sure stays memory device =
    untouched_done old new processor index (Set call) (SetReplied set.Same) ready whole answered refl refl (flash (λ e. cc) (λ e. cc)) (doubt (λ e. cc) (λ e. cc))
set_done old new processor index call (set.Refused reason) ready whole answered flash doubt sure stays memory device =
    untouched_done old new processor index (Set call) (SetReplied (set.Refused reason)) ready whole answered refl refl (flash (λ e. cc) (λ e. cc))
    (doubt (λ e. cc) (λ e. cc))
set_done old new processor index call set.Device ready whole answered flash doubt sure stays memory device = absurd (device refl)
set_done old new processor index call set.OutOfMemory ready whole answered flash doubt sure stays memory device = absurd (memory refl)

-- a call about the policies that was answered
pub policy_done : (old new : EngineState) (processor index : ℕ) (call : PolicyCall) (reply : PolicyReply) → IsReady old → IsWhole old
    → IsAnswered old.1.1 new.1.1 processor index (Policy call) (PolicyReplied reply) → new.0 ≡ old.0 → new.1.0 ≡ old.1.0 → reply ≢ policy.OutOfMemory
    → IsDone old new processor index (Policy call) (PolicyReplied reply)
policy_done old new processor index call reply ready whole answered flash doubt memory =
    untouched_done old new processor index (Policy call) (PolicyReplied reply) ready whole answered (told reply memory) refl flash doubt
  where
    told : (r : PolicyReply) → r ≢ policy.OutOfMemory → lacks_memory (Policy call) (PolicyReplied r) ≡ false
    told policy.Ok m = refl
    told policy.On m = refl
    told policy.Off m = refl
    told (policy.Entry bytes) m = refl
    told (policy.Refused reason) m = refl
    told policy.OutOfMemory m = absurd (m refl)

-- an end of the boot phase that was answered
pub exit_done : (old new : EngineState) (processor index : ℕ) (reply : ExitReply) → IsReady old → IsWhole old
    → IsAnswered old.1.1 new.1.1 processor index ExitBoot (ExitReplied reply) → new.0 ≡ old.0 → new.1.0 ≡ old.1.0
    → IsDone old new processor index ExitBoot (ExitReplied reply)
exit_done old new processor index reply ready whole answered flash doubt =
    untouched_done old new processor index ExitBoot (ExitReplied reply) ready whole answered refl refl flash doubt

-- a read that was answered
read_done : (e : EngineState) (processor index : ℕ) (call : Call) (reply : Reply) → IsReady e → IsWhole e → reply ≡ (step (state_of e.1.1) call).0
    → is_change reply ≡ false → IsDone e e processor index call reply
read_done e processor index call reply ready whole right unchanged = record {
  right = right;
  change = λ h. absurd (true≢false (sym h ∙ unchanged));
  same = λ h. refl;
  sure = ready.sure;
  first = refl;
  moments = λ left is.
      inl (subst (IsKeptBy e.1.1) (sym (left_of_none e.0.steps e.0.first left ready.given is)) (whole.kept ready.sure));
}

pub get_done : (e : EngineState) (processor index : ℕ) (call : GetCall) (reply : GetReply) → IsReady e → IsWhole e
    → reply ≡ get_reply (state_of e.1.1) call → IsDone e e processor index (Get call) (GetReplied reply)
unfolding step
get_done e processor index call reply ready whole right =
    read_done e processor index (Get call) (GetReplied reply) ready whole (ap GetReplied right) refl

pub next_done : (e : EngineState) (processor index : ℕ) (call : NextCall) (reply : NextReply) → IsReady e → IsWhole e
    → reply ≡ next_reply (state_of e.1.1) call → IsDone e e processor index (Next call) (NextReplied reply)
unfolding step
next_done e processor index call reply ready whole right =
    read_done e processor index (Next call) (NextReplied reply) ready whole (ap NextReplied right) refl
