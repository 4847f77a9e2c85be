-- What the calls of a script come to, by the session that was run.
use Rattle.std.proofs.Common.{◌≡◌, ◌^◌, ℕ, ◌+◌, ◌-◌, ◌≤◌, Bool, true, false, ◌||◌, List, [], ◌∷◌, length, filter, All, Option, None, IfSome, refl, sym, ap, ap₂, subst, ◌∙◌, inl, ⊎_elim, arith, true≢false, if◌then◌else◌}
use Rattle.std.proofs.lemmas.Bool.{cases_Bool}
use Rattle.std.proofs.lemmas.List.{append-nil}
use Rattle.std.proofs.lemmas.List.Elements.{All-cons, All-nil}
use Rattle.std.proofs.lemmas.List.Filters.{length-filter_both, sum_by-filter_both}
use Rattle.flash_dev.proofs.Calls.{told_at}
use Rattle.flash_dev.proofs.Moments.{stays_none}
use Rattle.image_make.specs.Generated.{generated_calls, script_calls}
use Rattle.mm_writer.proofs.Sides.{means_now}
use Rattle.mm_writer.specs.Doubt.{SetInDoubt}
use Rattle.mm_writer.specs.Outcome.{IsKeptBut, IsKeptBy}
use Rattle.mm_writer.specs.Side.{IsConsistent, Side, first_state, state_of}
use Rattle.report_text.specs.declared.sizes.Sizes.{Sizes}
use Rattle.report_text.specs.Session.{history_from}
use Rattle.report_text.specs.Sizes.{sizes_of}
use Rattle.report_text.specs.Summary.{replies_from, replies_of, state_from, summary_of}
use Rattle.var_trace.specs.StoresAfter.{history_in}
use Rattle.var_types.proofs.Sessions.{state_left-run}
use Rattle.var_types.specs.declared.answered.Answered.{Answered}
use Rattle.var_types.specs.declared.call.Call.{Call}
use Rattle.var_types.specs.declared.key.Key.{Key}
use Rattle.var_types.specs.declared.reply.Reply.{Reply}
use Rattle.var_types.specs.declared.store.Store.TheVariants.{NonVolatile, Volatile}
use Rattle.var_types.specs.declared.variable.Variable.{Variable}
use Rattle.var_types.specs.DeviceErrors.{is_device_error}
use Rattle.var_types.specs.History.{Entry, run}
use Rattle.var_types.specs.Laws.{state_left}
use Rattle.var_types.specs.Session.{AreStepped, IsLegalSession, calls_of, history_of, state_after}
use Rattle.var_types.specs.State.{State, start}
use Rattle.var_types.specs.Step.{lacks_memory, step}
use Rattle.var_types.specs.Stores.{is_in, map_in, part}
use Rattle.varsvc.proofs.Processors.{no_processor}
use Rattle.varsvc.proofs.Running.{front_now}
use Rattle.varsvc.proofs.Stepped.{processors_stepped}
use Rattle.varsvc.specs.Running.{HasRun, IsLeftSoFar}
use Rattle.varsvc.specs.Runs.{AreInTurn, IsCalmAnswer, WasFailed, all_answered, failures, lacks_one}
use Rattle.varsvc.specs.Work.{work_summary}

-- ---- stepped calls

-- neither of two
neither : (a b : Bool) → (a || b) ≡ false → (a ≡ false) × (b ≡ false)
neither true b h = absurd (true≢false h)
neither false b h = (refl, h)

-- a call that isn't out of memory leaves the service's state
goes_on : (state : State) (a : Answered) → lacks_memory a.call a.reply ≡ false → state_after state a ≡ (step state a.call).1
goes_on state a able = ap (λ (b : Bool). if b then state else (step state a.call).1) able

-- where no reply is out of memory, they are the service's
stepped_replies : (state : State) (xs : List Answered) → AreStepped state xs → lacks_one xs ≡ false → replies_of xs ≡ replies_from state (calls_of xs)
stepped_replies state [] stepped able = refl
stepped_replies state (a ∷ xs) stepped able =
    let each = neither (lacks_memory a.call a.reply) (lacks_one xs) able in
    ap₂ (λ (r : Reply) (rs : List Reply). r ∷ rs) (stepped.2 each.0)
    (stepped_replies (state_after state a) xs stepped.3 each.1 ∙ ap (λ (s : State). replies_from s (calls_of xs)) (goes_on state a each.0))

-- and so is the state that they leave
stepped_state : (state : State) (xs : List Answered) → lacks_one xs ≡ false → state_left state xs ≡ state_from state (calls_of xs)
stepped_state state [] able = refl
stepped_state state (a ∷ xs) able =
    let each = neither (lacks_memory a.call a.reply) (lacks_one xs) able in
    stepped_state (state_after state a) xs each.1 ∙ ap (λ (s : State). state_from s (calls_of xs)) (goes_on state a each.0)

-- answers that say neither that memory is wanting nor that the flash failed
all_calm : (xs : List Answered) → lacks_one xs ≡ false → failures xs ≡ 0 → All IsCalmAnswer xs
all_calm [] able none = All-nil IsCalmAnswer
all_calm (a ∷ xs) able none =
    let each = neither (lacks_memory a.call a.reply) (lacks_one xs) able in
    ⊎_elim
    (λ yes.
    let one = ap (λ (b : Bool). length (if b then a ∷ filter (λ (x : Answered). is_device_error x.reply) xs else filter (λ (x : Answered). is_device_error x.reply) xs)) yes in
    absurd (omega (arith, none, one)))
    (λ no.
    let fewer = ap (λ (b : Bool). length (if b then a ∷ filter (λ (x : Answered). is_device_error x.reply) xs else filter (λ (x : Answered). is_device_error x.reply) xs)) no in
    All-cons IsCalmAnswer a xs (each.0, no) (all_calm xs each.1 (sym fewer ∙ none)))
    (cases_Bool (is_device_error a.reply))

-- ---- what they come to

-- the calls of one processor alone were stepped
one_stepped : (first : State) (xs : List Answered) → first.made ≡ 0 → IsLegalSession first (history_from 0 (xs ∷ [])) (xs ∷ [])
    → AreInTurn 0 (all_answered (xs ∷ [])) → failures (all_answered (xs ∷ [])) ≡ 0 → lacks_one xs ≡ false → AreStepped first xs
one_stepped first xs start legal in_turn none able =
    let alone : all_answered (xs ∷ []) ≡ xs = append-nil xs in
    subst (AreStepped first) alone
    (processors_stepped first (xs ∷ []) start legal in_turn
    (subst (All IsCalmAnswer) (sym alone) (all_calm xs able (ap failures (sym alone) ∙ none))))

-- the summary of a session of a script's calls is that of the script
pub worked : (number : ℕ) (side : Side) (first : State) (xs : List Answered) → first ≡ start [] script_calls → first_state side ≡ first
    → history_in side.log ≡ history_from 0 (xs ∷ []) → IsLegalSession first (history_from 0 (xs ∷ [])) (xs ∷ []) → AreInTurn 0 (all_answered (xs ∷ []))
    → failures (all_answered (xs ∷ [])) ≡ 0 → lacks_one xs ≡ false → calls_of xs ≡ generated_calls number
    → summary_of (replies_of xs) (sizes_of (state_of side).variables) ≡ work_summary number
unfolding work_summary state_of
worked number side first xs is opened log legal in_turn none able calls =
    let stepped = one_stepped first xs (ap (λ (s : State). s.made) is) legal in_turn none able in
    let replies : replies_of xs ≡ replies_from (start [] script_calls) (generated_calls number) =
    stepped_replies first xs stepped able ∙ ap₂ (λ (s : State) (cs : List Call). replies_from s cs) is calls in
    let state : run (first_state side) (history_in side.log) ≡ state_from (start [] script_calls) (generated_calls number) =
    ap₂ (λ (s : State) (es : List Entry). run s es) opened (log ∙ append-nil (history_of xs))
    ∙ sym (state_left-run first 0 0 xs stepped)
    ∙ stepped_state first xs able
    ∙ ap₂ (λ (s : State) (cs : List Call). state_from s cs) is calls in
    ap₂ (λ (rs : List Reply) (s : State). summary_of rs (sizes_of s.variables)) replies state

-- ---- sizes

-- the variables of the two stores are all
both_parts : (variables : List (Key × Variable))
    → record { variables = (sizes_of (part NonVolatile variables)).variables + (sizes_of (part Volatile variables)).variables; bytes = (sizes_of (part NonVolatile variables)).bytes + (sizes_of (part Volatile variables)).bytes }
    ≡ sizes_of variables
unfolding is_in
both_parts variables = λ i. record {
  variables = length-filter_both (is_in NonVolatile) (is_in Volatile) (λ e. refl) variables i;
  bytes = sum_by-filter_both (is_in NonVolatile) (is_in Volatile) (λ e. refl) (λ (e : Key × Variable). length e.1.bytes) variables i;
}

pub all_sizes : (side : Side) (kept lost : Sizes) → IsConsistent side → kept ≡ sizes_of (map_in NonVolatile side.stores.non_volatile)
    → lost ≡ sizes_of (map_in Volatile side.stores.volatile)
    → record { variables = kept.variables + lost.variables; bytes = kept.bytes + lost.bytes } ≡ sizes_of (state_of side).variables
all_sizes side kept lost consistent is_kept is_lost =
    let means = means_now side consistent in
    ap₂ (λ (k : Sizes) (l : Sizes). record { variables = k.variables + l.variables; bytes = k.bytes + l.bytes })
    (is_kept ∙ ap sizes_of (means.each NonVolatile)) (is_lost ∙ ap sizes_of (means.each Volatile))
    ∙ both_parts (state_of side).variables

-- ---- a run that begins

module _ {F : Type 0} {fault_count moment : F → ℕ} {left_since : F → ℕ → List ℕ → Type 0} {holds : F → Option (List ℕ)} where
  -- no call has been made
  pub run_none : (e : F × (Option SetInDoubt × Side)) → e.1.1.log ≡ [] → e.1.0 ≡ None → IfSome (holds e.0) (IsKeptBut e.1.1 e.1.0)
      → HasRun fault_count moment left_since holds (first_state e.1.1) e.0 e []
  run_none e empty sure kept = record {
    opened = refl;
    log = ap history_in empty;
    legal = no_processor (first_state e.1.1);
    in_turn = tt;
    calm = λ _. refl;
    failed = inl (omega arith);
    never_falls = omega arith;
    doubt = subst (λ (d : Option SetInDoubt). IfSome d (WasFailed [])) (sym sure) tt;
    at_any_moment =
        stays_none (IsLeftSoFar (first_state e.1.1) []) e.0
        (λ image told.
        inl
        (front_now e.1.1 (first_state e.1.1) [] refl (ap history_in empty) image
        (told_at (IsKeptBy e.1.1) (holds e.0) image (subst (λ (d : Option SetInDoubt). IfSome (holds e.0) (IsKeptBut e.1.1 d)) sure kept) told)));
  }

  -- where the flash never fails, no reply says that it did
  pub no_failures : (first : State) (flash : F) (e : F × (Option SetInDoubt × Side)) (xs : List (List Answered))
      → HasRun fault_count moment left_since holds first flash e xs → ((f : F) → fault_count f ≡ 0) → failures (all_answered xs) ≡ 0
  no_failures first flash e xs ran never =
      let before = never flash in
      let now = never e.0 in
      ⊎_elim (λ (few : fault_count flash + failures (all_answered xs) ≤ fault_count e.0). omega (arith, few, before, now))
      (λ (many : 2 ^ 64 - 1 ≤ fault_count e.0). absurd (omega (arith, many, now))) ran.failed
