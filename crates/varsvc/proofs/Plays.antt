-- What is printed of a script with a schedule, by what was read of it.
use Rattle.std.proofs.Common.{◌≡◌, ◌≢◌, ℕ, suc, ◌<◌, ◌≤◌, Bool, true, false, if◌then◌else◌, inl, inr, ⊎_elim, List, [], ◌∷◌, length, take, Option, Some, None, Result, Ok, Err, IfSome, All, refl, sym, ap, subst, ◌∙◌, arith, lit<}
use Rattle.std.specs.Prelude.{slice_get}
use Rattle.std.proofs.lemmas.Bool.{cases_lt, lt-ltb}
use Rattle.std.proofs.lemmas.List.{length-take-le, take_all}
use Rattle.std.proofs.lemmas.List.Elements.{All-cons, All-head, All-nil, All-tail}
use Rattle.flash_dev.proofs.Moments.{stays_none}
use Rattle.flash_dev.specs.Moments.{Stays}
use Rattle.flash_dev.specs.Rules.{IsKept, Leaves}
use Rattle.play_steps.specs.Play.{IsPlayed}
use Rattle.report_text.specs.Fitting.{IsFitting}
use Rattle.report_text.specs.Values.{AnswerHasValues, HaveValues}
use Rattle.script_text.specs.declared.play_fault.PlayFault.{PlayFault}
use Rattle.script_text.specs.declared.play_fault.PlayFault.TheVariants as play
use Rattle.script_text.specs.Schedule.{PlayParts, play_of}
use Rattle.script_text.specs.Script.{most_script_bytes}
use Rattle.var_trace.specs.Session.{SessionParts, answers_of}
use Rattle.var_types.specs.declared.answered.Answered.{Answered}
use Rattle.var_types.specs.History.{Entry}
use Rattle.var_types.specs.Session.{AreRight}
use Rattle.var_types.specs.State.{State}
use Rattle.varsvc.specs.declared.words.order.Order.{Order}
use Rattle.varsvc.specs.declared.words.order.Order.TheVariants as order
use Rattle.varsvc.specs.declared.output.plan.Plan.{Plan}
use Rattle.varsvc.specs.declared.output.plan.Plan.TheVariants.{NoMemory, Stream}
use Rattle.varsvc.specs.declared.output.streamed.Streamed.TheVariants.{Play}
use Rattle.varsvc.specs.declared.words.usage.UsageFault.{UsageFault}
use Rattle.varsvc.specs.FaultLines.{play_line}
use Rattle.varsvc.specs.Input.{IsInput, most_read}
use Rattle.varsvc.specs.Outcome.{IsText, LeavesImage, play_row, row}
use Rattle.varsvc.specs.Plan.{HasPlanValues, PlansLine, lacks_in, play_text, status_of, text_of}
use Rattle.varsvc.specs.Plays.{PlansPlay, Plays, PlaysSame, RefusesPlay}
use Rattle.varsvc.specs.Told.{Told}
use Rattle.varsvc.proofs.PlannedTexts.{text_done, text_memory, text_script}
use Rattle.varsvc.proofs.Plans.{line_text}
use Rattle.varsvc.proofs.Runs.{all_fitting, kinds, right_fits}

-- ---- what was read

-- the first of two where the test holds
chosen : {A : Type 0} (b : Bool) (x y : A) → b ≡ true → (if b then x else y) ≡ x
chosen b x y is = ap (λ c. if c then x else y) is

-- a text that is too long is refused by its length alone
play_of-long : (text : List ℕ) → most_script_bytes < length text → play_of text ≡ Err (play.TooLong most_script_bytes)
unfolding play_of
play_of-long text h = chosen _ _ _ (lt-ltb most_script_bytes (length text) h)

-- where more than the limit is read, the rest says nothing more
play_of-take : (n : ℕ) (text : List ℕ) → most_script_bytes < n → play_of (take n text) ≡ play_of text
play_of-take n text h =
    ⊎_elim
    (λ (gt : n < length text). play_of-long (take n text) (let e : length (take n text) ≡ n = length-take-le n text (omega arith) in omega arith)
    ∙ sym (play_of-long text (omega arith)))
    (λ (le : length text ≤ n). ap play_of (take_all n text le))
    (cases_lt n (length text))

-- what is read says the same of script and schedule as all that was left
pub plays_same : (told : Option (List ℕ)) (read : List ℕ) → IsInput told read → PlaysSame told read
unfolding IsInput
plays_same None read h = tt
plays_same (Some bytes) read h = sym (ap play_of h ∙ play_of-take most_read bytes (lit< tt))

-- an answer about what was read is one about what was left
of_told : (told : Option (List ℕ)) (read : List ℕ) (answer : Result PlayParts PlayFault) → PlaysSame told read → play_of read ≡ answer
    → IfSome told (λ bytes. play_of bytes ≡ answer)
of_told None read answer same is = tt
of_told (Some bytes) read answer same is = same ∙ is

-- an input that is a script with a schedule is shorter than what is read at most
pub play_is_short : (input : List ℕ) (parts : PlayParts) → play_of input ≡ Ok parts → length input < most_read
play_is_short input parts h =
    ⊎_elim
    (λ (gt : most_script_bytes < length input). absurd (two_answers (sym (play_of-long input gt) ∙ h)))
    (λ (le : length input ≤ most_script_bytes). omega (arith, le))
    (cases_lt most_script_bytes (length input))
  where
    two_answers : {e : PlayFault} {x : PlayParts} → Err e ≡ Ok x → ⊥
    two_answers h = cc

-- ---- replies that fit their calls

-- the replies of processors, each right at its place, fit
fit_each : (state : State) (history : List Entry) (processors : List (List Answered))
    → ((n : ℕ) (answered : List Answered) → slice_get processors n ≡ Some answered → (processor : ℕ) × AreRight state history processor 0 answered)
    → HaveValues processors → All (All IsFitting) processors
fit_each state history [] right values = All-nil (All IsFitting)
fit_each state history (xs ∷ rest) right values =
    let first = right 0 xs refl in
    All-cons (All IsFitting) xs rest
    (all_fitting xs (kinds right_fits state history first.0 0 xs first.1) (All-head (λ (answered : List Answered). All AnswerHasValues answered) xs rest values))
    (fit_each state history rest (λ n answered is. right (suc n) answered is)
    (All-tail (λ (answered : List Answered). All AnswerHasValues answered) xs rest values))

-- ---- the plan of a play

module _ (told : Option (List ℕ)) (read : List ℕ) (same : PlaysSame told read) where
  -- the plan for a session that was played has the text of its status
  pub played_text : (parts : PlayParts) (session : SessionParts) (left : Option (List ℕ)) (plan : Plan) → play_of read ≡ Ok parts
      → IsPlayed parts session left → PlansPlay session left plan → HasPlanValues plan → IsText (play_row told) (status_of plan) (text_of plan)
  played_text parts session left plan is played (inr none) values =
      subst (λ (p : Plan). IsText (play_row told) (status_of p) (text_of p)) (sym none) (text_memory (play_row told) tt)
  played_text parts session left plan is played (inl (streams, able)) values =
      subst (λ (p : Plan). IsText (play_row told) (status_of p) (text_of p)) (sym streams)
      (text_done (play_row told) (play_text session left)
      (record {
        parts = parts;
        script = of_told told read (Ok parts) same is;
        session = session;
        left = left;
        played = played;
        fitting = fit_each _ _ (answers_of session) (λ n answered at. (n, (played.legal.each n answered at).right)) (subst HasPlanValues streams values);
        able = able;
        printed = refl;
      }))

  -- so has the plan of the line for a refused one
  pub refused_play : (fault : PlayFault) (plan : Plan) → play_of read ≡ Err fault → PlansLine 3 (play_line fault) plan
      → IsText (play_row told) (status_of plan) (text_of plan)
  refused_play fault plan is plans =
      line_text (play_row told) 3 (play_line fault) plan
      (text_script (play_row told) (play_line fault) (refuses told (of_told told read (Err fault) same is)) tt) plans tt
    where
      refuses : (t : Option (List ℕ)) → IfSome t (λ bytes. play_of bytes ≡ Err fault) → RefusesPlay t (play_line fault)
      refuses None is = tt
      refuses (Some bytes) is = (fault, is, refl)

-- ---- its status

-- a session's plan is done or out of memory
pub played_status : (session : SessionParts) (left : Option (List ℕ)) (plan : Plan) (other : ℕ) → other ≢ 0 → other ≢ 8 → PlansPlay session left plan
    → status_of plan ≢ other
played_status session left plan other done memory (inl (streams, able)) = λ e. done (sym e ∙ ap status_of streams)
played_status session left plan other done memory (inr none) = λ e. memory (sym e ∙ ap status_of none)

-- ---- a play hands the very same image back

leaves_kept : (told : Option (List ℕ)) → Leaves IsKept told told
leaves_kept None = refl
leaves_kept (Some image) = refl

module _ {F : Type 0} (holds : F → Option (List ℕ)) (asked : Result Order UsageFault) (told : Told) (old new : F) (plays : asked ≡ Ok order.Play) (same : new ≡ old) where
  pub leaves_same : (status size : ℕ) → LeavesImage (row asked told) status size (holds old) (holds new)
  leaves_same status size =
      subst (λ (a : Result Order UsageFault). LeavesImage (row a told) status size (holds old) (holds new)) (sym plays)
      (subst (λ (flash : F). LeavesImage (play_row told.input) status size (holds old) (holds flash)) (sym same)
      (record {
        done = λ e. leaves_kept (holds old);
        device = λ e. leaves_kept (holds old);
        refused = λ e. refl;
        other_size = λ e. refl;
        memory = λ e. refl;
      }))

  pub stays_same : (moment : F → ℕ) (left_since : F → ℕ → List ℕ → Type 0) → Stays (row asked told).leaves moment left_since holds old new
  stays_same moment left_since =
      subst (λ (a : Result Order UsageFault). Stays (row a told).leaves moment left_since holds old new) (sym plays)
      (subst (λ (flash : F). Stays IsKept moment left_since holds old flash) (sym same) (stays_none IsKept old (λ image told. refl)))
