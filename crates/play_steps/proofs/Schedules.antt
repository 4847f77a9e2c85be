-- The turns of a schedule, by the steps of a world.
use Rattle.std.proofs.Common.{◌≡◌, ◌⊎◌, ℕ, zero, suc, ◌<◌, ◌≤◌, ◌==◌, not, Bool, true, false, List, [], ◌∷◌, ◌++◌, length, map, Option, Some, None, refl, sym, ap, subst, ◌∙◌, inl, inr, ⊎_elim, length-append, arith}
use Rattle.std.proofs.lemmas.Bool.{eqb-false, eqb-true, not-false, not-true}
use Rattle.std.proofs.lemmas.Option.{slice_get-map}
use Rattle.std.specs.Option.{option_map}
use Rattle.std.specs.Prelude.{slice_get}
use Rattle.flash_dev.specs.declared.fault_plan.Torn.{Torn}
use Rattle.script_text.specs.declared.power_loss.PowerLoss.{PowerLoss}
use Rattle.script_text.specs.declared.turn.Turn.{Turn}
use Rattle.script_text.specs.declared.turn.Turn.TheVariants as turn
use Rattle.script_text.specs.Schedule.{ScheduleParts}
use Rattle.var_trace.specs.Answers.{AnsweredCalls}
use Rattle.var_types.specs.declared.answered.Answered.{Answered}
use Rattle.svc_core.proofs.Lists.{at_set}
use Rattle.svc_core.proofs.Scenes.{row_opening}
use Rattle.svc_core.specs.declared.event.Event.{Event}
use Rattle.svc_core.specs.declared.event.Event.TheVariants.{Step, Power}
use Rattle.svc_core.specs.declared.event.Stepped.{Stepped}
use Rattle.svc_core.specs.declared.event.Stepped.TheVariants.{Moved, Still}
use Rattle.svc_core.specs.declared.point.Point.{Point}
use Rattle.svc_core.specs.declared.point.Point.TheVariants.{Start, Decide}
use Rattle.svc_core.specs.Events as events
use Rattle.svc_core.specs.Events.{Happens, IsStill, Powered}
use Rattle.svc_core.specs.Scene.{IsStepped, Moves, Scene, powered}
use Rattle.svc_core.specs.World.{Processor, World}
use Rattle.play_steps.proofs.Ranks.{IsStepIn, IsStepOf, answers, level, nearer, rank, row_steps}
use Rattle.play_steps.specs.Play as play
use Rattle.play_steps.specs.Play.{AreTurns, Ends, GoesOn, IsScheduled, IsTurn, LosesPower, Takes, answered_by}

-- a step of a processor: it was in the world, and is behind the step
pub record IsStepAt (v : Powered) (p : ℕ) (next : Powered) : Type 0 where
  pub before : Processor
  pub behind : Processor
  pub was : slice_get v.world.processors p ≡ Some before
  pub is : slice_get next.world.processors p ≡ Some behind
  pub how : IsStepOf before behind

-- what an event that moves is
abbrev IsMove : Powered → Event → Powered → Type 0
IsMove v (Step p) next = IsStepAt v p next
IsMove v (Power torn) next = next.lost ≡ true

move : (v next : Powered) (event : Event) → Happens v event next → (IsStill v.lost v.world event → ⊥) → IsMove v event next
move v _ event (events.nothing _ still) goes = absurd (goes still)
move v _ _ (events.step p a w live get taken) goes =
    let one : IsStepIn v.world p a w = row_steps v.world p a w taken in
    record {
      before = a;
      behind = one.behind;
      was = get;
      is = ap (λ (ps : List Processor). slice_get ps p) one.processors ∙ at_set v.world.processors p a one.behind get;
      how = one.how;
    }
move v _ _ (events.power torn left live torn_is allowed) goes = refl

pub moved_step : (v next : Powered) (p : ℕ) → Moves v (Step p) next → IsStepAt v p next
moved_step v next p moves = move v next (Step p) moves.1 moves.0

-- behind a loss of power it is lost
still_lost : (lost : Bool) (w : World) (torn : Torn) → IsStill lost w (Power torn) → lost ≡ true
still_lost true w torn still = refl
still_lost false w torn still = absurd still

module _ (s next : Scene) (torn : Torn) where
  power_moved : IsStepped s (Power torn) Moved next → Happens (powered s) (Power torn) (powered next) × (next.lost ≡ true)
  power_moved step = (step.1.1, move (powered s) (powered next) (Power torn) step.1.1 step.1.0)

  power_still : IsStepped s (Power torn) Still next → Happens (powered s) (Power torn) (powered next) × (next.lost ≡ true)
  power_still step =
      subst (λ (x : Scene). Happens (powered s) (Power torn) (powered x) × (x.lost ≡ true)) (sym step.2)
      (events.nothing (Power torn) step.1, still_lost s.lost s.world torn step.1)

  pub power_happens : (r : Stepped) → (r ≡ Moved) ⊎ (r ≡ Still) → IsStepped s (Power torn) r next
      → Happens (powered s) (Power torn) (powered next) × (next.lost ≡ true)
  power_happens r which step =
      ⊎_elim (λ (e : r ≡ Moved). power_moved (subst (λ (x : Stepped). IsStepped s (Power torn) x next) e step))
      (λ (e : r ≡ Still). power_still (subst (λ (x : Stepped). IsStepped s (Power torn) x next) e step)) which

-- no event changes the opening
pub happens_opening : (v next : Powered) (event : Event) → Happens v event next → next.world.opening ≡ v.world.opening
happens_opening v _ event (events.nothing _ still) = refl
happens_opening v _ _ (events.step p a w live get taken) = row_opening v.world p a w taken
happens_opening v _ _ (events.power torn left live torn_is allowed) = refl

takes_opening : (p count : ℕ) (v next : Powered) → Takes p v count next → next.world.opening ≡ v.world.opening
takes_opening p zero v next same = ap (λ (u : Powered). u.world.opening) same
takes_opening p (suc count) v next taken =
    ⊎_elim (λ (still : IsStill v.lost v.world (Step p) × (next ≡ v)). ap (λ (u : Powered). u.world.opening) still.1)
    (λ (goes : (mid : Powered) × Moves v (Step p) mid × Takes p mid count next).
    takes_opening p count goes.0 next goes.2 ∙ happens_opening v goes.0 (Step p) goes.1.1) taken

ends_opening : (p : ℕ) (v next : Powered) → Ends p v next → next.world.opening ≡ v.world.opening
ends_opening p _ _ (play.stays v still) = refl
ends_opening p _ _ (play.answers v next moves other) = happens_opening v next (Step p) moves.1
ends_opening p _ _ (play.goes_on v mid next moves same ends) = ends_opening p mid next ends ∙ happens_opening v mid (Step p) moves.1

turn_opening : (one : Turn) (v next : Powered) → IsTurn one v next → next.world.opening ≡ v.world.opening
turn_opening (turn.Steps p count) v next is = takes_opening p count v next is
turn_opening (turn.End p) v next is = ends_opening p v next is

pub turns_opening : (turns : List Turn) (v next : Powered) → AreTurns turns v next → next.world.opening ≡ v.world.opening
turns_opening [] v next same = ap (λ (u : Powered). u.world.opening) same
turns_opening (one ∷ turns) v next are = turns_opening turns are.0 next are.2 ∙ turn_opening one v are.0 are.1

-- the answered calls of a processor, if there are any
abbrev pub calls_in : Option AnsweredCalls → List Answered
calls_in None = []
calls_in (Some x) = x.answered

-- what a session says of a processor, and what the world does
pub answers_of_one : (session : List AnsweredCalls) (processors : List Processor) (p : ℕ)
    → map (λ (x : AnsweredCalls). x.answered) session ≡ map (λ (a : Processor). a.answered) processors
    → (found : Option AnsweredCalls) → slice_get session p ≡ found → play.answers_in (slice_get processors p) ≡ calls_in found
answers_of_one session processors p same found get =
    by found (slice_get processors p)
    (ap (option_map (λ (x : AnsweredCalls). x.answered)) (sym get)
    ∙ sym (slice_get-map (λ (x : AnsweredCalls). x.answered) session p)
    ∙ ap (λ (xs : List (List Answered)). slice_get xs p) same
    ∙ slice_get-map (λ (a : Processor). a.answered) processors p)
  where
    by : (x : Option AnsweredCalls) (a : Option Processor)
        → option_map (λ (x : AnsweredCalls). x.answered) x ≡ option_map (λ (a : Processor). a.answered) a → play.answers_in a ≡ calls_in x
    by None None e = refl
    by None (Some a) e = cc
    by (Some x) None e = cc
    by (Some x) (Some a) e = let same : x.answered ≡ a.answered = cc in sym same

-- a processor's calls that are answered, where it is
answered_at : (v : Powered) (p : ℕ) (a : Processor) → slice_get v.world.processors p ≡ Some a → answered_by v p ≡ a.answered
answered_at v p a there = ap play.answers_in there

-- a longer list is another
longer : (xs : List Answered) (x : Answered) → length (xs ++ x ∷ []) ≡ length xs → ⊥
longer xs x e = omega (arith, length-append xs (x ∷ []), e)

-- as many answered calls are the same
pub same_answers : (v next : Powered) (p : ℕ) → Moves v (Step p) next → length (answered_by next p) ≡ length (answered_by v p)
    → answered_by next p ≡ answered_by v p
same_answers v next p moves e = by one.how
  where
    one : IsStepAt v p next
    one = moved_step v next p moves

    many : length one.behind.answered ≡ length one.before.answered
    many = ap length (sym (answered_at next p one.behind one.is)) ∙ e ∙ ap length (answered_at v p one.before one.was)

    by : IsStepOf one.before one.behind → answered_by next p ≡ answered_by v p
    by (nearer same near) = answered_at next p one.behind one.is ∙ same ∙ sym (answered_at v p one.before one.was)
    by (answers x more) = absurd (longer one.before.answered x (ap length (sym more) ∙ many))

-- level and rank of the point of a processor, if there is such a one
abbrev pub level_in : Option Processor → ℕ
level_in None = 0
level_in (Some a) = level a.point

abbrev pub rank_in : Option Processor → ℕ
rank_in None = 0
rank_in (Some a) = rank a.point

abbrev pub level_of : Powered → ℕ → ℕ
level_of v p = level_in (slice_get v.world.processors p)

abbrev pub rank_of : Powered → ℕ → ℕ
rank_of v p = rank_in (slice_get v.world.processors p)

level_few : (a : Option Processor) → level_in a ≤ 2
level_few None = omega arith
level_few (Some a) = by a.point
  where
    by : (x : Point) → level x ≤ 2
    by Start = omega arith
    by Decide = omega arith
    by x = omega arith

-- a step that answers no call comes nearer to the answer
abbrev IsFall : ℕ → ℕ → ℕ → ℕ → Type 0
IsFall level rank level_behind rank_behind = (level_behind < level) ⊎ ((level ≡ 0) × (level_behind ≡ 0) × (rank_behind < rank))

falls : (p : ℕ) (v next : Powered) → GoesOn p v next → IsFall (level_of v p) (rank_of v p) (level_of next p) (rank_of next p)
falls p v next goes = by one.how
  where
    one : IsStepAt v p next
    one = moved_step v next p goes.moves

    same : one.behind.answered ≡ one.before.answered
    same = sym (answered_at next p one.behind one.is) ∙ goes.same ∙ answered_at v p one.before one.was

    by : IsStepOf one.before one.behind → IsFall (level_of v p) (rank_of v p) (level_of next p) (rank_of next p)
    by (nearer kept near) =
        subst (λ (o : Option Processor). IsFall (level_in o) (rank_in o) (level_of next p) (rank_of next p)) (sym one.was)
        (subst (λ (o : Option Processor). IsFall (level one.before.point) (rank one.before.point) (level_in o) (rank_in o)) (sym one.is) near)
    by (answers x more) = absurd (longer one.before.answered x (ap length (sym more) ∙ ap length same))

-- behind two steps a processor is behind the two first points of a call
pub second_level : (p : ℕ) (v mid next : Powered) → GoesOn p v mid → GoesOn p mid next → level_of next p ≡ 0
second_level p v mid next first second =
    let few : level_of v p ≤ 2 = level_few (slice_get v.world.processors p) in
    let one : IsFall (level_of v p) (rank_of v p) (level_of mid p) (rank_of mid p) = falls p v mid first in
    let two : IsFall (level_of mid p) (rank_of mid p) (level_of next p) (rank_of next p) = falls p mid next second in
    grind arith

-- and stays so, with fewer steps left
pub level_stays : (p : ℕ) (v next : Powered) → level_of v p ≡ 0 → GoesOn p v next → level_of next p ≡ 0
level_stays p v next begun goes =
    ⊎_elim (λ (fewer : level_of next p < level_of v p). absurd (let h : level_of next p < 0 = subst (λ n. level_of next p < n) begun fewer in omega arith))
    (λ (both : (level_of v p ≡ 0) × (level_of next p ≡ 0) × (rank_of next p < rank_of v p)). both.1) (falls p v next goes)

pub rank_falls : (p : ℕ) (v next : Powered) → level_of v p ≡ 0 → GoesOn p v next → rank_of next p < rank_of v p
rank_falls p v next begun goes =
    ⊎_elim (λ (fewer : level_of next p < level_of v p). absurd (let h : level_of next p < 0 = subst (λ n. level_of next p < n) begun fewer in omega arith))
    (λ (both : (level_of v p ≡ 0) × (level_of next p ≡ 0) × (rank_of next p < rank_of v p)). both.2) (falls p v next goes)

-- the steps of a turn, so many of them left
pub takes_more : (p left : ℕ) (s mid : Scene) (final : Powered) (count : ℕ) → left ≡ suc count → IsStepped s (Step p) Moved mid
    → Takes p (powered mid) count final → Takes p (powered s) left final
takes_more p left s mid final count e step rest =
    subst (λ n. Takes p (powered s) n final) (sym e) (inr (powered mid, step.1, rest))

pub takes_still : (p left count : ℕ) (s next : Scene) → left ≡ suc count → IsStepped s (Step p) Still next → Takes p (powered s) left (powered next)
takes_still p left count s next e step =
    subst (λ n. Takes p (powered s) n (powered next)) (sym e) (inl (step.1, ap powered step.2))

-- a call that goes on
pub ends_later : (p : ℕ) (v mid final : Powered) → GoesOn p v mid → Ends p mid final → Ends p v final
ends_later p v mid final goes ends = play.goes_on v mid final goes.moves goes.same ends

-- a call whose processor changes nothing
pub ends_still : (p : ℕ) (s next : Scene) → IsStepped s (Step p) Still next → Ends p (powered s) (powered next)
ends_still p s next step = subst (λ (x : Scene). Ends p (powered s) (powered x)) (sym step.2) (play.stays (powered s) step.1)

-- a step that moves, by whether there is an answer more
module _ (p : ℕ) (s next : Scene) (step : IsStepped s (Step p) Moved next) (before behind : ℕ) (before_is : before ≡ length (answered_by (powered s) p))
    (behind_is : behind ≡ length (answered_by (powered next) p)) where
  pub ends_moved : not (behind == before) ≡ true → Ends p (powered s) (powered next)
  ends_moved other =
      play.answers (powered s) (powered next) step.1
      (λ e. eqb-false behind before (not-true (behind == before) other) (behind_is ∙ ap length e ∙ sym before_is))

  pub goes_moved : not (behind == before) ≡ false → GoesOn p (powered s) (powered next)
  goes_moved same = record {
    moves = step.1;
    same =
        same_answers (powered s) (powered next) p step.1
        (sym behind_is ∙ eqb-true behind before (not-false (behind == before) same) ∙ before_is);
  }

-- a schedule, by its turns and how power is lost behind them
pub scheduled : (schedule : ScheduleParts) (v mid next : Powered) (turns : List Turn) (power : Option PowerLoss) → turns ≡ schedule.turns
    → power ≡ schedule.power → AreTurns turns v mid → LosesPower power mid next → IsScheduled schedule v next
scheduled schedule v mid next turns power turns_are power_is are loses = record {
  last = mid;
  turns = subst (λ (ts : List Turn). AreTurns ts v mid) turns_are are;
  power = subst (λ (o : Option PowerLoss). LosesPower o mid next) power_is loses;
}
