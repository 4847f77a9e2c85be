-- Events, one after the other.
use Rattle.std.proofs.Common.{◌≡◌, ◌⊎◌, ℕ, ◌≤◌, true, false, List, [], ◌∷◌, ◌++◌, length, take, refl, sym, ap, subst, ◌∙◌, ⊎_elim, arith}
use Rattle.svc_core.specs.declared.event.Event.{Event}
use Rattle.svc_core.specs.declared.event.Stepped.{Stepped}
use Rattle.svc_core.specs.declared.event.Stepped.TheVariants.{Moved, Still, OutOfMemory}
use Rattle.svc_core.specs.Events as events
use Rattle.svc_core.specs.Events.{Happen, Happens, IsStill, Powered}
use Rattle.svc_core.specs.Scene.{IsRun, IsStepped, Scene, powered}

happen_more : (before : List Event) (event : Event) (v mid next : Powered) → Happen v before mid → Happens mid event next → Happen v (before ++ event ∷ []) next
happen_more [] event v mid next same one = (next, subst (λ (u : Powered). Happens u event next) same one, refl)
happen_more (e ∷ before) event v mid next happen one =
    (happen.0, happen.1, happen_more before event happen.0 mid next happen.2 one)

module _ (old s next : Scene) (before : List Event) (event : Event) (ran : Happen (powered old) before (powered s)) where
  pub ran_moved : IsStepped s event Moved next → Happen (powered old) (before ++ event ∷ []) (powered next)
  ran_moved step = happen_more before event (powered old) (powered s) (powered next) ran step.1.1

  pub ran_still : IsStepped s event Still next → Happen (powered old) (before ++ event ∷ []) (powered next)
  ran_still step =
      happen_more before event (powered old) (powered s) (powered next) ran
      (subst (λ (x : Scene). Happens (powered s) event (powered x)) (sym step.2) (events.nothing event step.1))

  pub still_going : IsStepped s event Still next → next.over ≡ false
  still_going step = ap (λ (x : Scene). x.over) step.2 ∙ step.0

  pub ran_step : (r : Stepped) → (r ≡ Moved) ⊎ (r ≡ Still) → IsStepped s event r next → Happen (powered old) (before ++ event ∷ []) (powered next)
  ran_step r which step =
      ⊎_elim (λ (e : r ≡ Moved). ran_moved (subst (λ (x : Stepped). IsStepped s event x next) e step))
      (λ (e : r ≡ Still). ran_still (subst (λ (x : Stepped). IsStepped s event x next) e step)) which

  pub step_going : (r : Stepped) → (r ≡ Moved) ⊎ (r ≡ Still) → IsStepped s event r next → next.over ≡ false
  step_going r which step =
      ⊎_elim (λ (e : r ≡ Moved). (subst (λ (x : Stepped). IsStepped s event x next) e step).0)
      (λ (e : r ≡ Still). still_going (subst (λ (x : Stepped). IsStepped s event x next) e step)) which

-- a run that came to its end, or not
pub whole_run : (old s : Scene) (all : List Event) → Happen (powered old) all (powered s) → IsRun old all s
whole_run old s all ran = record {
  count = length all;
  within = whole (length all);
  reached = powered s;
  happen = subst (λ (es : List Event). Happen (powered old) es (powered s)) (sym (take_whole all)) ran;
  same = (refl, (s.world.writer.own, refl));
  whole = λ going. (refl, refl);
}
  where
    whole : (n : ℕ) → n ≤ n
    whole n = omega arith

    take_whole : (es : List Event) → take (length es) es ≡ es
    take_whole [] = refl
    take_whole (e ∷ es) = ap (λ (fs : List Event). e ∷ fs) (take_whole es)

pub part_run : (old s next : Scene) (all : List Event) (n : ℕ) (event : Event) → n ≤ length all → Happen (powered old) (take n all) (powered s)
    → IsStepped s event OutOfMemory next → IsRun old all next
part_run old s next all n event within ran step = record {
  count = n;
  within = within;
  reached = powered s;
  happen = ran;
  same = step.1;
  whole = λ going. let lost : true ≡ false = sym step.0 ∙ going in cc;
}
