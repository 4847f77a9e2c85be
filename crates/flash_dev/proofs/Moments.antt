-- Laws of what a power loss at any moment of some calls leaves.
use Rattle.std.proofs.Common.{◌≡◌, inl, inr, ⊎_elim, ℕ, List, Option, Some, IfSome, arith, sym, subst}
use Rattle.flash_dev.specs.Moments.{Stays}
use Rattle.flash_dev.specs.Rules.{Leaves}
use Rattle.flash_dev.proofs.Calls.{leaves_same, leaves_then, leaves_weaken, may_then, may_weaken}

module _ {F : Type 0} {moment : F → ℕ} {left_since : F → ℕ → List ℕ → Type 0} {holds : F → Option (List ℕ)} where
  -- no call leaves what is there
  pub stays_none : (IsLeft : List ℕ → List ℕ → Type 0) (at : F) → ((image : List ℕ) → holds at ≡ Some image → IsLeft image image)
      → Stays IsLeft moment left_since holds at at
  stays_none IsLeft at same = record { later = omega arith; each = λ t left early since. inl since; now = leaves_same IsLeft (holds at) same }

  -- a run leaves all that follows from what it leaves
  pub stays_weaken : (IsLeft Is : List ℕ → List ℕ → Type 0) (old new : F) → Stays IsLeft moment left_since holds old new
      → ((image left : List ℕ) → holds old ≡ Some image → IsLeft image left → Is image left) → Stays Is moment left_since holds old new
  stays_weaken IsLeft Is old new run weaker = record {
    later = run.later;
    each = λ t left early since.
        ⊎_elim inl (λ may. inr (may_weaken IsLeft Is (holds old) left may (λ image told. weaker image left told))) (run.each t left early since);
    now = leaves_weaken IsLeft Is (holds old) (holds new) run.now weaker;
  }

  -- a run, of whose end more is known, and then one more
  pub stays_then : (First End Second Both : List ℕ → List ℕ → Type 0) (old mid new : F) → Stays First moment left_since holds old mid
      → Leaves End (holds old) (holds mid) → Stays Second moment left_since holds mid new
      → ((image left : List ℕ) → holds old ≡ Some image → First image left → Both image left)
      → ((image cells left : List ℕ) → holds old ≡ Some image → holds mid ≡ Some cells → End image cells → Second cells left → Both image left)
      → Stays Both moment left_since holds old new
  stays_then First End Second Both old mid new run end next weaker chained = record {
    later = omega (arith, run.later, next.later);
    each = λ t left early since.
        ⊎_elim
        (λ past.
        ⊎_elim inl (λ may. inr (may_weaken First Both (holds old) left may (λ image told. weaker image left told))) (run.each t left early past))
        (λ may. inr (may_then End Second Both (holds old) (holds mid) left end may (λ image cells told now. chained image cells left told now)))
        (next.each t left (omega (arith, early, run.later)) since);
    now = leaves_then End Second Both (holds old) (holds mid) (holds new) end next.now chained;
  }

  -- a run and then one more, of which the first alone leaves all that both leave
  pub stays_more : (IsLeft Second : List ℕ → List ℕ → Type 0) (old mid new : F) → Stays IsLeft moment left_since holds old mid
      → Stays Second moment left_since holds mid new
      → ((image cells left : List ℕ) → holds old ≡ Some image → holds mid ≡ Some cells → IsLeft image cells → Second cells left → IsLeft image left)
      → Stays IsLeft moment left_since holds old new
  stays_more IsLeft Second old mid new run next chained =
      stays_then IsLeft IsLeft Second IsLeft old mid new run run.now next (λ image left told is. is) chained

  -- a power loss since the moment of a run's begin leaves what the run leaves
  pub stays_since : (IsLeft : List ℕ → List ℕ → Type 0) (old new : F) (left : List ℕ) → Stays IsLeft moment left_since holds old new
      → (left_since old (moment old) left → IfSome (holds old) (λ image. left ≡ image))
      → ((image : List ℕ) → holds old ≡ Some image → IsLeft image image) → left_since new (moment old) left
      → IfSome (holds old) (λ image. IsLeft image left)
  stays_since IsLeft old new left run only same since =
      ⊎_elim
      (λ past. may_weaken (λ image now. now ≡ image) IsLeft (holds old) left (only past) (λ image told e. subst (IsLeft image) (sym e) (same image told)))
      (λ may. may)
      (run.each (moment old) left (omega arith) since)
