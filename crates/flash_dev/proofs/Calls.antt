-- What is told after calls, and what may be left within them.
use Rattle.std.proofs.Common.{◌≡◌, ℕ, List, Option, Some, None, IfSome, refl, subst}
use Rattle.flash_dev.specs.Rules.{Leaves, MayLeave}

-- a fact of what is told, at what is told
pub told_at : (P : List ℕ → Type 0) (told : Option (List ℕ)) (image : List ℕ) → IfSome told P → told ≡ Some image → P image
told_at P None image is e = absurd (cc)
told_at P (Some other) image is e = subst P (cc) is

-- a call that changes nothing leaves what it may leave, where the bytes stand in the relation to themselves
pub leaves_same : (IsLeft : List ℕ → List ℕ → Type 0) (told : Option (List ℕ)) → ((image : List ℕ) → told ≡ Some image → IsLeft image image)
    → Leaves IsLeft told told
leaves_same IsLeft None same = refl
leaves_same IsLeft (Some image) same = same image refl

-- what stands after both of two calls stands in a relation that follows from those of the two
pub leaves_then : (First Second Both : List ℕ → List ℕ → Type 0) (old now next : Option (List ℕ)) → Leaves First old now → Leaves Second now next
    → ((image cells left : List ℕ) → old ≡ Some image → now ≡ Some cells → First image cells → Second cells left → Both image left) → Leaves Both old next
leaves_then First Second Both None None next was is both = is
leaves_then First Second Both None (Some cells) next was is both = absurd (cc)
leaves_then First Second Both (Some image) None next was is both = absurd was
leaves_then First Second Both (Some image) (Some cells) None was is both = is
leaves_then First Second Both (Some image) (Some cells) (Some left) was is both = both image cells left refl refl was is

-- what stands after a call stands in each relation that follows from the call's
pub leaves_weaken : (IsLeft Is : List ℕ → List ℕ → Type 0) (old new : Option (List ℕ)) → Leaves IsLeft old new
    → ((image left : List ℕ) → old ≡ Some image → IsLeft image left → Is image left) → Leaves Is old new
leaves_weaken IsLeft Is None new is weaker = is
leaves_weaken IsLeft Is (Some image) None is weaker = is
leaves_weaken IsLeft Is (Some image) (Some left) is weaker = weaker image left refl is

-- what may be left within a call stands in each relation that follows from the call's
pub may_weaken : (IsLeft Is : List ℕ → List ℕ → Type 0) (told : Option (List ℕ)) (left : List ℕ) → MayLeave IsLeft told left
    → ((image : List ℕ) → told ≡ Some image → IsLeft image left → Is image left) → MayLeave Is told left
may_weaken IsLeft Is None left may weaker = tt
may_weaken IsLeft Is (Some image) left may weaker = weaker image refl may

-- what may be left within the second of two calls stands in a relation that follows from those of the two
pub may_then : (First Second Both : List ℕ → List ℕ → Type 0) (old now : Option (List ℕ)) (left : List ℕ) → Leaves First old now
    → MayLeave Second now left → ((image cells : List ℕ) → old ≡ Some image → now ≡ Some cells → First image cells → Second cells left → Both image left)
    → MayLeave Both old left
may_then First Second Both None now left was may both = tt
may_then First Second Both (Some image) None left was may both = absurd was
may_then First Second Both (Some image) (Some cells) left was may both = both image cells refl refl was may
