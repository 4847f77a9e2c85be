-- Facts of what a flash tells, before and after its calls.
use Rattle.std.proofs.Common.{◌≡◌, ℕ, List, Option, Some, None, IfSome, sym, subst, ◌∙◌, ap}
use Rattle.flash_dev.specs.Moments.{Stays}
use Rattle.flash_dev.specs.Rules.{IsKept, Leaves}
use Rattle.flash_dev.proofs.Moments.{stays_more, stays_then}
use Rattle.var_types.specs.Kept.{IsContentKept}
use Rattle.var_types.proofs.Parts.{content_both}

-- a fact follows from another
pub told_more : (P Q : List ℕ → Type 0) (told : Option (List ℕ)) → IfSome told P → ((image : List ℕ) → P image → Q image) → IfSome told Q
told_more P Q None is more = tt
told_more P Q (Some image) is more = more image is

-- or from two others
pub told_both : (P Q R : List ℕ → Type 0) (told : Option (List ℕ)) → IfSome told P → IfSome told Q → ((image : List ℕ) → P image → Q image → R image)
    → IfSome told R
told_both P Q R None first second both = tt
told_both P Q R (Some image) first second both = both image first second

-- what is told stays where what tells it does
pub told_same : (P : List ℕ → Type 0) (old now : Option (List ℕ)) → now ≡ old → IfSome now P → IfSome old P
told_same P old now same is = subst (λ told. IfSome told P) same is

-- a fact after a call follows from one before it and from what the call leaves
pub told_after : (P : List ℕ → Type 0) (R : List ℕ → List ℕ → Type 0) (Q : List ℕ → Type 0) (old new : Option (List ℕ)) → IfSome old P → Leaves R old new
    → ((image left : List ℕ) → P image → R image left → Q left) → IfSome new Q
told_after P R Q None new is leaves after = subst (λ told. IfSome told Q) (sym leaves) tt
told_after P R Q (Some image) None is leaves after = tt
told_after P R Q (Some image) (Some left) is leaves after = after image left is leaves

-- what a call leaves, in a relation that follows from a fact before it
pub leaves_from : (P : List ℕ → Type 0) (R Q : List ℕ → List ℕ → Type 0) (old new : Option (List ℕ)) → IfSome old P → Leaves R old new
    → ((image left : List ℕ) → P image → R image left → Q image left) → Leaves Q old new
leaves_from P R Q None new is leaves after = leaves
leaves_from P R Q (Some image) None is leaves after = leaves
leaves_from P R Q (Some image) (Some left) is leaves after = after image left is leaves

module _ {F : Type 0} {moment : F → ℕ} {left_since : F → ℕ → List ℕ → Type 0} {holds : F → Option (List ℕ)} where
  -- the moments of reads, and then of other calls
  pub reads_first : (IsLeft : List ℕ → List ℕ → Type 0) (old mid new : F) → ((image : List ℕ) → IsLeft image image)
      → Stays IsKept moment left_since holds old mid → Stays IsLeft moment left_since holds mid new → Stays IsLeft moment left_since holds old new
  reads_first IsLeft old mid new same run next =
      stays_then IsKept IsKept IsLeft IsLeft old mid new run run.now next
      (λ image left told is. subst (IsLeft image) (sym is) (same image))
      (λ image cells left told now first second. subst (λ list. IsLeft list left) first second)

  -- the moments of calls that keep the content, and then of more
  pub content_moments : (old mid new : F) → Stays IsContentKept moment left_since holds old mid → Stays IsContentKept moment left_since holds mid new
      → Stays IsContentKept moment left_since holds old new
  content_moments old mid new run next =
      stays_more IsContentKept IsContentKept old mid new run next (λ image cells left told now first second. content_both image cells left first second)
