-- One processor's answered calls among all.
use Rattle.std.proofs.Common.{◌≡◌, ℕ, zero, suc, ◌<◌, List, [], ◌∷◌, ◌++◌, length, get_or, set, refl, ap, arith}
use Rattle.std.specs.Prelude.{slice_get, IfSome}
use Rattle.var_types.specs.declared.answered.Answered.{Answered}
use Rattle.var_trace.specs.Answers.{AnsweredCalls}
use Rattle.var_trace.specs.Session.{calls_answered, with_answered}

-- those at an index
pub at_index : (xs : List AnsweredCalls) (p : ℕ) (d : AnsweredCalls) → p < length xs → (get_or xs p d).answered ≡ calls_answered xs p
at_index [] p d h = absurd (omega arith)
at_index (x ∷ xs) zero d h = refl
at_index (x ∷ xs) (suc p) d h = at_index xs p d (omega arith)

-- there is room at an index
pub room_at : (xs : List AnsweredCalls) (p : ℕ) (d : AnsweredCalls) → p < length xs
    → IfSome (slice_get xs p) (λ (x : AnsweredCalls). length x.answered < x.limit) → length (get_or xs p d).answered < (get_or xs p d).limit
room_at [] p d h room = absurd (omega arith)
room_at (x ∷ xs) zero d h room = room
room_at (x ∷ xs) (suc p) d h room = room_at xs p d (omega arith) room

-- one more at an index
pub set_answered : (xs : List AnsweredCalls) (p : ℕ) (d : AnsweredCalls) (a : Answered) → p < length xs
    → set xs p (record (get_or xs p d) { answered = (get_or xs p d).answered ++ a ∷ [] }) ≡ with_answered xs p a
set_answered [] p d a h = absurd (omega arith)
set_answered (x ∷ xs) zero d a h = refl
set_answered (x ∷ xs) (suc p) d a h = ap (λ (ys : List AnsweredCalls). x ∷ ys) (set_answered xs p d a (omega arith))
