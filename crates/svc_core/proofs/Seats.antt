-- Seats and answered calls as processors.
use Rattle.std.proofs.Common.{◌≡◌, ℕ, zero, suc, ◌+◌, ◌<◌, ◌≤◌, List, [], ◌∷◌, ◌++◌, length, drop, get_or, set, map, Option, Some, None, Vec, refl, sym, ap, ◌∙◌, arith, length-append}
use Rattle.std.proofs.lemmas.List.Elements.{All-head, All-tail}
use Rattle.std.specs.Prelude.{slice_get, option_to_list, All, IfSome}
use Rattle.var_trace.specs.Answers.{AnsweredCalls}
use Rattle.var_trace.specs.Session.{calls_answered, with_answered}
use Rattle.var_types.specs.declared.answered.Answered.{Answered}
use Rattle.var_types.specs.declared.answered.Route.{Route}
use Rattle.var_types.specs.declared.call.Call.{Call}
use Rattle.var_types.specs.declared.reply.Reply.{Reply}
use Rattle.svc_core.specs.declared.point.Point.{Point}
use Rattle.svc_core.specs.declared.seat.Seat.{Seat}
use Rattle.svc_core.specs.Progress.{AreSeated, answered_at, answering, answers_before, seat_before, starting, call_at, call_of_seat, most_calls, point_at, seat_at, seated, set_point, with_answer, with_calls, with_point}
use Rattle.svc_core.specs.World.{Processor}

-- ---- one seat

pub set_point_is : (xs : List Seat) (p : ℕ) (d : Seat) (x : Point) → p < length xs → set xs p (record (get_or xs p d) { point = x }) ≡ set_point xs p x
set_point_is [] p d x h = absurd (omega arith)
set_point_is (s ∷ xs) zero d x h = refl
set_point_is (s ∷ xs) (suc p) d x h = ap (λ (ys : List Seat). s ∷ ys) (set_point_is xs p d x (omega arith))

pub seat_at_is : (xs : List Seat) (p : ℕ) (d : Seat) → p < length xs → seat_at xs p ≡ Some (get_or xs p d).point
seat_at_is [] p d h = absurd (omega arith)
seat_at_is (s ∷ xs) zero d h = refl
seat_at_is (s ∷ xs) (suc p) d h = seat_at_is xs p d (omega arith)

pub call_of_is : (xs : List Seat) (p : ℕ) (d : Seat) → p < length xs → call_of_seat xs p ≡ slice_get (get_or xs p d).calls 0
call_of_is [] p d h = absurd (omega arith)
call_of_is (s ∷ xs) zero d h = refl
call_of_is (s ∷ xs) (suc p) d h = call_of_is xs p d (omega arith)

pub with_calls_is : (xs : List Seat) (p : ℕ) (d : Seat) → p < length xs
    → set xs p (record (get_or xs p d) { calls = drop 1 (get_or xs p d).calls }) ≡ with_calls xs p
with_calls_is [] p d h = absurd (omega arith)
with_calls_is (s ∷ xs) zero d h = refl
with_calls_is (s ∷ xs) (suc p) d h = ap (λ (ys : List Seat). s ∷ ys) (with_calls_is xs p d (omega arith))

-- what is taken of a list is its first element, and the rest is left
pub taken_first : (calls rest : List Call) (first : Option Call) → (first ≡ None → rest ≡ []) → calls ≡ option_to_list first ++ rest → first ≡ slice_get calls 0
taken_first calls rest None none e = ap (λ (cs : List Call). slice_get cs 0) (sym (e ∙ none refl))
taken_first calls rest (Some call) none e = ap (λ (cs : List Call). slice_get cs 0) (sym e)

pub taken_rest : (calls rest : List Call) (first : Option Call) → (first ≡ None → rest ≡ []) → calls ≡ option_to_list first ++ rest → rest ≡ drop 1 calls
taken_rest calls rest None none e = none refl ∙ ap (drop 1) (sym (e ∙ none refl))
taken_rest calls rest (Some call) none e = ap (drop 1) (sym e)

-- ---- seats beside answered calls

-- as many processors as seats
pub length-seated : (xs : List Seat) (ys : List AnsweredCalls) → AreSeated xs ys → length (seated xs ys) ≡ length xs
length-seated [] [] h = refl
length-seated [] (y ∷ ys) h = refl
length-seated (x ∷ xs) [] h = absurd h
length-seated (x ∷ xs) (y ∷ ys) h = ap (λ n. suc n) (length-seated xs ys h.2)

-- and as answered calls
pub length-answers : (xs : List Seat) (ys : List AnsweredCalls) → AreSeated xs ys → length (seated xs ys) ≡ length ys
length-answers [] [] h = refl
length-answers [] (y ∷ ys) h = absurd h
length-answers (x ∷ xs) [] h = absurd h
length-answers (x ∷ xs) (y ∷ ys) h = ap (λ n. suc n) (length-answers xs ys h.2)

-- a processor has its seat and its answered calls
pub within_seats : (xs : List Seat) (ys : List AnsweredCalls) (bs : List Processor) (p : ℕ) → AreSeated xs ys → seated xs ys ≡ bs → p < length bs → p < length xs
within_seats xs ys bs p h e low = let len : length (seated xs ys) ≡ length bs = ap (λ (zs : List Processor). length zs) e in omega (arith, length-seated xs ys h, len)

pub within_answers : (xs : List Seat) (ys : List AnsweredCalls) (bs : List Processor) (p : ℕ) → AreSeated xs ys → seated xs ys ≡ bs → p < length bs → p < length ys
within_answers xs ys bs p h e low = let len : length (seated xs ys) ≡ length bs = ap (λ (zs : List Processor). length zs) e in omega (arith, length-answers xs ys h, len)

pub answers_seated : (xs : List Seat) (ys : List AnsweredCalls) → AreSeated xs ys
    → map (λ (y : AnsweredCalls). y.answered) ys ≡ map (λ (a : Processor). a.answered) (seated xs ys)
answers_seated [] [] h = refl
answers_seated [] (y ∷ ys) h = absurd h
answers_seated (x ∷ xs) [] h = absurd h
answers_seated (x ∷ xs) (y ∷ ys) h = ap (λ (zs : List (List Answered)). y.answered ∷ zs) (answers_seated xs ys h.2)

pub point_seated : (xs : List Seat) (ys : List AnsweredCalls) (p : ℕ) → AreSeated xs ys → point_at (seated xs ys) p ≡ seat_at xs p
point_seated [] [] p h = refl
point_seated [] (y ∷ ys) p h = absurd h
point_seated (x ∷ xs) [] p h = absurd h
point_seated (x ∷ xs) (y ∷ ys) zero h = refl
point_seated (x ∷ xs) (y ∷ ys) (suc p) h = point_seated xs ys p h.2

pub call_seated : (xs : List Seat) (ys : List AnsweredCalls) (p : ℕ) → AreSeated xs ys → call_at (seated xs ys) p ≡ call_of_seat xs p
call_seated [] [] p h = refl
call_seated [] (y ∷ ys) p h = absurd h
call_seated (x ∷ xs) [] p h = absurd h
call_seated (x ∷ xs) (y ∷ ys) zero h = refl
call_seated (x ∷ xs) (y ∷ ys) (suc p) h = call_seated xs ys p h.2

pub index_seated : (xs : List Seat) (ys : List AnsweredCalls) (p : ℕ) → AreSeated xs ys → answered_at (seated xs ys) p ≡ length (calls_answered ys p)
index_seated [] [] p h = refl
index_seated [] (y ∷ ys) p h = absurd h
index_seated (x ∷ xs) [] p h = absurd h
index_seated (x ∷ xs) (y ∷ ys) zero h = refl
index_seated (x ∷ xs) (y ∷ ys) (suc p) h = index_seated xs ys p h.2

-- no processor has answered more calls than there may be
pub few_answered : (xs : List Seat) (ys : List AnsweredCalls) (p : ℕ) → AreSeated xs ys → length (calls_answered ys p) ≤ most_calls
few_answered [] [] p h = omega arith
few_answered [] (y ∷ ys) p h = absurd h
few_answered (x ∷ xs) [] p h = absurd h
few_answered (x ∷ xs) (y ∷ ys) zero h = omega (arith, h.0, h.1)
few_answered (x ∷ xs) (y ∷ ys) (suc p) h = few_answered xs ys p h.2

-- another point
pub seated_point : (xs : List Seat) (ys : List AnsweredCalls) (p : ℕ) (point : Point) → seated (set_point xs p point) ys ≡ with_point (seated xs ys) p point
seated_point [] ys p point = refl
seated_point (x ∷ xs) [] zero point = refl
seated_point (x ∷ xs) [] (suc p) point = refl
seated_point (x ∷ xs) (y ∷ ys) zero point = refl
seated_point (x ∷ xs) (y ∷ ys) (suc p) point =
    ap (λ (bs : List Processor). record { calls = x.calls; answered = y.answered; point = x.point } ∷ bs) (seated_point xs ys p point)

pub AreSeated-point : (xs : List Seat) (ys : List AnsweredCalls) (p : ℕ) (point : Point) → AreSeated xs ys → AreSeated (set_point xs p point) ys
AreSeated-point [] [] p point h = tt
AreSeated-point [] (y ∷ ys) p point h = absurd h
AreSeated-point (x ∷ xs) [] p point h = absurd h
AreSeated-point (x ∷ xs) (y ∷ ys) zero point h = (h.0, h.1, h.2)
AreSeated-point (x ∷ xs) (y ∷ ys) (suc p) point h = (h.0, h.1, AreSeated-point xs ys p point h.2)

-- one call is answered
pub room_seated : (xs : List Seat) (ys : List AnsweredCalls) (p : ℕ) (call : Call) → AreSeated xs ys → call_of_seat xs p ≡ Some call
    → IfSome (slice_get ys p) (λ (y : AnsweredCalls). length y.answered < y.limit)
room_seated [] [] p call h e = tt
room_seated [] (y ∷ ys) p call h e = absurd h
room_seated (x ∷ xs) [] p call h e = absurd h
room_seated (x ∷ xs) (y ∷ ys) zero call h e = by x.calls e h.0
  where
    by : (calls : List Call) → slice_get calls 0 ≡ Some call → length calls + length y.answered ≤ y.limit → length y.answered < y.limit
    by [] e few = cc
    by (c ∷ cs) e few = omega (arith, few)
room_seated (x ∷ xs) (y ∷ ys) (suc p) call h e = room_seated xs ys p call h.2 e

module _ (call : Call) (place : ℕ) (route : Route) (reply : Reply) where
  abbrev one : Answered
  one = record { call = call; place = place; route = route; reply = reply }

  answered_by : (calls : List Call) (done : List Answered) (point : Point) → slice_get calls 0 ≡ Some call
      → (let a : Processor = record { calls = drop 1 calls; answered = done ++ one ∷ []; point = point } in a)
      ≡ (let b : Processor = record { calls = calls; answered = done; point = point } in answering b calls place route reply)
  answered_by [] done point e = cc
  answered_by (c ∷ cs) done point e =
      let same : call ≡ c = cc in
      ap (λ (first : Call). let a : Processor = record {
        calls = cs;
        answered = done ++ record { call = first; place = place; route = route; reply = reply } ∷ [];
        point = point;
      } in a) same

  pub seated_answer : (xs : List Seat) (ys : List AnsweredCalls) (p : ℕ) → AreSeated xs ys → call_of_seat xs p ≡ Some call
      → seated (with_calls xs p) (with_answered ys p one) ≡ with_answer (seated xs ys) p place route reply
  seated_answer [] [] p h e = refl
  seated_answer [] (y ∷ ys) p h e = absurd h
  seated_answer (x ∷ xs) [] p h e = absurd h
  seated_answer (x ∷ xs) (y ∷ ys) zero h e = ap (λ (a : Processor). a ∷ seated xs ys) (answered_by x.calls y.answered x.point e)
  seated_answer (x ∷ xs) (y ∷ ys) (suc p) h e =
      ap (λ (bs : List Processor). record { calls = x.calls; answered = y.answered; point = x.point } ∷ bs) (seated_answer xs ys p h.2 e)

  seated_room : (calls : List Call) (y : AnsweredCalls) → slice_get calls 0 ≡ Some call → length calls + length y.answered ≤ y.limit
      → length (drop 1 calls) + length (y.answered ++ one ∷ []) ≤ y.limit
  seated_room [] y e few = cc
  seated_room (c ∷ cs) y e few = omega (arith, few, length-append y.answered (one ∷ []))

  pub AreSeated-answer : (xs : List Seat) (ys : List AnsweredCalls) (p : ℕ) → AreSeated xs ys → call_of_seat xs p ≡ Some call
      → AreSeated (with_calls xs p) (with_answered ys p one)
  AreSeated-answer [] [] p h e = tt
  AreSeated-answer [] (y ∷ ys) p h e = absurd h
  AreSeated-answer (x ∷ xs) [] p h e = absurd h
  AreSeated-answer (x ∷ xs) (y ∷ ys) zero h e = (seated_room x.calls y e h.0, h.1, h.2)
  AreSeated-answer (x ∷ xs) (y ∷ ys) (suc p) h e = (h.0, h.1, AreSeated-answer xs ys p h.2 e)

-- no call is answered where there is none
none_by : (calls : List Call) (done : List Answered) (point : Point) (place : ℕ) (route : Route) (reply : Reply) → slice_get calls 0 ≡ None
    → (let a : Processor = record { calls = drop 1 calls; answered = done; point = point } in a)
    ≡ (let b : Processor = record { calls = calls; answered = done; point = point } in answering b calls place route reply)
none_by [] done point place route reply e = refl
none_by (c ∷ cs) done point place route reply e = cc

pub seated_none : (xs : List Seat) (ys : List AnsweredCalls) (p place : ℕ) (route : Route) (reply : Reply) → AreSeated xs ys → call_of_seat xs p ≡ None
    → seated (with_calls xs p) ys ≡ with_answer (seated xs ys) p place route reply
seated_none [] [] p place route reply h e = refl
seated_none [] (y ∷ ys) p place route reply h e = absurd h
seated_none (x ∷ xs) [] p place route reply h e = absurd h
seated_none (x ∷ xs) (y ∷ ys) zero place route reply h e =
    ap (λ (a : Processor). a ∷ seated xs ys) (none_by x.calls y.answered x.point place route reply e)
seated_none (x ∷ xs) (y ∷ ys) (suc p) place route reply h e =
    ap (λ (bs : List Processor). record { calls = x.calls; answered = y.answered; point = x.point } ∷ bs) (seated_none xs ys p place route reply h.2 e)

fewer : (calls : List Call) (n m : ℕ) → length calls + n ≤ m → length (drop 1 calls) + n ≤ m
fewer [] n m few = few
fewer (c ∷ cs) n m few = omega (arith, few)

pub AreSeated-none : (xs : List Seat) (ys : List AnsweredCalls) (p : ℕ) → AreSeated xs ys → AreSeated (with_calls xs p) ys
AreSeated-none [] [] p h = tt
AreSeated-none [] (y ∷ ys) p h = absurd h
AreSeated-none (x ∷ xs) [] p h = absurd h
AreSeated-none (x ∷ xs) (y ∷ ys) zero h = (fewer x.calls (length y.answered) y.limit h.0, h.1, h.2)
AreSeated-none (x ∷ xs) (y ∷ ys) (suc p) h = (h.0, h.1, AreSeated-none xs ys p h.2)

-- ---- before the first calls

module _ {X : Type 0} (f : X → List Call) where
  pub seats_begun : (xs : List X) → All (λ (x : X). length (f x) ≤ most_calls) xs
      → AreSeated (map (λ (x : X). seat_before (f x)) xs) (map (λ (x : X). answers_before (f x)) xs)
  seats_begun [] few = tt
  seats_begun (x ∷ xs) few = (
    omega arith,
    All-head (λ (x : X). length (f x) ≤ most_calls) x xs few,
    seats_begun xs (All-tail (λ (x : X). length (f x) ≤ most_calls) x xs few),
  )

  pub begun : (xs : List X)
      → seated (map (λ (x : X). seat_before (f x)) xs) (map (λ (x : X). answers_before (f x)) xs) ≡ map (λ (x : X). starting (f x)) xs
  begun [] = refl
  begun (x ∷ xs) = ap (λ (bs : List Processor). starting (f x) ∷ bs) (begun xs)

-- processors before their first calls, of lists of calls
pub map_both : {A : Type 0} (calls : List (Vec Call A)) → map (λ v. starting v.items) calls ≡ map starting (map (λ v. v.items) calls)
map_both [] = refl
map_both (c ∷ cs) = ap (λ (ps : List Processor). starting c.items ∷ ps) (map_both cs)
