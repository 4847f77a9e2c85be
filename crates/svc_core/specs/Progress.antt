-- The session so far beside the point and the calls of each processor.
use Rattle.std.specs.Prelude.{ℕ, zero, suc, ◌+◌, ◌≤◌, List, [], ◌∷◌, ◌++◌, length, drop, slice_get, Option, Some, None}
use Rattle.var_trace.specs.declared.change.Change.{Change}
use Rattle.var_trace.specs.Answers.{AnsweredCalls}
use Rattle.var_types.specs.declared.answered.Route.{Route}
use Rattle.var_types.specs.declared.call.Call.{Call}
use Rattle.var_types.specs.declared.reply.Reply.{Reply}
use Rattle.svc_core.specs.declared.point.Point.{Point}
use Rattle.svc_core.specs.declared.point.Point.TheVariants.{Start}
use Rattle.svc_core.specs.declared.seat.Seat.{Seat}
use Rattle.svc_core.specs.World.{Processor}

-- the changes so far, how many there may be, and each processor
pub record ProgressState : Type 0 where
  pub log : List Change
  pub limit : ℕ
  pub processors : List Processor

-- the most calls of a processor (this project's own)
abbrev pub most_calls : ℕ
most_calls = 20000

-- processors by their seats and their answered calls
abbrev pub seated : List Seat → List AnsweredCalls → List Processor
seated [] answers = []
seated (seat ∷ seats) [] = []
seated (seat ∷ seats) (answers ∷ rest) =
    record { calls = seat.calls; answered = answers.answered; point = seat.point } ∷ seated seats rest

-- each seat has answers, with room for the calls that are left
abbrev pub AreSeated : List Seat → List AnsweredCalls → Type 0
AreSeated [] [] = Unit {0}
AreSeated (seat ∷ seats) (answers ∷ rest) =
    (length seat.calls + length answers.answered ≤ answers.limit) × (answers.limit ≤ most_calls) × AreSeated seats rest
AreSeated [] (answers ∷ rest) = ⊥
AreSeated (seat ∷ seats) [] = ⊥

-- seats with another point at one of them, and the point there
abbrev pub set_point : List Seat → ℕ → Point → List Seat
set_point [] p point = []
set_point (seat ∷ seats) zero point = record seat { point = point } ∷ seats
set_point (seat ∷ seats) (suc p) point = seat ∷ set_point seats p point

-- the point of a seat, its first call, and seats of which one has that call no more
abbrev pub seat_at : List Seat → ℕ → Option Point
seat_at [] p = None
seat_at (seat ∷ seats) zero = Some seat.point
seat_at (seat ∷ seats) (suc p) = seat_at seats p

abbrev pub call_of_seat : List Seat → ℕ → Option Call
call_of_seat [] p = None
call_of_seat (seat ∷ seats) zero = slice_get seat.calls 0
call_of_seat (seat ∷ seats) (suc p) = call_of_seat seats p

abbrev pub with_calls : List Seat → ℕ → List Seat
with_calls [] p = []
with_calls (seat ∷ seats) zero = record seat { calls = drop 1 seat.calls } ∷ seats
with_calls (seat ∷ seats) (suc p) = seat ∷ with_calls seats p

-- the seat and the answered calls of a processor before its first call
abbrev pub seat_before : List Call → Seat
seat_before calls = record { calls = calls; point = Start }

abbrev pub answers_before : List Call → AnsweredCalls
answers_before calls = record { answered = []; limit = length calls }

-- a processor before its first call
abbrev pub starting : List Call → Processor
starting calls = record { calls = calls; answered = []; point = Start }

-- processors with another point at one of them
abbrev pub with_point : List Processor → ℕ → Point → List Processor
with_point [] p point = []
with_point (a ∷ rest) zero point = record a { point = point } ∷ rest
with_point (a ∷ rest) (suc p) point = a ∷ with_point rest p point

-- the point of a processor, if there is such a one
abbrev pub point_at : List Processor → ℕ → Option Point
point_at [] p = None
point_at (a ∷ rest) zero = Some a.point
point_at (a ∷ rest) (suc p) = point_at rest p

-- the first call of a processor, if it has one
abbrev pub call_at : List Processor → ℕ → Option Call
call_at [] p = None
call_at (a ∷ rest) zero = slice_get a.calls 0
call_at (a ∷ rest) (suc p) = call_at rest p

-- how many calls a processor has answered
abbrev pub answered_at : List Processor → ℕ → ℕ
answered_at [] p = 0
answered_at (a ∷ rest) zero = length a.answered
answered_at (a ∷ rest) (suc p) = answered_at rest p

-- a processor that has answered its first call, if it has one
abbrev pub answering : Processor → List Call → ℕ → Route → Reply → Processor
answering a [] place route reply = a
answering a (call ∷ calls) place route reply = record {
  calls = calls;
  answered = a.answered ++ record { call = call; place = place; route = route; reply = reply } ∷ [];
  point = a.point;
}

-- processors of which one has answered its first call
abbrev pub with_answer : List Processor → ℕ → ℕ → Route → Reply → List Processor
with_answer [] p place route reply = []
with_answer (a ∷ rest) zero place route reply = answering a a.calls place route reply ∷ rest
with_answer (a ∷ rest) (suc p) place route reply = a ∷ with_answer rest p place route reply
