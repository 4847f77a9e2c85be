-- Processors with another point, or another answered call, at one of them.
use Rattle.std.proofs.Common.{◌≡◌, ℕ, zero, suc, ◌≤◌, None, arith, List, [], ◌∷◌, ◌++◌, length, Some, refl, sym, ap, ◌∙◌}
use Rattle.std.specs.Prelude.{slice_get, slice_set}
use Rattle.var_types.specs.declared.answered.Route.{Route}
use Rattle.var_types.specs.declared.call.Call.{Call}
use Rattle.var_types.specs.declared.reply.Reply.{Reply}
use Rattle.svc_core.specs.declared.point.Point.{Point}
use Rattle.svc_core.specs.declared.point.Point.TheVariants.{Start}
use Rattle.svc_core.specs.Progress.{answered_at, answering, call_at, point_at, with_answer, with_point}
use Rattle.svc_core.specs.World.{Processor, done}

pub length-point : (ps : List Processor) (p : ℕ) (x : Point) → length (with_point ps p x) ≡ length ps
length-point [] p x = refl
length-point (b ∷ ps) zero x = refl
length-point (b ∷ ps) (suc p) x = ap (λ n. suc n) (length-point ps p x)

pub call_point : (ps : List Processor) (p : ℕ) (x : Point) → call_at (with_point ps p x) p ≡ call_at ps p
call_point [] p x = refl
call_point (b ∷ ps) zero x = refl
call_point (b ∷ ps) (suc p) x = call_point ps p x

pub get_point : (ps : List Processor) (p : ℕ) (a : Processor) (x : Point) → slice_get ps p ≡ Some a
    → slice_get (with_point ps p x) p ≡ Some (record a { point = x })
get_point [] p a x h = cc
get_point (b ∷ ps) zero a x h = let same : b ≡ a = cc in ap (λ (c : Processor). Some (record c { point = x })) same
get_point (b ∷ ps) (suc p) a x h = get_point ps p a x h

pub twice_point : (ps : List Processor) (p : ℕ) (x y : Point) → with_point (with_point ps p x) p y ≡ with_point ps p y
twice_point [] p x y = refl
twice_point (b ∷ ps) zero x y = refl
twice_point (b ∷ ps) (suc p) x y = ap (λ (qs : List Processor). b ∷ qs) (twice_point ps p x y)

-- behind the last processor there is no point
pub no_point : (ps : List Processor) (p : ℕ) → length ps ≤ p → point_at ps p ≡ None
no_point [] p h = refl
no_point (a ∷ rest) zero h = absurd (omega arith)
no_point (a ∷ rest) (suc p) h = no_point rest p (omega arith)

pub same_point : (ps : List Processor) (p : ℕ) (x : Point) → point_at ps p ≡ Some x → with_point ps p x ≡ ps
same_point [] p x h = refl
same_point (b ∷ ps) zero x h = let same : b.point ≡ x = cc in λ i. record { calls = b.calls; answered = b.answered; point = sym same i } ∷ ps
same_point (b ∷ ps) (suc p) x h = ap (λ (qs : List Processor). b ∷ qs) (same_point ps p x h)

pub point_get : (ps : List Processor) (p : ℕ) (a : Processor) → slice_get ps p ≡ Some a → point_at ps p ≡ Some a.point
point_get [] p a h = cc
point_get (b ∷ ps) zero a h = let same : b ≡ a = cc in ap (λ (c : Processor). Some c.point) same
point_get (b ∷ ps) (suc p) a h = point_get ps p a h

pub call_get : (ps : List Processor) (p : ℕ) (a : Processor) → slice_get ps p ≡ Some a → call_at ps p ≡ slice_get a.calls 0
call_get [] p a h = cc
call_get (b ∷ ps) zero a h = let same : b ≡ a = cc in ap (λ (c : Processor). slice_get c.calls 0) same
call_get (b ∷ ps) (suc p) a h = call_get ps p a h

pub index_get : (ps : List Processor) (p : ℕ) (a : Processor) → slice_get ps p ≡ Some a → answered_at ps p ≡ length a.answered
index_get [] p a h = cc
index_get (b ∷ ps) zero a h = let same : b ≡ a = cc in ap (λ (c : Processor). length c.answered) same
index_get (b ∷ ps) (suc p) a h = index_get ps p a h

-- a processor that is put over another point of its
pub put_over : (ps : List Processor) (p : ℕ) (a : Processor) (x y : Point) → slice_get ps p ≡ Some a
    → slice_set (with_point ps p x) p (record a { point = y }) ≡ with_point ps p y
put_over [] p a x y h = cc
put_over (b ∷ ps) zero a x y h = let same : a ≡ b = cc in ap (λ (c : Processor). record c { point = y } ∷ ps) same
put_over (b ∷ ps) (suc p) a x y h = ap (λ (qs : List Processor). b ∷ qs) (put_over ps p a x y h)

-- the same of an answered one
module _ (place : ℕ) (route : Route) (reply : Reply) (call : Call) (later : List Call) where
  answered_is : (a : Processor) → a.point ≡ Start → a.calls ≡ call ∷ later → done a call later place route reply ≡ answering a a.calls place route reply
  answered_is a start is =
      (λ i. record {
        calls = later;
        answered = a.answered ++ record { call = call; place = place; route = route; reply = reply } ∷ [];
        point = sym start i;
      })
      ∙ ap (λ (cs : List Call). answering a cs place route reply) (sym is)

  pub answer_over : (ps : List Processor) (p : ℕ) (a : Processor) (x : Point) → slice_get ps p ≡ Some a → a.point ≡ Start → a.calls ≡ call ∷ later
      → slice_set (with_point ps p x) p (done a call later place route reply) ≡ with_answer ps p place route reply
  answer_over [] p a x h start is = cc
  answer_over (b ∷ ps) zero a x h start is =
      let same : a ≡ b = cc in
      ap (λ (c : Processor). c ∷ ps) (answered_is a start is) ∙ ap (λ (c : Processor). answering c c.calls place route reply ∷ ps) same
  answer_over (b ∷ ps) (suc p) a x h start is = ap (λ (qs : List Processor). b ∷ qs) (answer_over ps p a x h start is)
