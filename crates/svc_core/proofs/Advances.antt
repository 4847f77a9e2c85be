-- A step of a machine whose point was taken and put back is one of the machine.
use Rattle.std.proofs.Common.{◌≡◌, ℕ, List, Option, Some, Result, Ok, Err, refl, sym, ap, subst, ◌∙◌}
use Rattle.std.specs.Prelude.{IfSome, OnOk, OnErr}
use Rattle.var_types.specs.declared.call.Call.{Call}
use Rattle.var_types.specs.declared.out_of_memory.OutOfMemory.{OutOfMemory}
use Rattle.svc_core.proofs.Points.{call_point, get_point, point_get, same_point, twice_point}
use Rattle.svc_core.specs.declared.machine.Machine.{Machine}
use Rattle.svc_core.specs.declared.point.Point.{Point}
use Rattle.svc_core.specs.declared.point.Point.TheVariants.{Start}
use Rattle.svc_core.specs.Events.{IsStuck}
use Rattle.svc_core.specs.Machine.{IsAdvance, IsClear, IsStep, put_back, with_processors, world_of}
use Rattle.svc_core.specs.Progress.{call_at, point_at, with_point}
use Rattle.svc_core.specs.Rows.{Row}
use Rattle.svc_core.specs.World.{Processor}

-- what follows of a call that is done, or that isn't
pub on_ok : (r : Result (Unit {0}) OutOfMemory) (P Q : Type 0) → (P → Q) → OnOk r P → OnOk r Q
on_ok (Ok u) P Q f h = f h
on_ok (Err e) P Q f h = h

pub on_err : (r : Result (Unit {0}) OutOfMemory) (P Q : Type 0) → (P → Q) → OnErr r P → OnErr r Q
on_err (Ok u) P Q f h = h
on_err (Err e) P Q f h = f h

module _ (m : Machine) (p : ℕ) (x : Point) (at : point_at m.progress.processors p ≡ Some x) where
  abbrev ps : List Processor
  ps = m.progress.processors

  -- the point that was taken, put back
  pub back : put_back (put_back m p Start) p x ≡ m
  back = ap (with_processors m) (twice_point ps p Start x ∙ same_point ps p x at)

  -- what the step needs
  pub clear_taken : IfSome (point_at ps p) (λ (y : Point). IsClear (call_at ps p) m y) → IsClear (call_at (with_point ps p Start) p) m x
  clear_taken clear =
      subst (λ (call : Option Call). IsClear call m x) (sym (call_point ps p Start))
      (subst (λ (o : Option Point). IfSome o (λ (y : Point). IsClear (call_at ps p) m y)) at clear)

  pub advances : (next : Machine) → IsStep (put_back m p Start) p x next → IsAdvance m p next
  advances next step = λ opening own a get ready.
      let same : x ≡ a.point = let e : Some x ≡ Some a.point = sym at ∙ point_get ps p a get in cc in
      let whole : (let b : Processor = record a { point = x } in b) ≡ a = ap (λ (y : Point). let b : Processor = record a { point = y } in b) same in
      let row = step opening own (record a { point = Start }) (get_point ps p a Start get) refl
      (λ stuck. ready (subst (λ (b : Processor). IsStuck (world_of opening own m) b) whole stuck)) in
      subst (λ (b : Processor). Row (world_of opening own m) p b (world_of opening own next)) whole
      (subst (λ (k : Machine). Row (world_of opening own k) p (record a { point = x }) (world_of opening own next)) back row)
