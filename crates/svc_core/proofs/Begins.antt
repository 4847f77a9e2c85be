-- A world before its first event is consistent.
use Rattle.std.proofs.Common.{◌≡◌, ℕ, zero, suc, ◌≤◌, false, List, [], ◌∷◌, length, map, Some, refl, sym, ap, subst, ◌∙◌, inr, arith}
use Rattle.std.proofs.lemmas.List.{length-map}
use Rattle.std.proofs.lemmas.List.Elements.{All-nil}
use Rattle.std.specs.Prelude.{slice_get}
use Rattle.pending_range.specs.Ranges.{AgreeOutside, no_ranges}
use Rattle.var_trace.specs.StoresAfter.{bytes_at}
use Rattle.var_types.specs.declared.call.Call.{Call}
use Rattle.var_types.specs.State.{State}
use Rattle.var_types.specs.Stores.{HaveSizes, Means}
use Rattle.svc_core.proofs.Coverings.{agree_same}
use Rattle.svc_core.specs.declared.machine.Machine.{Machine}
use Rattle.svc_core.specs.declared.standing.Standing.TheVariants.{Running}
use Rattle.svc_core.specs.Invariant.{EachAt, IsConsistent}
use Rattle.svc_core.specs.Machine.{IsFirst, limited, world_of}
use Rattle.svc_core.specs.Progress.{ProgressState, starting}
use Rattle.svc_core.specs.Scene.{IsOpening, IsSceneOf, first_world, own_at_first, scene_of}
use Rattle.svc_core.specs.World.{Processor, World}
use Rattle.svc_core.specs.Writer.{Opening, Writer, state_at}

-- each processor is at the start of its first call
each_starts : (calls : List (List Call)) (q : ℕ) (a : Processor) → slice_get (map starting calls) q ≡ Some a → (own : List Call) × (a ≡ starting own)
each_starts [] q a e = cc
each_starts (c ∷ cs) zero a e = let same : a ≡ starting c = cc in (c, same)
each_starts (c ∷ cs) (suc q) a e = each_starts cs q a e

module _ (opening : Opening) (image : List ℕ) (limit : ℕ) (calls : List (List Call)) (o : IsOpening opening image limit) (few : length calls ≤ 8) (sizes : HaveSizes opening.stores) where
  w : World
  w = first_world opening image calls

  begun_at : (q : ℕ) (own : List Call) → EachAt (first_world opening image calls) q own [] (starting own).point
  begun_at q own = record {
    grips = λ e. omega (arith, e);
    stages = λ e. omega (arith, e);
    flushes = λ e. absurd (omega (arith, e));
    past = record {
      has = tt;
      right = tt;
      ordered = tt;
      behind_made = All-nil _;
      routed = All-nil _;
      once = refl;
      loads = tt;
      finds = tt;
      forms = tt;
    };
  }

  pub begun : IsConsistent (first_world opening image calls)
  begun = record {
    bounds = record {
      few = few;
      all = length-map calls starting;
      word = inr (omega arith);
      desk_of = omega arith;
      keeper = λ e. absurd (omega (arith, e));
      sound = o.sound;
    };
    history = record {
      made_in = omega arith;
      room = omega arith;
      stores_are = refl;
      sizes = sizes;
      outside = λ n after within. let none : n ≡ 0 = omega (arith, within) in
          subst (λ (k : ℕ). AgreeOutside no_ranges (bytes_at opening.stores [] k) opening.stores) (sym none) (agree_same no_ranges opening.stores);
      means = λ n within. let none : n ≡ 0 = omega (arith, within) in
          subst (λ (k : ℕ). Means (bytes_at opening.stores [] k) (state_at opening [] k)) (sym none) o.means;
      changes = λ n entry e. cc;
      known = All-nil _;
    };
    cache = record { held_is = omega arith; cache_is = λ e. (refl, omega arith); rests = λ e. refl };
    rests = λ e. (refl, record { same = refl; keeps = o.keeps });
    each = λ q a get.
        let one = each_starts calls q a get in
        subst (λ (b : Processor). EachAt (first_world opening image calls) q b.calls b.answered b.point) (sym one.1) (begun_at q one.0);
  }

module _ (opening : Opening) (image : List ℕ) (limit : ℕ) (calls : List (List Call)) (o : IsOpening opening image limit) (few : length calls ≤ 8)
    (m : Machine) (first : IsFirst image calls limit m) (own : Writer) (own_is : own ≡ own_at_first opening image) where
  world_path : world_of opening own m ≡ first_world opening image calls
  world_path = λ i. record {
    opening = limited opening ((ap (λ (g : ProgressState). g.limit) first.progress ∙ ap (λ (s : State). s.limit) (sym o.state)) i);
    count = first.count i;
    lock = first.lock i;
    cached = record { held = first.held i; home = first.home i; cache = (first.cache ∙ sym o.stores) i };
    writer_lock = first.writer_lock i;
    writer = record {
      made = first.made i;
      log = (ap (λ (g : ProgressState). g.log) first.progress) i;
      stores = (first.stores ∙ sym o.stores) i;
      ranges = first.ranges i;
      flushed = first.flushed i;
      flash = first.flash i;
      own = own_is i;
    };
    processors = (ap (λ (g : ProgressState). g.processors) first.progress) i;
  }

  pub begins_as : scene_of Running opening own m ≡ record { lost = false; over = false; world = first_world opening image calls }
  begins_as = λ i. record { lost = false; over = false; world = world_path i }

  pub begins_well : IsSceneOf Running opening own m
  begins_well = record {
    holds =
        subst IsConsistent (sym world_path)
        (begun opening image limit calls o few (subst HaveSizes (first.stores ∙ sym o.stores) first.sizes));
    limit = ap (λ (g : ProgressState). g.limit) first.progress ∙ ap (λ (s : State). s.limit) (sym o.state);
  }
