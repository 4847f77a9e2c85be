use Rattle.std.proofs.Common.{ℕ, List, [], sym, ap, refl, subst, take, false, ◌∙◌}
use Rattle.std.proofs.lemmas.List.{length-map}
use Rattle.flash_dev.specs.Blank.{blank_volatile}
use Rattle.var_types.specs.Layout.{volume_size}
use Rattle.var_types.specs.Stores.{HaveSizes, Stores}
use Rattle.svc_core.proofs.Seats.{map_both}
use Rattle.svc_core.specs.Progress.{ProgressState}
use Rattle.svc_core.specs.World.{Processor}
use Rattle.svc_core.proofs.machine.Machine.begin.Goals as goal

pub returns : goal.returns
returns c =
    let of : List ℕ → Stores = λ bytes. record { non_volatile = take volume_size bytes; volatile = blank_volatile; runtime = false } in
    record {
      count = c.len-count.ensures ∙ c.args.calls.ok.0 ∙ sym (length-map c.args.calls.items (λ v. v.items));
      lock = refl;
      held = refl;
      home = refl;
      cache = c.in_ok-cache.ensures ∙ ap of c.as_slice.ensures.items;
      writer_lock = refl;
      made = refl;
      stores = c.in_ok-own.ensures ∙ ap of c.as_slice-2.ensures.items;
      ranges = c.empty.ensures;
      flushed = refl;
      flash = c.new-2.ensures;
      progress =
          c.in_ok-progress.ensures
          ∙ ap (λ (ps : List Processor). let g : ProgressState = record { log = []; limit = c.args.limit; processors = ps } in g) (map_both c.args.calls.items);
      sizes = subst HaveSizes c.own.view_is c.own.invariant;
    }
