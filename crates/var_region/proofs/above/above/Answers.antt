use Rattle.std.proofs.Common.{Some, sym, ap, subst, ◌∙◌, ◌<◌}
use Rattle.std.specs.Option.{option_map, option_or}
use Rattle.var_types.proofs.Least.{fewer_left, keys_left, shown_above, shown_above-least, shown_from, shown_key}
use Rattle.var_types.specs.Live.{live_entry}
use Rattle.var_types.specs.Region.{region_lives}
use Rattle.var_region.specs.Found.{seen, seen_key}
use Rattle.var_region.specs.Wanted.{wanted_key}
use Rattle.var_region.proofs.above.above.Goals as goal

pub keys-init : goal.keys-init
keys-init c =
    let ls = region_lives c.args.region.now in
    ap (shown_from ls c.args.runtime) c.least-low.ensures ∙ sym (shown_above-least ls c.args.runtime (option_map wanted_key c.args.bound.now))

pub keys-smaller : goal.keys-smaller
keys-smaller c =
    let left = keys_left (region_lives c.args.region.now) in
    subst (λ low. left (option_map seen_key c.least-low-in-Some.result) < left low)
    (ap Some c.of-wanted.ensures ∙ ap (option_map seen_key) (sym c.in-Some.is))
    (fewer_left (region_lives c.args.region.now) (wanted_key c.of-wanted.result) (option_map seen_key c.least-low-in-Some.result) c.least-low-in-Some.ensures)

pub keys-preserved : goal.keys-preserved
keys-preserved c =
    let ls = region_lives c.args.region.now in
    let wanted = wanted_key c.of-wanted.result in
    ap (shown_from ls c.args.runtime) c.least-low-in-Some.ensures
    ∙ sym (shown_above-least ls c.args.runtime (Some wanted))
    ∙ ap (λ found. option_or (option_map live_entry found) (shown_above ls c.args.runtime (Some wanted))) c.in_default-shown.ensures.counts
    ∙ ap (λ key. shown_from ls c.args.runtime (Some key)) c.of-wanted.ensures
    ∙ ap (λ low. shown_from ls c.args.runtime (option_map seen_key low)) (sym c.in-Some.is)
    ∙ c.keys.invariant

pub returns-in-Some-shown-clause-counts : goal.returns-in-Some-shown-clause-counts
returns-in-Some-shown-clause-counts c =
    shown_key (region_lives c.args.region.now) c.args.runtime (wanted_key c.of-wanted.result) (seen c.in-Some-shown.found) c.in-Some-shown.ensures.counts
