use Rattle.std.proofs.Common.{ap, ◌∙◌}
use Rattle.var_types.specs.declared.store.Store.TheVariants.{NonVolatile}
use Rattle.var_types.specs.Stores.{map_in}
use Rattle.var_types.specs.Key.{key_of}
use Rattle.nv_store.specs.Outcome.{without}
use Rattle.nv_store.specs.StepsLeft.{IsMapOr, IsStepLeft}
use Rattle.nv_store.proofs.Keeps.{kept_with, step_moments, step_slots}
use Rattle.nv_store.proofs.writing.write_removal.Goals as goal

pub returns-in-Ok-clause-mirrored : goal.returns-in-Ok-clause-mirrored
returns-in-Ok-clause-mirrored g c =
    λ slots mirrored.
    step_slots (IsMapOr (without (key_of c.args.guid.now c.args.name.now)) c.copy_from_slice.new.self) c.args.mirror.now c.remove_in_place.new.bytes slots
    (g.F.Flash.holds c.args.flash.now) (g.F.Flash.holds c.remove_in_place.new.flash) c.remove_in_place.ensures.at_any_moment.now mirrored
    c.in-Ok.ensures.mirrored

pub returns-in-Ok-clause-kept : goal.returns-in-Ok-clause-kept
returns-in-Ok-clause-kept g c =
    kept_with (without (key_of c.args.guid.now c.args.name.now)) c.args.mirror.now c.remove_in_place.new.bytes (IsStepLeft (IsMapOr (without (key_of c.args.guid.now c.args.name.now)) c.copy_from_slice.new.self))
    (g.F.Flash.holds c.args.flash.now) (g.F.Flash.holds c.remove_in_place.new.flash) c.remove_in_place.ensures.at_any_moment.now c.requires.mirrored c.in-Ok.ensures.mirrored
    (c.in-Ok.ensures.removed.map ∙ ap (λ list. without (key_of c.args.guid.now c.args.name.now) (map_in NonVolatile list)) c.copy_from_slice.ensures.after)

pub returns-in-Ok-clause-at_any_moment : goal.returns-in-Ok-clause-at_any_moment
returns-in-Ok-clause-at_any_moment g c =
    step_moments (without (key_of c.args.guid.now c.args.name.now)) c.args.mirror.now c.copy_from_slice.new.self c.args.flash.now c.remove_in_place.new.flash c.copy_from_slice.ensures.after
    c.requires.mirrored c.remove_in_place.ensures.at_any_moment

pub returns-in-Err-clause-at_any_moment : goal.returns-in-Err-clause-at_any_moment
returns-in-Err-clause-at_any_moment g c =
    step_moments (without (key_of c.args.guid.now c.args.name.now)) c.args.mirror.now c.copy_from_slice.new.self c.args.flash.now c.remove_in_place.new.flash c.copy_from_slice.ensures.after
    c.requires.mirrored c.remove_in_place.ensures.at_any_moment
