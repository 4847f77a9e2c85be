use Rattle.std.proofs.Common.{ap, ◌∙◌}
use Rattle.var_types.specs.declared.store.Store.TheVariants.{NonVolatile}
use Rattle.var_types.specs.Stores.{map_in}
use Rattle.var_region.specs.NewRecord.{new_key, new_variable}
use Rattle.nv_store.specs.Outcome.{with_put}
use Rattle.nv_store.specs.StepsLeft.{IsMapOr, IsStepLeft}
use Rattle.nv_store.proofs.Keeps.{at_mirrored, kept_with, step_moments, step_slots}
use Rattle.nv_store.proofs.writing.put_behind.Goals as goal

pub returns-in-Ok-clause-mirrored : goal.returns-in-Ok-clause-mirrored
returns-in-Ok-clause-mirrored g c =
    step_slots (IsMapOr (with_put (new_key c.args.new.now) (new_variable c.args.new.now)) c.copy_from_slice.new.self) c.args.mirror.now c.put_in_place.new.bytes c.args.slots
    (g.F.Flash.holds c.args.flash.now) (g.F.Flash.holds c.put_in_place.new.flash) c.put_in_place.ensures.at_any_moment.now c.requires.mirrored
    c.in-Ok.ensures.mirrored

pub returns-in-Ok-clause-kept : goal.returns-in-Ok-clause-kept
returns-in-Ok-clause-kept g c =
    kept_with (with_put (new_key c.args.new.now) (new_variable c.args.new.now)) c.args.mirror.now c.put_in_place.new.bytes (IsStepLeft (IsMapOr (with_put (new_key c.args.new.now) (new_variable c.args.new.now)) c.copy_from_slice.new.self))
    (g.F.Flash.holds c.args.flash.now) (g.F.Flash.holds c.put_in_place.new.flash) c.put_in_place.ensures.at_any_moment.now (at_mirrored c.args.mirror.now c.args.slots (g.F.Flash.holds c.args.flash.now) c.requires.mirrored) c.in-Ok.ensures.mirrored
    (c.in-Ok.ensures.put.map ∙ ap (λ list. with_put (new_key c.args.new.now) (new_variable c.args.new.now) (map_in NonVolatile list)) c.copy_from_slice.ensures.after)

pub returns-in-Ok-clause-at_any_moment : goal.returns-in-Ok-clause-at_any_moment
returns-in-Ok-clause-at_any_moment g c =
    step_moments (with_put (new_key c.args.new.now) (new_variable c.args.new.now)) c.args.mirror.now c.copy_from_slice.new.self c.args.flash.now c.put_in_place.new.flash c.copy_from_slice.ensures.after
    (at_mirrored c.args.mirror.now c.args.slots (g.F.Flash.holds c.args.flash.now) c.requires.mirrored) c.put_in_place.ensures.at_any_moment

pub returns-in-Err-clause-at_any_moment : goal.returns-in-Err-clause-at_any_moment
returns-in-Err-clause-at_any_moment g c =
    step_moments (with_put (new_key c.args.new.now) (new_variable c.args.new.now)) c.args.mirror.now c.copy_from_slice.new.self c.args.flash.now c.put_in_place.new.flash c.copy_from_slice.ensures.after
    (at_mirrored c.args.mirror.now c.args.slots (g.F.Flash.holds c.args.flash.now) c.requires.mirrored) c.put_in_place.ensures.at_any_moment
