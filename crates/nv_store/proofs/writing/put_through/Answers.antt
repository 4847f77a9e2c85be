use Rattle.std.proofs.Common.{sym, subst, ◌∙◌}
use Rattle.flash_dev.specs.Geometry.{geometry_of}
use Rattle.std.specs.Prelude.{IsOk}
use Rattle.ftw_mount.specs.Mount.{IsWritten}
use Rattle.var_region.specs.NewRecord.{new_key, new_variable}
use Rattle.var_types.specs.declared.store.Store.TheVariants.{NonVolatile}
use Rattle.nv_store.specs.Mirror.{IsMirroredAt}
use Rattle.nv_store.specs.Outcome.{with_put}
use Rattle.nv_store.proofs.Keeps.{accepted_used, anew_pasted, at_mirrored, kept_with, write_moments, written_told}
use Rattle.nv_store.proofs.writing.put_through.Goals as goal

pub write_volume-requires-clause-used : goal.write_volume-requires-clause-used
write_volume-requires-clause-used g c =
    accepted_used c.put_anew.new.into (c.in-Ok.ensures.put.same.len ∙ c.requires.len)
    (subst (λ front. IsOk (geometry_of front)) (sym c.in-Ok.ensures.put.same.headers) c.requires.headers)

pub returns-in-Ok-write_volume-clause-written : goal.returns-in-Ok-write_volume-clause-written
returns-in-Ok-write_volume-clause-written g c = record {
  len = c.in-Ok.ensures.put.same.len;
  pasted = anew_pasted NonVolatile c.args.new.now c.args.mirror.now c.put_anew.new.into c.in-Ok.ensures.put.same.len c.requires.full;
}

pub returns-in-Ok-write_volume-clause-kept : goal.returns-in-Ok-write_volume-clause-kept
returns-in-Ok-write_volume-clause-kept g c =
    let before = c.requires.mirrored in
    kept_with (with_put (new_key c.args.new.now) (new_variable c.args.new.now)) c.args.mirror.now c.put_anew.new.into
    (IsWritten c.put_anew.new.into c.in-Ok-write_volume.used)
    (g.F.Flash.holds c.args.flash.now) (g.F.Flash.holds c.write_volume.new.flash) c.in-Ok-write_volume.ensures.written
    (at_mirrored c.args.mirror.now c.args.slots (g.F.Flash.holds c.args.flash.now) before)
    (at_mirrored c.put_anew.new.into c.in-Ok-write_volume.used (g.F.Flash.holds c.write_volume.new.flash)
    (written_told c.put_anew.new.into c.in-Ok-write_volume.used (IsMirroredAt c.args.mirror.now c.args.slots) (g.F.Flash.holds c.args.flash.now)
    (g.F.Flash.holds c.write_volume.new.flash) before c.in-Ok-write_volume.ensures.written))
    c.in-Ok.ensures.put.map

pub returns-in-Ok-write_volume-clause-at_any_moment : goal.returns-in-Ok-write_volume-clause-at_any_moment
returns-in-Ok-write_volume-clause-at_any_moment g c =
    write_moments (with_put (new_key c.args.new.now) (new_variable c.args.new.now)) c.args.mirror.now c.put_anew.new.into c.args.flash.now c.write_volume.new.flash
    (at_mirrored c.args.mirror.now c.args.slots (g.F.Flash.holds c.args.flash.now) c.requires.mirrored) c.in-Ok.ensures.put.map
    c.in-Ok.ensures.put.same.headers c.write_volume.ensures.at_any_moment

pub returns-in-Err-write_volume-clause-at_any_moment : goal.returns-in-Err-write_volume-clause-at_any_moment
returns-in-Err-write_volume-clause-at_any_moment g c =
    write_moments (with_put (new_key c.args.new.now) (new_variable c.args.new.now)) c.args.mirror.now c.put_anew.new.into c.args.flash.now c.write_volume.new.flash
    (at_mirrored c.args.mirror.now c.args.slots (g.F.Flash.holds c.args.flash.now) c.requires.mirrored) c.in-Ok.ensures.put.map
    c.in-Ok.ensures.put.same.headers c.write_volume.ensures.at_any_moment
