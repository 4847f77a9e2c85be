use Rattle.std.proofs.Common.{refl, sym, subst, ◌∙◌}
use Rattle.std.specs.Prelude.{IsOk}
use Rattle.flash_dev.specs.Geometry.{geometry_of}
use Rattle.nv_store.specs.Tidy.{IsTidy}
use Rattle.nv_store.proofs.Keeps.{accepted_used, at_mirrored}
use Rattle.nv_store.proofs.Openings.{rewrite_moments}
use Rattle.nv_store.proofs.opening.put_in_order.Goals as goal

pub write_volume-requires-clause-used : goal.write_volume-requires-clause-used
write_volume-requires-clause-used g c =
    accepted_used c.repack.new.into (c.repack.ensures.same.len ∙ c.requires.mirror)
    (subst (λ front. IsOk (geometry_of front)) (sym c.repack.ensures.same.headers) c.requires.headers)

pub returns-in_err-used-clause-at_any_moment : goal.returns-in_err-used-clause-at_any_moment
returns-in_err-used-clause-at_any_moment g c =
    rewrite_moments c.args.mirror.now c.repack.new.into c.args.flash.now c.write_volume.new.flash
    (at_mirrored c.args.mirror.now c.args.slots (g.F.Flash.holds c.args.flash.now) c.requires.mirrored) c.repack.ensures.map c.repack.ensures.same.headers
    (λ tidy. c.if-is_tidy.ensures.untidy refl (subst IsTidy (sym c.region_in.ensures) tidy)) c.write_volume.ensures.at_any_moment

pub returns-clause-at_any_moment : goal.returns-clause-at_any_moment
returns-clause-at_any_moment g c =
    rewrite_moments c.args.mirror.now c.repack.new.into c.args.flash.now c.write_volume.new.flash
    (at_mirrored c.args.mirror.now c.args.slots (g.F.Flash.holds c.args.flash.now) c.requires.mirrored) c.repack.ensures.map c.repack.ensures.same.headers
    (λ tidy. c.if-is_tidy.ensures.untidy refl (subst IsTidy (sym c.region_in.ensures) tidy)) c.write_volume.ensures.at_any_moment
