use Rattle.nv_store.proofs.Openings.{mount_moments, opened_headers, opened_map, opening_moments}
use Rattle.nv_store.proofs.opening.open_volume.Goals as goal

pub returns-in_err-slots-clause-at_any_moment : goal.returns-in_err-slots-clause-at_any_moment
returns-in_err-slots-clause-at_any_moment g c =
    mount_moments c.args.flash.now c.read_volume.new.flash c.read_volume.ensures.at_any_moment

pub returns-in-Ok-clause-map : goal.returns-in-Ok-clause-map
returns-in-Ok-clause-map g c =
    opened_map c.read_volume.new.mirror c.put_in_order.new.mirror (g.F.Flash.holds c.args.flash.now) c.in-Ok.ensures.map c.in_ok-slots.ensures.content

pub returns-in-Ok-clause-headers : goal.returns-in-Ok-clause-headers
returns-in-Ok-clause-headers g c =
    opened_headers c.read_volume.new.mirror c.put_in_order.new.mirror (g.F.Flash.holds c.args.flash.now) c.in-Ok.ensures.headers
    c.in_ok-slots.ensures.content

pub returns-in-Ok-clause-at_any_moment : goal.returns-in-Ok-clause-at_any_moment
returns-in-Ok-clause-at_any_moment g c =
    opening_moments c.args.flash.now c.read_volume.new.flash c.put_in_order.new.flash c.read_volume.ensures.at_any_moment c.put_in_order.ensures.at_any_moment

pub returns-in-Err-clause-at_any_moment : goal.returns-in-Err-clause-at_any_moment
returns-in-Err-clause-at_any_moment g c =
    opening_moments c.args.flash.now c.read_volume.new.flash c.put_in_order.new.flash c.read_volume.ensures.at_any_moment c.put_in_order.ensures.at_any_moment
