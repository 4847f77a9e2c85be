use Rattle.std.proofs.Common.{sym, ◌∙◌}
use Rattle.flash_dev.proofs.Sizes.{headers_refuse, right_size, wrong_size}
use Rattle.flash_dev.proofs.geometry.read_geometry.Goals as goal

pub returns-then-have-ne-IMAGE_BYTES-clause-geometry : goal.returns-then-have-ne-IMAGE_BYTES-clause-geometry
returns-then-have-ne-IMAGE_BYTES-clause-geometry g c = λ other.
    let law = g.met.F.Flash.sized c.args.flash.now in
    rw c.len-have.ensures (wrong_size (g.F.Flash.holds c.args.flash.now) (g.F.Flash.size c.args.flash.now) law (λ e. c.if-have-ne-IMAGE_BYTES.true (c.len-have.ensures ∙ e)))

pub returns-clause-geometry : goal.returns-clause-geometry
returns-clause-geometry g c = λ other.
    let law = g.met.F.Flash.sized c.args.flash.now in
    let same = sym c.len-have.ensures ∙ c.if-have-ne-IMAGE_BYTES.false in
    rw c.geometry_of.ensures.geometry
    (right_size (g.F.Flash.holds c.args.flash.now) (g.F.Flash.size c.args.flash.now) c.in_ok-first.first law same c.in_ok-first.ensures.headers)

pub returns-clause-size_only : goal.returns-clause-size_only
returns-clause-size_only g c = λ have want e size. headers_refuse c.in_ok-first.first have want (sym c.geometry_of.ensures.geometry ∙ e)
