use Rattle.std.proofs.Common.{◌≡◌, replicate}
use Rattle.flash_dev.specs.Blank.{blank_image}
use Rattle.var_types.specs.Layout.{image_size}
use Rattle.flash_dev.specs.Formatting.{IsFormatLeft}
use Rattle.flash_dev.specs.Rules.{programmed}
use Rattle.flash_dev.proofs.Calls.{leaves_then}
use Rattle.flash_dev.proofs.Formats.{format_begins, headers_moments}
use Rattle.flash_dev.proofs.Fresh.{programmed_blank}
use Rattle.flash_dev.proofs.Moments.{stays_none}
use Rattle.flash_dev.proofs.blank.format_image.Goals as goal

pub returns-clause-blank : goal.returns-clause-blank
returns-clause-blank g c =
    leaves_then (λ image left. left ≡ replicate image_size 0xFF) (λ image left. left ≡ programmed 0 c.blank_headers.result image) (λ image left. left ≡ blank_image)
    (g.F.Flash.holds c.args.flash.now) _ (g.F.Flash.holds c.program.new.self) c.in_ok-erase_all.ensures.erased c.in_ok-program.ensures.programmed
    (λ image cells left told now e f. programmed_blank c.blank_headers.result cells left c.blank_headers.ensures e f)

pub returns-clause-at_any_moment : goal.returns-clause-at_any_moment
returns-clause-at_any_moment g c =
    headers_moments _ _ _ c.blank_headers.result c.blank_headers.ensures c.erase_all.ensures.at_any_moment c.in_ok-erase_all.ensures.erased
    c.program.ensures.at_any_moment

pub returns-in_err-program-clause-at_any_moment : goal.returns-in_err-program-clause-at_any_moment
returns-in_err-program-clause-at_any_moment g c =
    headers_moments _ _ _ c.blank_headers.result c.blank_headers.ensures c.erase_all.ensures.at_any_moment c.in_ok-erase_all.ensures.erased
    c.program.ensures.at_any_moment

pub returns-then-have-ne-IMAGE_BYTES-clause-at_any_moment : goal.returns-then-have-ne-IMAGE_BYTES-clause-at_any_moment
returns-then-have-ne-IMAGE_BYTES-clause-at_any_moment g c = stays_none IsFormatLeft c.args.flash.now (λ image told. format_begins image)
