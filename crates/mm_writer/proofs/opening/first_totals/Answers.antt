use Rattle.std.proofs.Common.{ap, ◌∙◌}
use Rattle.mm_writer.proofs.Beginnings.{first_rooms}
use Rattle.region_compact.specs.Compacted.{size_after}
use Rattle.region_compact.specs.declared.replace.Replace.TheVariants.{None as Keep}
use Rattle.mm_writer.proofs.opening.first_totals.Goals as goal

pub returns : goal.returns
returns c =
    first_rooms c.regions_own_their_maps.ensures c.args.volume.now c.size_after.result c.sizes_are_the_room.ensures.room c.requires
    (c.size_after.ensures ∙ ap (λ region. size_after region Keep) c.region_in.ensures)
