use Rattle.std.proofs.Common.{◌≡◌}
use Rattle.mm_writer.specs.KeyPlaces.{places_in, places_or}
use Rattle.var_types.specs.Key.{key_of}
use Rattle.var_types.specs.Region.{region_lives}
use Rattle.mm_writer.proofs.key_places.KeyPlaces.of.Given as goal

abbrev pub invariant-loop-found : goal.invariant-loop-found
invariant-loop-found l =
    places_or l.places (places_in (key_of l.guid l.name) l.found-iterator) ≡ places_in (key_of l.guid l.name) (region_lives l.region)
