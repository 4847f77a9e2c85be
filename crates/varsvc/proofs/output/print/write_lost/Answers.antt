use Rattle.std.proofs.Common.{◌≡◌, ℕ, List, Some, inl, map, refl, ap, subst, ◌∙◌}
use Rattle.report_text.specs.Held.{entry_of}
use Rattle.report_text.specs.Listing.{listing_text}
use Rattle.var_types.specs.Region.{Region, region_map}
use Rattle.varsvc.specs.Plan.{play_text, volume_listing, volume_region}
use Rattle.varsvc.proofs.output.print.write_lost.Goals as goal

pub returns-in-Ok : goal.returns-in-Ok
returns-in-Ok g c =
    let same : listing_text (map entry_of c.in-Ok.variables.entries) ≡ volume_listing c.args.left.now =
    ap listing_text c.in-Ok.ensures.map
    ∙ ap (λ (r : Region). listing_text (region_map r)) (c.over-region.ensures ∙ ap volume_region c.as_slice.ensures.bytes) in
    let listed = subst (λ (text : List ℕ). g.P.Put.Puts c.write_line.new.out c.write_found.new.out text) same c.write_found.ensures in (
      play_text c.args.session.now (Some c.args.left.now),
      inl (c.write_session.ensures.values, refl, refl),
      g.met.P.Put.joined _ _ _ _ _ c.write_session.ensures.text (g.met.P.Put.joined _ _ _ _ _ c.write_line.ensures listed),
    )
