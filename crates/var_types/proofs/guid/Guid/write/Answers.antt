use Rattle.std.proofs.Common.{List, ℕ, ap, subst, ◌∙◌}
use Rattle.uuid.specs.Text.{hyphenated_text, lower}
use Rattle.var_types.specs.Guid.{guid_text}
use Rattle.var_types.proofs.guid.Guid.write.Goals as goal

pub returns-clause-text : goal.returns-clause-text
unfolding guid_text
returns-clause-text g c =
    let text = c.as_bytes.ensures.value ∙ c.encode_lower-text.ensures.text ∙ ap (hyphenated_text lower) (c.hyphenated.ensures ∙ c.uuid_of.ensures.uuid) in
    subst (λ (t : List ℕ). g.P.Put.Puts c.args.out.now c.put.new.self t) text c.put.ensures
