use Rattle.std.proofs.Common.{◌≡◌, ℕ, List, Option, map, string_bytes, Global, String, sym, ap, subst, ◌∙◌}
use Rattle.std.specs.List.{position}
use Rattle.varsvc.specs.Order.{verb_order, dashed_order, is_dashed, GivesOrder}
use Rattle.varsvc.proofs.Positions.{position-map}
use Rattle.varsvc.proofs.words.reading.verb_order.Goals as goal

-- the first word with a dash, seen by the words' bytes
first_by_bytes : (words : List (String Global)) (found : Option ℕ) → found ≡ position (λ word. is_dashed (string_bytes word)) words
    → position is_dashed (map (string_bytes {Z = Global}) words) ≡ found
first_by_bytes words found h = position-map is_dashed (string_bytes {Z = Global}) words ∙ sym h

pub returns-in-Some : goal.returns-in-Some
unfolding verb_order
returns-in-Some c =
    let words = c.args.rest.now in
    ap (dashed_order c.args.verb (map (string_bytes {Z = Global}) words)) (first_by_bytes words c.first_dashed.result c.first_dashed.ensures.position ∙ c.in-Some.is)

pub returns-in-None : goal.returns-in-None
unfolding verb_order
returns-in-None c =
    let words = c.args.rest.now in
    subst (GivesOrder c.operand_order.result)
    (sym (ap (dashed_order c.args.verb (map (string_bytes {Z = Global}) words)) (first_by_bytes words c.first_dashed.result c.first_dashed.ensures.position ∙ c.in-None.is)))
    c.operand_order.ensures

pub operand_order-requires-clause-undashed : goal.operand_order-requires-clause-undashed
operand_order-requires-clause-undashed c =
    first_by_bytes c.args.rest.now c.first_dashed.result c.first_dashed.ensures.position ∙ c.in-None.is
