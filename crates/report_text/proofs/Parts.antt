use Rattle.std.proofs.Common.{◌≡◌, List, [], ◌∷◌, ◌++◌, ap}
use Rattle.std.proofs.lemmas.List.{append-nil}
use Rattle.report_text.specs.declared.part.Part.{Part}
use Rattle.report_text.specs.Line.{part_text, later_parts_text, parts_text}

-- the first part, and each later one behind a space
pub parts_text-cons : (p : Part) (ps : List Part) → part_text p ++ later_parts_text ps ≡ parts_text (p ∷ ps)
parts_text-cons p [] = append-nil (part_text p)
parts_text-cons p (q ∷ qs) = ap (λ text. part_text p ++ (32 ∷ text)) (parts_text-cons q qs)
