use Rattle.std.specs.Prelude.{ℕ, List, [], ◌∷◌, ◌++◌, decimal, map, flat_map}
use Rattle.var_types.specs.Guid.{guid_text}
use Rattle.var_types.specs.Texts.{attributes_text, bytes_text, name_text, spaced}
use Rattle.script_text.specs.Texts.{call_text}
use Rattle.report_text.specs.declared.part.Part.{Part}
use Rattle.report_text.specs.declared.part.Part.TheVariants as part
use Rattle.report_text.specs.CheckWord.{check_word_text}
use Rattle.report_text.specs.Rule.{rule_text}
use Rattle.report_text.specs.Stamp.{stamp_text}
use Rattle.report_text.specs.Status.{status_text}
use Rattle.report_text.specs.Word.{word_text}

-- the text of a part of a line
abbrev pub part_text : Part → List ℕ
part_text (part.Word word) = word_text word
part_text (part.Check word) = check_word_text word
part_text (part.Status status) = status_text status
part_text (part.Rule rule) = rule_text rule
part_text (part.Number n) = decimal n
part_text (part.Attributes n) = attributes_text n
part_text (part.Bytes bytes) = bytes_text bytes.now
part_text (part.Guid guid) = guid_text guid.now
part_text (part.Name units) = name_text units.now
part_text (part.Stamp stamp) = stamp_text stamp.now
part_text (part.Call call) = call_text call.now

-- parts with a space before each
abbrev pub later_parts_text : List Part → List ℕ
later_parts_text parts = flat_map (λ p. 32 ∷ part_text p) parts

-- parts with a space between each two
abbrev pub parts_text : List Part → List ℕ
parts_text parts = spaced (map part_text parts)

-- words with a space between each two, ended by LF
abbrev pub line_text : List (List ℕ) → List ℕ
line_text words = spaced words ++ 10 ∷ []
