use Rattle.std.specs.Prelude.{ℕ, List, [], ◌∷◌, ◌++◌, length, decimal, flat_map}
use Rattle.var_types.specs.Texts.{attributes_text, bytes_text, name_text}
use Rattle.var_types.specs.declared.key.Key.{Key}
use Rattle.var_types.specs.declared.variable.Variable.{Variable}
use Rattle.var_types.specs.Guid.{guid_text}
use Rattle.report_text.specs.declared.word.Word.TheVariants as word
use Rattle.report_text.specs.Line.{line_text}
use Rattle.report_text.specs.Stamp.{stamp_text}
use Rattle.report_text.specs.Word.{word_text}

-- the line of a variable: its GUID, its name, its attributes, its stamp and its bytes (this project's own)
unfoldable pub variable_line : Key × Variable → List ℕ
variable_line entry =
    line_text
    (guid_text entry.0.guid ∷ name_text entry.0.name ∷ attributes_text entry.1.attributes ∷ stamp_text entry.1.stamp ∷ bytes_text entry.1.bytes ∷ [])

-- the listing of variables: how many, each of them in the order given, and the end (this project's own)
unfoldable pub listing_text : List (Key × Variable) → List ℕ
listing_text entries =
    line_text (word_text word.Variables ∷ decimal (length entries) ∷ []) ++ (flat_map variable_line entries ++ line_text (word_text word.End ∷ []))
