use Rattle.std.specs.Prelude.{ℕ, List, length, sum_by}
use Rattle.var_types.specs.declared.key.Key.{Key}
use Rattle.var_types.specs.declared.variable.Variable.{Variable}
use Rattle.report_text.specs.declared.sizes.Sizes.{Sizes}

-- how many bytes variables have, their names not counted
abbrev pub data_bytes : List (Key × Variable) → ℕ
data_bytes variables = sum_by (λ entry. length entry.1.bytes) variables

-- how many variables there are, and how many bytes they have (this project's own)
abbrev pub sizes_of : List (Key × Variable) → Sizes
sizes_of variables = record { variables = length variables; bytes = data_bytes variables }
