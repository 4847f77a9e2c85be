-- The script that registers policies.
use Rattle.std.specs.Prelude.{ℕ, List, [], ◌∷◌, ◌++◌, flat_map}
use Rattle.script_text.specs.ReadBack.{line_of}
use Rattle.var_types.specs.declared.call.Call.TheVariants as call
use Rattle.var_types.specs.declared.policy_call.PolicyCall.TheVariants as policies
use Rattle.var_types.specs.declared.policy.Policy.{Policy}
use Rattle.var_types.specs.PolicyEntry.{entry_bytes}

-- the line of a script by which processor 0 registers a policy's entry (this project's own)
abbrev pub entry_line : Policy → List ℕ
entry_line policy = line_of 0 (call.Policy (policies.Register (entry_bytes policy))) ++ 10 ∷ []

-- the script that registers policies in their order
abbrev pub entries_text : List Policy → List ℕ
entries_text registered = flat_map entry_line registered
