-- What a write leaves in the map of the service.
use Rattle.std.specs.Prelude.{◌≡◌, List, Option}
use Rattle.std.specs.BTreeMap.{is_at, insert_entry}
use Rattle.std.specs.Map.{lookup}
use Rattle.svc_plain.specs.declared.puts.Write.{Write}
use Rattle.var_types.specs.declared.call.SetCall.{SetCall}
use Rattle.var_types.specs.declared.key.Key.{Key}
use Rattle.var_types.specs.declared.variable.Variable.{Variable}
use Rattle.var_types.specs.Key.{key_cmp}
use Rattle.var_types.specs.Set.{variable_by}

-- the variable that a write makes over what is stored
abbrev pub written : SetCall → Option Variable → Write → Variable
written call stored write = variable_by call stored write.attributes write.stamp write.skip write.append

-- the entries after a write at a key
abbrev pub IsWritten : List (Key × Variable) → List (Key × Variable) → Key → SetCall → Write → Type 0
IsWritten old new key call write = new ≡ insert_entry key_cmp old key (written call (lookup (is_at (key_cmp key)) old) write)
