use Rattle.std.specs.Prelude.{ℕ, List, codes}
use Rattle.var_types.specs.declared.ask.Rule.{Rule}
use Rattle.var_types.specs.declared.ask.Rule.TheVariants as rules

-- the characters of a rule of a policy that is printed (this project's own)
unfoldable pub rule_text : Rule → List ℕ
rule_text rules.MinSize = codes "min-size"
rule_text rules.MaxSize = codes "max-size"
rule_text rules.Must = codes "must"
rule_text rules.Cant = codes "cant"
rule_text rules.LockNow = codes "lock-now"
rule_text rules.LockOnCreate = codes "lock-on-create"
rule_text rules.LockOnState = codes "lock-on-state"
