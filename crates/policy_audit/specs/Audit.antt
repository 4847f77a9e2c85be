-- Which variables break the policy that counts for them.
use Rattle.std.specs.Option.{option_map}
use Rattle.std.specs.List.{filter_map}
use Rattle.std.specs.Prelude.{ℕ, Bool, true, false, List, [], ◌∷◌, ◌++◌, codes, decimal, flat_map, length, if◌then◌else◌, Option, Some, None}
use Rattle.report_text.specs.Line.{line_text}
use Rattle.report_text.specs.Rule.{rule_text}
use Rattle.var_types.specs.declared.ask.Rule.{Rule}
use Rattle.var_types.specs.declared.ask.Rule.TheVariants.{Cant, MaxSize, MinSize, Must}
use Rattle.var_types.specs.declared.key.Key.{Key}
use Rattle.var_types.specs.declared.policy.Policy.{Policy}
use Rattle.var_types.specs.declared.variable.Variable.{Variable}
use Rattle.var_types.specs.Guid.{guid_text}
use Rattle.var_types.specs.Policies.{Question, best, has_cant, is_above_max, is_below_min, lacks_must}
use Rattle.var_types.specs.Texts.{name_text}
use Rattle.policy_audit.specs.declared.violation.Violation.{Violation}

-- a variable that breaks the policy that counts for it: its key, the first rule that it breaks, and the place of the policy
pub record Break : Type 0 where
  pub key : Key
  pub rule : Rule
  pub place : ℕ

-- the set of a variable that would leave it as it is (EDK II, ValidateSetVariable)
abbrev pub own_set : Key × Variable → Question
own_set entry = record {
  key = entry.0;
  attributes = entry.1.attributes;
  payload = length entry.1.bytes;
  deletes = false;
  stored = true;
}

-- the first rule of a policy's sizes and attributes that a set breaks, in the order in which sets are denied; its lock is no such rule
-- (EDK II, ValidateSetVariable; the order is this project's own)
unfoldable pub broken_rule : Policy → Question → Option Rule
broken_rule policy question =
    if is_below_min policy question then Some MinSize
    else if is_above_max policy question then Some MaxSize
    else if lacks_must policy question then Some Must
    else if has_cant policy question then Some Cant
    else None

-- whether a variable breaks the policy that counts for it, and by which rule
abbrev pub break_by : Key × Variable → Option (ℕ × Policy) → Option Break
break_by entry None = None
break_by entry (Some found) =
    option_map (λ rule. record { key = entry.0; rule = rule; place = found.0 }) (broken_rule found.1 (own_set entry))

unfoldable pub break_of : List Policy → Key × Variable → Option Break
break_of policies entry = break_by entry (best policies entry.0)

-- the variables of a map that break the policy that counts for them, in key order (this project's own)
abbrev pub audit_of : List Policy → List (Key × Variable) → List Break
audit_of policies entries = filter_map (break_of policies) entries

-- the line of a variable that breaks its policy (this project's own)
unfoldable pub break_line : Break → List ℕ
break_line broken = line_text (guid_text broken.key.guid ∷ name_text broken.key.name ∷ rule_text broken.rule ∷ decimal broken.place ∷ [])

-- an audit of so many policies: how many they are, how many variables break them, each of these, and the end (this project's own)
unfoldable pub breaks_text : ℕ → List Break → List ℕ
breaks_text count breaks =
    line_text (codes "policies" ∷ decimal count ∷ [])
    ++ (line_text (codes "violations" ∷ decimal (length breaks) ∷ []) ++ (flat_map break_line breaks ++ line_text (codes "end" ∷ [])))

-- the audit of a map by policies
abbrev pub audit_text : List Policy → List (Key × Variable) → List ℕ
audit_text policies entries = breaks_text (length policies) (audit_of policies entries)

-- a violation that was found
abbrev pub seen_break : Violation → Break
seen_break v = record { key = v.key.now; rule = v.rule; place = v.place }
