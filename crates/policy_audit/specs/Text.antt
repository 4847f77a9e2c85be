-- The policies of a text.
use Rattle.std.specs.Prelude.{ℕ, ◌+◌, List, [], ◌∷◌, ◌++◌, length, nat_le, nat_lt, if◌then◌else◌, Option, Some, None, Result, Ok, Err}
use Rattle.std.specs.List.{list_any}
use Rattle.std.specs.Str.Lines.{lines}
use Rattle.script_text.specs.Words.{◌>>=◌}
use Rattle.var_types.specs.declared.policy.Policy.{Policy}
use Rattle.var_types.specs.PolicyStep.{is_same_entry, most_policies}
use Rattle.policy_audit.specs.declared.policy_line.PolicyLine.{PolicyLine}
use Rattle.policy_audit.specs.declared.policy_line.PolicyLine.TheVariants as reason
use Rattle.policy_audit.specs.declared.policy_text_fault.PolicyTextFault.{PolicyTextFault}
use Rattle.policy_audit.specs.declared.policy_text_fault.PolicyTextFault.TheVariants.{Line, TooLong}
use Rattle.policy_audit.specs.Words.{line_policy}

-- the most bytes of a policy text (this project's own)
abbrev pub most_text_bytes : ℕ
most_text_bytes = 1048576

-- policies with one more behind them, if none of them has its namespace and name and there are fewer than 1,024 (EDK II,
-- RegisterVariablePolicy; the order and the bound are this project's own)
unfoldable pub added : List Policy → Policy → Result (List Policy) PolicyLine
added before policy =
    if list_any (is_same_entry policy) before then Err reason.Duplicate
    else if nat_le most_policies (length before) then Err reason.Table
    else Ok (before ++ policy ∷ [])

-- what a line leaves, which is refused by its number
abbrev pub at_line : ℕ → Result (List Policy) PolicyLine → Result (List Policy) PolicyTextFault
at_line number (Ok policies) = Ok policies
at_line number (Err why) = Err (Line number why)

-- the policies behind a line
abbrev pub after_line : ℕ → List Policy → Result (Option Policy) PolicyLine → Result (List Policy) PolicyTextFault
after_line number before (Err why) = Err (Line number why)
after_line number before (Ok None) = Ok before
after_line number before (Ok (Some policy)) = at_line number (added before policy)

-- the policies behind lines that are numbered from here on, or the first refusal
unfoldable pub policies_from : ℕ → List Policy → List (List ℕ) → Result (List Policy) PolicyTextFault
policies_from number before [] = Ok before
policies_from number before (line ∷ rest) = after_line number before (line_policy line) >>= λ after. policies_from (number + 1) after rest

-- the policies of a text in the order of its lines, or its first refusal: too many bytes; then, line by line, a bad line, one whose namespace
-- and name an earlier one has, or one policy too many (this project's own)
unfoldable pub policies_of : List ℕ → Result (List Policy) PolicyTextFault
policies_of text =
    if nat_lt most_text_bytes (length text) then Err (TooLong most_text_bytes) else policies_from 1 [] (lines text)
