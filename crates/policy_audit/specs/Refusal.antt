-- The line for a refused policy text.
use Rattle.std.specs.Prelude.{ℕ, List, [], ◌∷◌, codes, decimal}
use Rattle.report_text.specs.Line.{line_text}
use Rattle.policy_audit.specs.declared.policy_line.PolicyLine.{PolicyLine}
use Rattle.policy_audit.specs.declared.policy_line.PolicyLine.TheVariants as reason
use Rattle.policy_audit.specs.declared.policy_text_fault.PolicyTextFault.{PolicyTextFault}
use Rattle.policy_audit.specs.declared.policy_text_fault.PolicyTextFault.TheVariants as fault

-- the word of a reason (this project's own)
unfoldable pub reason_text : PolicyLine → List ℕ
reason_text reason.Text = codes "text"
reason_text reason.Words = codes "words"
reason_text reason.Guid = codes "guid"
reason_text reason.Name = codes "name"
reason_text reason.Number = codes "number"
reason_text reason.Lock = codes "lock"
reason_text reason.Entry = codes "entry"
reason_text reason.Duplicate = codes "duplicate"
reason_text reason.Table = codes "table"

-- the line for a refused policy text (this project's own)
unfoldable pub refusal_line : PolicyTextFault → List ℕ
refusal_line (fault.Line number why) = line_text (codes "policy" ∷ codes "line" ∷ decimal number ∷ reason_text why ∷ [])
refusal_line (fault.TooLong bytes) = line_text (codes "policy" ∷ codes "bytes" ∷ decimal bytes ∷ [])
refusal_line fault.OutOfMemory = line_text (codes "no" ∷ codes "memory" ∷ [])
