use Rattle.std.specs.Prelude.{◌≡◌, ℕ, Result, Ok, Err}
use Rattle.policy_audit.specs.declared.policy_line.PolicyLine.{PolicyLine}
use Rattle.policy_audit.specs.declared.policy_line_fault.PolicyLineFault.{PolicyLineFault}
use Rattle.policy_audit.specs.declared.policy_line_fault.PolicyLineFault.TheVariants as line
use Rattle.policy_audit.specs.declared.policy_text_fault.PolicyTextFault.{PolicyTextFault}
use Rattle.policy_audit.specs.declared.policy_text_fault.PolicyTextFault.TheVariants as text

-- a refusal is the one that reading finds; that it was out of memory may come at any line
abbrev pub IsLineRefusal : {Y : Type 0} → PolicyLineFault → Result Y PolicyLine → Type 0
IsLineRefusal line.OutOfMemory read = Unit {0}
IsLineRefusal (line.Reason why) read = read ≡ Err why

-- what was returned is what reading finds, unless it was out of memory
abbrev pub GivesLine : {Y : Type 0} → Result Y PolicyLineFault → Result Y PolicyLine → Type 0
GivesLine (Ok value) read = read ≡ Ok value
GivesLine (Err e) read = IsLineRefusal e read

-- the same of a text
abbrev pub IsTextRefusal : {Y : Type 0} → PolicyTextFault → Result Y PolicyTextFault → Type 0
IsTextRefusal text.OutOfMemory read = Unit {0}
IsTextRefusal (text.TooLong bytes) read = read ≡ Err (text.TooLong bytes)
IsTextRefusal (text.Line number why) read = read ≡ Err (text.Line number why)

abbrev pub GivesText : {Y : Type 0} → Result Y PolicyTextFault → Result Y PolicyTextFault → Type 0
GivesText (Ok value) read = read ≡ Ok value
GivesText (Err e) read = IsTextRefusal e read

-- the fault of a text whose line of this number was not read
abbrev pub fault_at : ℕ → PolicyLineFault → PolicyTextFault
fault_at number (line.Reason why) = text.Line number why
fault_at number line.OutOfMemory = text.OutOfMemory
