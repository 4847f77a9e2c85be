use Rattle.std.specs.Prelude.{◌≡◌, Result, Ok, Err}
use Rattle.script_text.specs.declared.line_fault.LineFault.{LineFault}
use Rattle.script_text.specs.declared.line_fault.LineFault.TheVariants.{Reason, OutOfMemory}
use Rattle.script_text.specs.declared.line_reason.LineReason.{LineReason}

-- a refusal is the one that reading finds; that it was out of memory may come at any line
abbrev pub IsLineRefusal : {Y : Type 0} → LineFault → Result Y LineReason → Type 0
IsLineRefusal OutOfMemory read = Unit {0}
IsLineRefusal (Reason reason) read = read ≡ Err reason

-- what was returned is what reading finds, unless it was out of memory
abbrev pub GivesLine : {Y : Type 0} → Result Y LineFault → Result Y LineReason → Type 0
GivesLine (Ok value) read = read ≡ Ok value
GivesLine (Err e) read = IsLineRefusal e read
