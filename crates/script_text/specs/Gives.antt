use Rattle.std.specs.Prelude.{◌≡◌, Result, Ok, Err}
use Rattle.script_text.specs.declared.script_fault.ScriptFault.{ScriptFault}
use Rattle.script_text.specs.declared.script_fault.ScriptFault.TheVariants as fault

-- a refusal is the one that reading finds; that it was out of memory may come at any text
abbrev pub IsRefusal : {Y : Type 0} → ScriptFault → Result Y ScriptFault → Type 0
IsRefusal fault.OutOfMemory read = Unit {0}
IsRefusal (fault.Line number reason) read = read ≡ Err (fault.Line number reason)
IsRefusal (fault.TooLong bytes) read = read ≡ Err (fault.TooLong bytes)
IsRefusal (fault.TooManyCalls processor limit) read = read ≡ Err (fault.TooManyCalls processor limit)

-- what was returned is what reading finds, unless it was out of memory
abbrev pub Gives : {Y : Type 0} → Result Y ScriptFault → Result Y ScriptFault → Type 0
Gives (Ok value) read = read ≡ Ok value
Gives (Err e) read = IsRefusal e read
