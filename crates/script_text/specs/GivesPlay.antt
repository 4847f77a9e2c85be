use Rattle.std.specs.Prelude.{◌≡◌, Result, Ok, Err}
use Rattle.script_text.specs.declared.play_fault.PlayFault.{PlayFault}
use Rattle.script_text.specs.declared.play_fault.PlayFault.TheVariants.{Line, TooLong, TooManyCalls, Actor, OutOfMemory}

-- a refusal is the one that reading finds; that it was out of memory may come at any text
abbrev pub IsPlayRefusal : {Y : Type 0} → PlayFault → Result Y PlayFault → Type 0
IsPlayRefusal OutOfMemory read = Unit {0}
IsPlayRefusal (Line number reason) read = read ≡ Err (Line number reason)
IsPlayRefusal (TooLong bytes) read = read ≡ Err (TooLong bytes)
IsPlayRefusal (TooManyCalls processor limit) read = read ≡ Err (TooManyCalls processor limit)
IsPlayRefusal (Actor line) read = read ≡ Err (Actor line)

-- what was returned is what reading finds, unless it was out of memory
abbrev pub GivesPlay : {Y : Type 0} → Result Y PlayFault → Result Y PlayFault → Type 0
GivesPlay (Ok value) read = read ≡ Ok value
GivesPlay (Err e) read = IsPlayRefusal e read
