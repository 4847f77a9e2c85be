-- The refusals of scripts among those of scripts with a schedule.
use Rattle.script_text.specs.declared.play_fault.PlayFault.{PlayFault}
use Rattle.script_text.specs.declared.play_fault.PlayFault.TheVariants as play
use Rattle.script_text.specs.declared.script_fault.ScriptFault.{ScriptFault}
use Rattle.script_text.specs.declared.script_fault.ScriptFault.TheVariants as script

-- a script's refusal, as one of a script with a schedule
abbrev pub as_play_fault : ScriptFault → PlayFault
as_play_fault (script.Line number reason) = play.Line number reason
as_play_fault (script.TooLong bytes) = play.TooLong bytes
as_play_fault (script.TooManyCalls processor limit) = play.TooManyCalls processor limit
as_play_fault script.OutOfMemory = play.OutOfMemory
