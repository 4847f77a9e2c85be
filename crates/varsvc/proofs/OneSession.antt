use Rattle.std.proofs.Common.{◌≡◌, List, map, Result, Ok}
use Rattle.report_text.proofs.OneSession.{same_session}
use Rattle.report_text.specs.Session.{history_from}
use Rattle.script_text.specs.declared.script_fault.ScriptFault.{ScriptFault}
use Rattle.script_text.specs.Script.{script_of}
use Rattle.var_types.specs.declared.call.Call.{Call}
use Rattle.var_types.specs.Session.{calls_of}
use Rattle.varsvc.specs.Runs.{OneTextOneSession}

-- a script has one list of calls
same_calls : (script : Result (List (List Call)) ScriptFault) (c d : List (List Call)) → script ≡ Ok c → script ≡ Ok d → c ≡ d
same_calls script c d h k = cc

-- a report tells the session
pub one_session : OneTextOneSession
one_session input xs ys of_xs of_ys fit_xs fit_ys e =
    same_session (history_from 0 xs) (history_from 0 ys) xs ys (same_calls (script_of input) (map calls_of xs) (map calls_of ys) of_xs of_ys) fit_xs fit_ys e
