use Rattle.std.specs.Prelude.{◌+◌, true, nat_le, if◌then◌else◌}
use Rattle.var_types.specs.declared.reply.ExitReply.{ExitReply}
use Rattle.var_types.specs.declared.reply.ExitReply.TheVariants.{Ok as Ended, Same, HistoryFull}
use Rattle.var_types.specs.State.{State}

-- the exit rule: the end of the boot phase, which is a change; at runtime nothing changes (UEFI 2.10, 7.4, ExitBootServices; the limit of
-- the history is this project's own)
unfoldable pub exit_step : State → ExitReply × State
exit_step state =
    if state.runtime then (Same, state)
    else if nat_le state.limit state.made then (HistoryFull state.made, state)
    else (Ended, record state { runtime = true; made = state.made + 1 })
