use Rattle.std.specs.Prelude.{ℕ, List, [], ◌∷◌, decimal}
use Rattle.var_types.specs.Texts.{attributes_text, bytes_text, name_text, spaced}
use Rattle.var_types.specs.Guid.{guid_text}
use Rattle.var_types.specs.declared.name.NameFault.{NameFault}
use Rattle.var_types.specs.declared.name.NameFault.TheVariants as name
use Rattle.var_types.specs.declared.set_reason.SetReason.{SetReason}
use Rattle.var_types.specs.declared.set_reason.SetReason.TheVariants as reason
use Rattle.var_types.specs.declared.ask.Rule.{Rule}
use Rattle.var_types.specs.declared.ask.Rule.TheVariants as rules
use Rattle.var_types.specs.declared.reply.ExitReply.{ExitReply}
use Rattle.var_types.specs.declared.reply.ExitReply.TheVariants as exit
use Rattle.var_types.specs.declared.reply.GetReply.{GetReply}
use Rattle.var_types.specs.declared.reply.GetReply.TheVariants as get
use Rattle.var_types.specs.declared.reply.NextReply.{NextReply}
use Rattle.var_types.specs.declared.reply.NextReply.TheVariants as next
use Rattle.var_types.specs.declared.reply.Reply.{Reply}
use Rattle.var_types.specs.declared.reply.Reply.TheVariants as reply
use Rattle.var_types.specs.declared.reply.SetReply.{SetReply}
use Rattle.var_types.specs.declared.reply.SetReply.TheVariants as set
use Rattle.report_text.specs.declared.status.Status.{Status}
use Rattle.report_text.specs.declared.status.Status.TheVariants as status
use Rattle.report_text.specs.declared.word.Word.TheVariants as word
use Rattle.report_text.specs.PolicyReplies.{policy_reply_text}
use Rattle.report_text.specs.Rule.{rule_text}
use Rattle.report_text.specs.Status.{status_text}
use Rattle.report_text.specs.Word.{word_text}

-- the reply of GetVariable: the status as UEFI names it, the attributes, and the bytes or how many are needed (UEFI 2.10, 8.2.1)
unfoldable pub get_reply_text : GetReply → List ℕ
get_reply_text get.NotFound = spaced (status_text status.NotFound ∷ [])
get_reply_text (get.TooSmall attributes needed) =
    spaced (status_text status.BufferTooSmall ∷ attributes_text attributes ∷ decimal needed ∷ [])
get_reply_text (get.Ok attributes bytes) = spaced (status_text status.Success ∷ attributes_text attributes ∷ bytes_text bytes ∷ [])
get_reply_text get.OutOfMemory = spaced (status_text status.NoMemory ∷ [])

-- the reply of GetNextVariableName: the status as UEFI names it, and the next key or how many bytes its name needs (UEFI 2.10, 8.2.2)
unfoldable pub next_reply_text : NextReply → List ℕ
next_reply_text next.NoSuch = spaced (status_text status.InvalidParameter ∷ word_text word.NoSuch ∷ [])
next_reply_text next.End = spaced (status_text status.NotFound ∷ word_text word.End ∷ [])
next_reply_text (next.TooSmall needed) = spaced (status_text status.BufferTooSmall ∷ decimal needed ∷ [])
next_reply_text (next.Ok key) = spaced (status_text status.Success ∷ guid_text key.guid ∷ name_text key.name ∷ [])
next_reply_text next.OutOfMemory = spaced (status_text status.NoMemory ∷ [])

-- the refusal of an ill-formed name
unfoldable pub name_fault_text : NameFault → List ℕ
name_fault_text name.Empty = spaced (status_text status.InvalidParameter ∷ word_text word.Name ∷ word_text word.Empty ∷ [])
name_fault_text (name.TooLong units) =
    spaced (status_text status.InvalidParameter ∷ word_text word.Name ∷ word_text word.Long ∷ decimal units ∷ [])
name_fault_text (name.InnerNul at) =
    spaced (status_text status.InvalidParameter ∷ word_text word.Name ∷ word_text word.Nul ∷ decimal at ∷ [])

-- the status of a denial by a rule of a policy (EDK II, ValidateSetVariable)
abbrev pub rule_status : Rule → Status
rule_status rules.MinSize = status.InvalidParameter
rule_status rules.MaxSize = status.InvalidParameter
rule_status rules.Must = status.InvalidParameter
rule_status rules.Cant = status.InvalidParameter
rule_status rules.LockNow = status.WriteProtected
rule_status rules.LockOnCreate = status.WriteProtected
rule_status rules.LockOnState = status.WriteProtected

-- the refusal of a set: the status as UEFI names it, and this project's reason with its numbers; stamps have their 32 digits (UEFI 2.10, 8.2.3)
unfoldable pub reason_text : SetReason → List ℕ
reason_text (reason.Name fault) = name_fault_text fault
reason_text (reason.Unsupported bits) = spaced (status_text status.Unsupported ∷ word_text word.Bits ∷ attributes_text bits ∷ [])
reason_text (reason.Unknown bits) = spaced (status_text status.InvalidParameter ∷ word_text word.Bits ∷ attributes_text bits ∷ [])
reason_text reason.RuntimeWithoutBoot = spaced (status_text status.InvalidParameter ∷ word_text word.RuntimeWithoutBoot ∷ [])
reason_text reason.Hidden = spaced (status_text status.InvalidParameter ∷ word_text word.Hidden ∷ [])
reason_text reason.VolatileAtRuntime = spaced (status_text status.WriteProtected ∷ word_text word.Volatile ∷ [])
reason_text reason.RuntimeNeedsNonVolatile = spaced (status_text status.InvalidParameter ∷ word_text word.RuntimeNeedsNonVolatile ∷ [])
reason_text (reason.Descriptor at) = spaced (status_text status.SecurityViolation ∷ word_text word.Descriptor ∷ decimal at ∷ [])
reason_text (reason.Size have limit) = spaced (status_text status.InvalidParameter ∷ word_text word.Size ∷ decimal have ∷ decimal limit ∷ [])
reason_text (reason.Denied place rule) = spaced (status_text (rule_status rule) ∷ word_text word.Denied ∷ decimal place ∷ rule_text rule ∷ [])
reason_text reason.Missing = spaced (status_text status.NotFound ∷ word_text word.Missing ∷ [])
reason_text reason.NeedsAuthentication = spaced (status_text status.WriteProtected ∷ word_text word.Authentication ∷ [])
reason_text (reason.AttributesDiffer stored asked) = spaced (status_text status.InvalidParameter ∷ word_text word.Attributes ∷ attributes_text stored ∷ attributes_text asked ∷ [])
reason_text reason.Verdict = spaced (status_text status.SecurityViolation ∷ word_text word.Verdict ∷ [])
reason_text (reason.Stamp stored new) = spaced (status_text status.SecurityViolation ∷ word_text word.Stamp ∷ bytes_text stored.bytes ∷ bytes_text new.bytes ∷ [])
reason_text (reason.AppendSize have limit) = spaced (status_text status.InvalidParameter ∷ word_text word.AppendSize ∷ decimal have ∷ decimal limit ∷ [])
reason_text (reason.Room need have) = spaced (status_text status.OutOfResources ∷ word_text word.Room ∷ decimal need ∷ decimal have ∷ [])
reason_text (reason.HistoryFull made) = spaced (status_text status.OutOfResources ∷ word_text word.History ∷ decimal made ∷ [])

-- the reply of SetVariable (UEFI 2.10, 8.2.3)
unfoldable pub set_reply_text : SetReply → List ℕ
set_reply_text set.Ok = spaced (status_text status.Success ∷ [])
set_reply_text set.Same = spaced (status_text status.Success ∷ word_text word.Same ∷ [])
set_reply_text (set.Refused reason) = reason_text reason
set_reply_text set.Device = spaced (status_text status.DeviceError ∷ [])
set_reply_text set.OutOfMemory = spaced (status_text status.NoMemory ∷ [])

-- the reply to the end of the boot phase (UEFI 2.10, 7.4, ExitBootServices)
unfoldable pub exit_reply_text : ExitReply → List ℕ
exit_reply_text exit.Ok = spaced (status_text status.Success ∷ [])
exit_reply_text exit.Same = spaced (status_text status.Success ∷ word_text word.Same ∷ [])
exit_reply_text (exit.HistoryFull made) = spaced (status_text status.OutOfResources ∷ word_text word.History ∷ decimal made ∷ [])

-- the text of a reply
unfoldable pub reply_text : Reply → List ℕ
reply_text (reply.Get r) = get_reply_text r
reply_text (reply.Next r) = next_reply_text r
reply_text (reply.Set r) = set_reply_text r
reply_text (reply.Policy r) = policy_reply_text r
reply_text (reply.Exit r) = exit_reply_text r
