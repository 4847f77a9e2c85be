-- The texts of replies to calls about the policies.
use Rattle.std.specs.Prelude.{ℕ, List, [], ◌∷◌, decimal}
use Rattle.var_types.specs.Texts.{bytes_text, spaced}
use Rattle.var_types.specs.declared.entry_fault.EntryFault.{EntryFault}
use Rattle.var_types.specs.declared.entry_fault.EntryFault.TheVariants as fault
use Rattle.var_types.specs.declared.policy_reason.PolicyReason.{PolicyReason}
use Rattle.var_types.specs.declared.policy_reason.PolicyReason.TheVariants as reason
use Rattle.var_types.specs.declared.policy_reply.PolicyReply.{PolicyReply}
use Rattle.var_types.specs.declared.policy_reply.PolicyReply.TheVariants as policy
use Rattle.report_text.specs.declared.status.Status.TheVariants as status
use Rattle.report_text.specs.declared.word.Word.TheVariants as word
use Rattle.report_text.specs.Status.{status_text}
use Rattle.report_text.specs.Word.{word_text}

-- the refusal of bytes that are no policy's entry (EDK II, RegisterVariablePolicy; the reasons are this project's own)
unfoldable pub entry_fault_text : EntryFault → List ℕ
entry_fault_text fault.Size = spaced (status_text status.InvalidParameter ∷ word_text word.Entry ∷ word_text word.Size ∷ [])
entry_fault_text fault.Version = spaced (status_text status.InvalidParameter ∷ word_text word.Entry ∷ word_text word.Version ∷ [])
entry_fault_text (fault.LockType value) =
    spaced (status_text status.InvalidParameter ∷ word_text word.Entry ∷ word_text word.LockType ∷ decimal value ∷ [])
entry_fault_text fault.NameForm = spaced (status_text status.InvalidParameter ∷ word_text word.Entry ∷ word_text word.Name ∷ [])
entry_fault_text fault.Offset = spaced (status_text status.InvalidParameter ∷ word_text word.Entry ∷ word_text word.Offset ∷ [])
entry_fault_text (fault.Wildcards count) =
    spaced (status_text status.InvalidParameter ∷ word_text word.Entry ∷ word_text word.Wildcards ∷ decimal count ∷ [])
entry_fault_text fault.MinAboveMax = spaced (status_text status.InvalidParameter ∷ word_text word.Entry ∷ word_text word.MinAboveMax ∷ [])
entry_fault_text fault.OutOfMemory = spaced (status_text status.NoMemory ∷ [])

-- the refusal of a call about the policies: the status as EDK II names it, and this project's reason with its number (EDK II,
-- VariablePolicyLib)
unfoldable pub policy_reason_text : PolicyReason → List ℕ
policy_reason_text reason.Locked = spaced (status_text status.WriteProtected ∷ word_text word.Locked ∷ [])
policy_reason_text (reason.Entry fault) = entry_fault_text fault
policy_reason_text (reason.Already place) = spaced (status_text status.AlreadyStarted ∷ word_text word.Entry ∷ decimal place ∷ [])
policy_reason_text (reason.TableFull entries) = spaced (status_text status.OutOfResources ∷ word_text word.Table ∷ decimal entries ∷ [])
policy_reason_text (reason.HistoryFull made) = spaced (status_text status.OutOfResources ∷ word_text word.History ∷ decimal made ∷ [])
policy_reason_text reason.AlreadyOff = spaced (status_text status.AlreadyStarted ∷ word_text word.Off ∷ [])
policy_reason_text (reason.NoEntry entries) = spaced (status_text status.NotFound ∷ word_text word.Entries ∷ decimal entries ∷ [])
policy_reason_text reason.OutOfMemory = spaced (status_text status.NoMemory ∷ [])

-- the reply to a call about the policies (EDK II, EDKII_VARIABLE_POLICY_PROTOCOL)
unfoldable pub policy_reply_text : PolicyReply → List ℕ
policy_reply_text policy.Ok = spaced (status_text status.Success ∷ [])
policy_reply_text policy.On = spaced (status_text status.Success ∷ word_text word.On ∷ [])
policy_reply_text policy.Off = spaced (status_text status.Success ∷ word_text word.Off ∷ [])
policy_reply_text (policy.Entry bytes) = spaced (status_text status.Success ∷ bytes_text bytes ∷ [])
policy_reply_text (policy.Refused reason) = policy_reason_text reason
policy_reply_text policy.OutOfMemory = spaced (status_text status.NoMemory ∷ [])
