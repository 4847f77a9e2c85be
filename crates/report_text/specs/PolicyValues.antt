-- The parts of replies to calls about the policies are values of their types, as those of a program always are.
use Rattle.std.specs.Prelude.{◌^◌, ◌<◌}
use Rattle.var_types.specs.declared.entry_fault.EntryFault.{EntryFault}
use Rattle.var_types.specs.declared.entry_fault.EntryFault.TheVariants as fault
use Rattle.var_types.specs.declared.policy_reason.PolicyReason.{PolicyReason}
use Rattle.var_types.specs.declared.policy_reason.PolicyReason.TheVariants as reason
use Rattle.var_types.specs.declared.policy_reply.PolicyReply.{PolicyReply}
use Rattle.var_types.specs.declared.policy_reply.PolicyReply.TheVariants as policy
use Rattle.var_types.specs.Values.{AreBytes}

-- the numbers of an entry's fault
abbrev pub HasValuesOfEntryFault : EntryFault → Type 0
HasValuesOfEntryFault (fault.LockType value) = value < 2 ^ 8
HasValuesOfEntryFault (fault.Wildcards count) = count < 2 ^ 32
HasValuesOfEntryFault _ = Unit {0}

-- those of a refusal
abbrev pub HasValuesOfPolicyReason : PolicyReason → Type 0
HasValuesOfPolicyReason (reason.Entry fault) = HasValuesOfEntryFault fault
HasValuesOfPolicyReason (reason.Already place) = place < 2 ^ 32
HasValuesOfPolicyReason (reason.TableFull entries) = entries < 2 ^ 32
HasValuesOfPolicyReason (reason.HistoryFull made) = made < 2 ^ 64
HasValuesOfPolicyReason (reason.NoEntry entries) = entries < 2 ^ 32
HasValuesOfPolicyReason _ = Unit {0}

-- the parts of a reply
abbrev pub HasValuesOfPolicy : PolicyReply → Type 0
HasValuesOfPolicy (policy.Entry bytes) = AreBytes bytes
HasValuesOfPolicy (policy.Refused reason) = HasValuesOfPolicyReason reason
HasValuesOfPolicy _ = Unit {0}
