-- The words of replies to calls about the policies.
use Rattle.std.proofs.Common.{◌≡◌, ℕ, List, [], ◌∷◌, decimal, refl}
use Rattle.var_types.specs.Texts.{bytes_text, spaced}
use Rattle.var_types.specs.declared.entry_fault.EntryFault.{EntryFault}
use Rattle.var_types.specs.declared.entry_fault.EntryFault.TheVariants as fault
use Rattle.var_types.specs.declared.policy_reason.PolicyReason.{PolicyReason}
use Rattle.var_types.specs.declared.policy_reason.PolicyReason.TheVariants as reason
use Rattle.var_types.specs.declared.policy_reply.PolicyReply.{PolicyReply}
use Rattle.var_types.specs.declared.policy_reply.PolicyReply.TheVariants as policy
use Rattle.report_text.specs.declared.status.Status.TheVariants as status
use Rattle.report_text.specs.declared.word.Word.TheVariants as word
use Rattle.report_text.specs.Status.{status_text}
use Rattle.report_text.specs.Word.{word_text}
use Rattle.report_text.specs.PolicyReplies.{entry_fault_text, policy_reason_text, policy_reply_text}
use Rattle.report_text.proofs.SameWords.{HaveWords}
use Rattle.report_text.proofs.WordBytes.{IsWord-bytes_text, IsWord-decimal, IsWord-status_text, IsWord-word_text}

-- the words of the refusal of an entry
abbrev pub entry_fault_words : EntryFault → List (List ℕ)
entry_fault_words fault.Size = status_text status.InvalidParameter ∷ word_text word.Entry ∷ word_text word.Size ∷ []
entry_fault_words fault.Version = status_text status.InvalidParameter ∷ word_text word.Entry ∷ word_text word.Version ∷ []
entry_fault_words (fault.LockType value) = status_text status.InvalidParameter ∷ word_text word.Entry ∷ word_text word.LockType ∷ decimal value ∷ []
entry_fault_words fault.NameForm = status_text status.InvalidParameter ∷ word_text word.Entry ∷ word_text word.Name ∷ []
entry_fault_words fault.Offset = status_text status.InvalidParameter ∷ word_text word.Entry ∷ word_text word.Offset ∷ []
entry_fault_words (fault.Wildcards count) = status_text status.InvalidParameter ∷ word_text word.Entry ∷ word_text word.Wildcards ∷ decimal count ∷ []
entry_fault_words fault.MinAboveMax = status_text status.InvalidParameter ∷ word_text word.Entry ∷ word_text word.MinAboveMax ∷ []
entry_fault_words fault.OutOfMemory = status_text status.NoMemory ∷ []

-- the words of a refusal
abbrev pub policy_reason_words : PolicyReason → List (List ℕ)
policy_reason_words reason.Locked = status_text status.WriteProtected ∷ word_text word.Locked ∷ []
policy_reason_words (reason.Entry f) = entry_fault_words f
policy_reason_words (reason.Already place) = status_text status.AlreadyStarted ∷ word_text word.Entry ∷ decimal place ∷ []
policy_reason_words (reason.TableFull entries) = status_text status.OutOfResources ∷ word_text word.Table ∷ decimal entries ∷ []
policy_reason_words (reason.HistoryFull made) = status_text status.OutOfResources ∷ word_text word.History ∷ decimal made ∷ []
policy_reason_words reason.AlreadyOff = status_text status.AlreadyStarted ∷ word_text word.Off ∷ []
policy_reason_words (reason.NoEntry entries) = status_text status.NotFound ∷ word_text word.Entries ∷ decimal entries ∷ []
policy_reason_words reason.OutOfMemory = status_text status.NoMemory ∷ []

-- the words of a reply
abbrev pub policy_words : PolicyReply → List (List ℕ)
policy_words policy.Ok = status_text status.Success ∷ []
policy_words policy.On = status_text status.Success ∷ word_text word.On ∷ []
policy_words policy.Off = status_text status.Success ∷ word_text word.Off ∷ []
policy_words (policy.Entry bytes) = status_text status.Success ∷ bytes_text bytes ∷ []
policy_words (policy.Refused r) = policy_reason_words r
policy_words policy.OutOfMemory = status_text status.NoMemory ∷ []

-- ---- a reply's text is its words, with a space between each two

entry_fault_text-words : (f : EntryFault) → entry_fault_text f ≡ spaced (entry_fault_words f)
unfolding entry_fault_text
entry_fault_text-words fault.Size = refl
entry_fault_text-words fault.Version = refl
entry_fault_text-words (fault.LockType value) = refl
entry_fault_text-words fault.NameForm = refl
entry_fault_text-words fault.Offset = refl
entry_fault_text-words (fault.Wildcards count) = refl
entry_fault_text-words fault.MinAboveMax = refl
entry_fault_text-words fault.OutOfMemory = refl

policy_reason_text-words : (r : PolicyReason) → policy_reason_text r ≡ spaced (policy_reason_words r)
unfolding policy_reason_text
policy_reason_text-words reason.Locked = refl
policy_reason_text-words (reason.Entry f) = entry_fault_text-words f
policy_reason_text-words (reason.Already place) = refl
policy_reason_text-words (reason.TableFull entries) = refl
policy_reason_text-words (reason.HistoryFull made) = refl
policy_reason_text-words reason.AlreadyOff = refl
policy_reason_text-words (reason.NoEntry entries) = refl
policy_reason_text-words reason.OutOfMemory = refl

pub policy_reply_text-words : (r : PolicyReply) → policy_reply_text r ≡ spaced (policy_words r)
unfolding policy_reply_text
policy_reply_text-words policy.Ok = refl
policy_reply_text-words policy.On = refl
policy_reply_text-words policy.Off = refl
policy_reply_text-words (policy.Entry bytes) = refl
policy_reply_text-words (policy.Refused r) = policy_reason_text-words r
policy_reply_text-words policy.OutOfMemory = refl

-- ---- they are words, at least one

HaveWords-entry_fault : (f : EntryFault) → HaveWords (entry_fault_words f)
HaveWords-entry_fault fault.Size = (IsWord-status_text _, (IsWord-word_text _, (IsWord-word_text _, tt)))
HaveWords-entry_fault fault.Version = (IsWord-status_text _, (IsWord-word_text _, (IsWord-word_text _, tt)))
HaveWords-entry_fault (fault.LockType value) = (IsWord-status_text _, (IsWord-word_text _, (IsWord-word_text _, (IsWord-decimal value, tt))))
HaveWords-entry_fault fault.NameForm = (IsWord-status_text _, (IsWord-word_text _, (IsWord-word_text _, tt)))
HaveWords-entry_fault fault.Offset = (IsWord-status_text _, (IsWord-word_text _, (IsWord-word_text _, tt)))
HaveWords-entry_fault (fault.Wildcards count) = (IsWord-status_text _, (IsWord-word_text _, (IsWord-word_text _, (IsWord-decimal count, tt))))
HaveWords-entry_fault fault.MinAboveMax = (IsWord-status_text _, (IsWord-word_text _, (IsWord-word_text _, tt)))
HaveWords-entry_fault fault.OutOfMemory = (IsWord-status_text _, tt)

HaveWords-policy_reason : (r : PolicyReason) → HaveWords (policy_reason_words r)
HaveWords-policy_reason reason.Locked = (IsWord-status_text _, (IsWord-word_text _, tt))
HaveWords-policy_reason (reason.Entry f) = HaveWords-entry_fault f
HaveWords-policy_reason (reason.Already place) = (IsWord-status_text _, (IsWord-word_text _, (IsWord-decimal place, tt)))
HaveWords-policy_reason (reason.TableFull entries) = (IsWord-status_text _, (IsWord-word_text _, (IsWord-decimal entries, tt)))
HaveWords-policy_reason (reason.HistoryFull made) = (IsWord-status_text _, (IsWord-word_text _, (IsWord-decimal made, tt)))
HaveWords-policy_reason reason.AlreadyOff = (IsWord-status_text _, (IsWord-word_text _, tt))
HaveWords-policy_reason (reason.NoEntry entries) = (IsWord-status_text _, (IsWord-word_text _, (IsWord-decimal entries, tt)))
HaveWords-policy_reason reason.OutOfMemory = (IsWord-status_text _, tt)

pub HaveWords-policy : (r : PolicyReply) → HaveWords (policy_words r)
HaveWords-policy policy.Ok = (IsWord-status_text _, tt)
HaveWords-policy policy.On = (IsWord-status_text _, (IsWord-word_text _, tt))
HaveWords-policy policy.Off = (IsWord-status_text _, (IsWord-word_text _, tt))
HaveWords-policy (policy.Entry bytes) = (IsWord-status_text _, (IsWord-bytes_text bytes, tt))
HaveWords-policy (policy.Refused r) = HaveWords-policy_reason r
HaveWords-policy policy.OutOfMemory = (IsWord-status_text _, tt)
