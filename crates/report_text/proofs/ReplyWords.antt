use Rattle.std.proofs.Common.{◌≡◌, ℕ, List, [], ◌∷◌, decimal, refl}
use Rattle.var_types.specs.Texts.{attributes_text, bytes_text, name_text, spaced}
use Rattle.var_types.specs.Guid.{guid_text}
use Rattle.var_types.specs.declared.name.NameFault.{NameFault}
use Rattle.var_types.specs.declared.name.NameFault.TheVariants as name
use Rattle.var_types.specs.declared.set_reason.SetReason.{SetReason}
use Rattle.var_types.specs.declared.set_reason.SetReason.TheVariants as reason
use Rattle.var_types.specs.declared.reply.ExitReply.{ExitReply}
use Rattle.var_types.specs.declared.reply.ExitReply.TheVariants as exit
use Rattle.var_types.specs.declared.reply.GetReply.{GetReply}
use Rattle.var_types.specs.declared.reply.GetReply.TheVariants as get
use Rattle.var_types.specs.declared.reply.NextReply.{NextReply}
use Rattle.var_types.specs.declared.reply.NextReply.TheVariants as next
use Rattle.var_types.specs.declared.reply.Reply.{Reply}
use Rattle.var_types.specs.declared.reply.Reply.TheVariants as reply
use Rattle.var_types.specs.declared.reply.SetReply.{SetReply}
use Rattle.var_types.specs.declared.reply.SetReply.TheVariants as set
use Rattle.report_text.specs.declared.status.Status.TheVariants as status
use Rattle.report_text.specs.declared.word.Word.TheVariants as word
use Rattle.report_text.specs.Replies.{exit_reply_text, get_reply_text, next_reply_text, name_fault_text, reason_text, rule_status, set_reply_text, reply_text}
use Rattle.report_text.specs.Rule.{rule_text}
use Rattle.report_text.specs.Status.{status_text}
use Rattle.report_text.specs.Word.{word_text}
use Rattle.report_text.proofs.PolicyWords.{HaveWords-policy, policy_reply_text-words, policy_words}
use Rattle.report_text.proofs.SameWords.{HaveWords}
use Rattle.report_text.proofs.WordBytes.{AreWords, IsWord-attributes_text, IsWord-bytes_text, IsWord-decimal, IsWord-guid_text, IsWord-name_text, IsWord-rule_text, IsWord-status_text, IsWord-word_text}

-- ---- the words of replies

-- the words of a get's reply
abbrev pub get_words : GetReply → List (List ℕ)
get_words get.NotFound = status_text status.NotFound ∷ []
get_words (get.TooSmall attributes needed) = status_text status.BufferTooSmall ∷ attributes_text attributes ∷ decimal needed ∷ []
get_words (get.Ok attributes bytes) = status_text status.Success ∷ attributes_text attributes ∷ bytes_text bytes ∷ []
get_words get.OutOfMemory = status_text status.NoMemory ∷ []

-- the words of a next's reply
abbrev pub next_words : NextReply → List (List ℕ)
next_words next.NoSuch = status_text status.InvalidParameter ∷ word_text word.NoSuch ∷ []
next_words next.End = status_text status.NotFound ∷ word_text word.End ∷ []
next_words (next.TooSmall needed) = status_text status.BufferTooSmall ∷ decimal needed ∷ []
next_words (next.Ok key) = status_text status.Success ∷ guid_text key.guid ∷ name_text key.name ∷ []
next_words next.OutOfMemory = status_text status.NoMemory ∷ []

-- the words of a name's fault behind the first two
abbrev pub fault_words : NameFault → List (List ℕ)
fault_words name.Empty = word_text word.Empty ∷ []
fault_words (name.TooLong units) = word_text word.Long ∷ decimal units ∷ []
fault_words (name.InnerNul at) = word_text word.Nul ∷ decimal at ∷ []

-- the words of a refusal
abbrev pub reason_words : SetReason → List (List ℕ)
reason_words (reason.Name fault) = status_text status.InvalidParameter ∷ word_text word.Name ∷ fault_words fault
reason_words (reason.Unsupported bits) = status_text status.Unsupported ∷ word_text word.Bits ∷ attributes_text bits ∷ []
reason_words (reason.Unknown bits) = status_text status.InvalidParameter ∷ word_text word.Bits ∷ attributes_text bits ∷ []
reason_words reason.RuntimeWithoutBoot = status_text status.InvalidParameter ∷ word_text word.RuntimeWithoutBoot ∷ []
reason_words reason.Hidden = status_text status.InvalidParameter ∷ word_text word.Hidden ∷ []
reason_words reason.VolatileAtRuntime = status_text status.WriteProtected ∷ word_text word.Volatile ∷ []
reason_words reason.RuntimeNeedsNonVolatile = status_text status.InvalidParameter ∷ word_text word.RuntimeNeedsNonVolatile ∷ []
reason_words (reason.Descriptor at) = status_text status.SecurityViolation ∷ word_text word.Descriptor ∷ decimal at ∷ []
reason_words (reason.Size have limit) = status_text status.InvalidParameter ∷ word_text word.Size ∷ decimal have ∷ decimal limit ∷ []
reason_words (reason.Denied place rule) = status_text (rule_status rule) ∷ word_text word.Denied ∷ decimal place ∷ rule_text rule ∷ []
reason_words reason.Missing = status_text status.NotFound ∷ word_text word.Missing ∷ []
reason_words reason.NeedsAuthentication = status_text status.WriteProtected ∷ word_text word.Authentication ∷ []
reason_words (reason.AttributesDiffer stored asked) = status_text status.InvalidParameter ∷ word_text word.Attributes ∷ attributes_text stored ∷ attributes_text asked ∷ []
reason_words reason.Verdict = status_text status.SecurityViolation ∷ word_text word.Verdict ∷ []
reason_words (reason.Stamp stored new) = status_text status.SecurityViolation ∷ word_text word.Stamp ∷ bytes_text stored.bytes ∷ bytes_text new.bytes ∷ []
reason_words (reason.AppendSize have limit) = status_text status.InvalidParameter ∷ word_text word.AppendSize ∷ decimal have ∷ decimal limit ∷ []
reason_words (reason.Room need have) = status_text status.OutOfResources ∷ word_text word.Room ∷ decimal need ∷ decimal have ∷ []
reason_words (reason.HistoryFull made) = status_text status.OutOfResources ∷ word_text word.History ∷ decimal made ∷ []

-- the words of a set's reply
abbrev pub set_words : SetReply → List (List ℕ)
set_words set.Ok = status_text status.Success ∷ []
set_words set.Same = status_text status.Success ∷ word_text word.Same ∷ []
set_words (set.Refused reason) = reason_words reason
set_words set.Device = status_text status.DeviceError ∷ []
set_words set.OutOfMemory = status_text status.NoMemory ∷ []

-- the words of the reply to the end of the boot phase
abbrev pub exit_words : ExitReply → List (List ℕ)
exit_words exit.Ok = status_text status.Success ∷ []
exit_words exit.Same = status_text status.Success ∷ word_text word.Same ∷ []
exit_words (exit.HistoryFull made) = status_text status.OutOfResources ∷ word_text word.History ∷ decimal made ∷ []

-- the words of a reply
abbrev pub reply_words : Reply → List (List ℕ)
reply_words (reply.Get r) = get_words r
reply_words (reply.Next r) = next_words r
reply_words (reply.Set r) = set_words r
reply_words (reply.Policy r) = policy_words r
reply_words (reply.Exit r) = exit_words r

-- ---- a reply's text is its words, with a space between each two

-- a get's
get_reply_text-words : (r : GetReply) → get_reply_text r ≡ spaced (get_words r)
unfolding get_reply_text
get_reply_text-words get.NotFound = refl
get_reply_text-words (get.TooSmall attributes needed) = refl
get_reply_text-words (get.Ok attributes bytes) = refl
get_reply_text-words get.OutOfMemory = refl

-- a next's
next_reply_text-words : (r : NextReply) → next_reply_text r ≡ spaced (next_words r)
unfolding next_reply_text
next_reply_text-words next.NoSuch = refl
next_reply_text-words next.End = refl
next_reply_text-words (next.TooSmall needed) = refl
next_reply_text-words (next.Ok key) = refl
next_reply_text-words next.OutOfMemory = refl

-- that of a refused name
name_fault_text-words : (fault : NameFault) → name_fault_text fault ≡ spaced (reason_words (reason.Name fault))
unfolding name_fault_text
name_fault_text-words name.Empty = refl
name_fault_text-words (name.TooLong units) = refl
name_fault_text-words (name.InnerNul at) = refl

-- that of a refusal
reason_text-words : (r : SetReason) → reason_text r ≡ spaced (reason_words r)
unfolding reason_text
reason_text-words (reason.Name fault) = name_fault_text-words fault
reason_text-words (reason.Unsupported bits) = refl
reason_text-words (reason.Unknown bits) = refl
reason_text-words reason.RuntimeWithoutBoot = refl
reason_text-words reason.Hidden = refl
reason_text-words reason.VolatileAtRuntime = refl
reason_text-words reason.RuntimeNeedsNonVolatile = refl
reason_text-words (reason.Descriptor at) = refl
reason_text-words (reason.Size have limit) = refl
reason_text-words (reason.Denied place rule) = refl
reason_text-words reason.Missing = refl
reason_text-words reason.NeedsAuthentication = refl
reason_text-words (reason.AttributesDiffer stored asked) = refl
reason_text-words reason.Verdict = refl
reason_text-words (reason.Stamp stored new) = refl
reason_text-words (reason.AppendSize have limit) = refl
reason_text-words (reason.Room need have) = refl
reason_text-words (reason.HistoryFull made) = refl

-- a set's
set_reply_text-words : (r : SetReply) → set_reply_text r ≡ spaced (set_words r)
unfolding set_reply_text
set_reply_text-words set.Ok = refl
set_reply_text-words set.Same = refl
set_reply_text-words (set.Refused reason) = reason_text-words reason
set_reply_text-words set.Device = refl
set_reply_text-words set.OutOfMemory = refl

-- that of the end of the boot phase
exit_reply_text-words : (r : ExitReply) → exit_reply_text r ≡ spaced (exit_words r)
unfolding exit_reply_text
exit_reply_text-words exit.Ok = refl
exit_reply_text-words exit.Same = refl
exit_reply_text-words (exit.HistoryFull made) = refl

-- any reply's
pub reply_text-words : (r : Reply) → reply_text r ≡ spaced (reply_words r)
unfolding reply_text
reply_text-words (reply.Get r) = get_reply_text-words r
reply_text-words (reply.Next r) = next_reply_text-words r
reply_text-words (reply.Set r) = set_reply_text-words r
reply_text-words (reply.Policy r) = policy_reply_text-words r
reply_text-words (reply.Exit r) = exit_reply_text-words r

-- ---- they are words, at least one

-- a get's
HaveWords-get : (r : GetReply) → HaveWords (get_words r)
HaveWords-get get.NotFound = (IsWord-status_text _, tt)
HaveWords-get (get.TooSmall attributes needed) = (IsWord-status_text _, (IsWord-attributes_text attributes, (IsWord-decimal needed, tt)))
HaveWords-get (get.Ok attributes bytes) = (IsWord-status_text _, (IsWord-attributes_text attributes, (IsWord-bytes_text bytes, tt)))
HaveWords-get get.OutOfMemory = (IsWord-status_text _, tt)

-- a next's
HaveWords-next : (r : NextReply) → HaveWords (next_words r)
HaveWords-next next.NoSuch = (IsWord-status_text _, (IsWord-word_text _, tt))
HaveWords-next next.End = (IsWord-status_text _, (IsWord-word_text _, tt))
HaveWords-next (next.TooSmall needed) = (IsWord-status_text _, (IsWord-decimal needed, tt))
HaveWords-next (next.Ok key) = (IsWord-status_text _, (IsWord-guid_text key.guid, (IsWord-name_text key.name, tt)))
HaveWords-next next.OutOfMemory = (IsWord-status_text _, tt)

-- those behind the first two of a refused name
AreWords-fault : (fault : NameFault) → AreWords (fault_words fault)
AreWords-fault name.Empty = (IsWord-word_text _, tt)
AreWords-fault (name.TooLong units) = (IsWord-word_text _, (IsWord-decimal units, tt))
AreWords-fault (name.InnerNul at) = (IsWord-word_text _, (IsWord-decimal at, tt))

-- those of a refusal
HaveWords-reason : (r : SetReason) → HaveWords (reason_words r)
HaveWords-reason (reason.Name fault) = (IsWord-status_text _, (IsWord-word_text _, AreWords-fault fault))
HaveWords-reason (reason.Unsupported bits) = (IsWord-status_text _, (IsWord-word_text _, (IsWord-attributes_text bits, tt)))
HaveWords-reason (reason.Unknown bits) = (IsWord-status_text _, (IsWord-word_text _, (IsWord-attributes_text bits, tt)))
HaveWords-reason reason.RuntimeWithoutBoot = (IsWord-status_text _, (IsWord-word_text _, tt))
HaveWords-reason reason.Hidden = (IsWord-status_text _, (IsWord-word_text _, tt))
HaveWords-reason reason.VolatileAtRuntime = (IsWord-status_text _, (IsWord-word_text _, tt))
HaveWords-reason reason.RuntimeNeedsNonVolatile = (IsWord-status_text _, (IsWord-word_text _, tt))
HaveWords-reason (reason.Descriptor at) = (IsWord-status_text _, (IsWord-word_text _, (IsWord-decimal at, tt)))
HaveWords-reason (reason.Size have limit) = (IsWord-status_text _, (IsWord-word_text _, (IsWord-decimal have, (IsWord-decimal limit, tt))))
HaveWords-reason (reason.Denied place rule) = (IsWord-status_text _, (IsWord-word_text _, (IsWord-decimal place, (IsWord-rule_text _, tt))))
HaveWords-reason reason.Missing = (IsWord-status_text _, (IsWord-word_text _, tt))
HaveWords-reason reason.NeedsAuthentication = (IsWord-status_text _, (IsWord-word_text _, tt))
HaveWords-reason (reason.AttributesDiffer stored asked) = (IsWord-status_text _, (IsWord-word_text _, (IsWord-attributes_text stored, (IsWord-attributes_text asked, tt))))
HaveWords-reason reason.Verdict = (IsWord-status_text _, (IsWord-word_text _, tt))
HaveWords-reason (reason.Stamp stored new) = (IsWord-status_text _, (IsWord-word_text _, (IsWord-bytes_text _, (IsWord-bytes_text _, tt))))
HaveWords-reason (reason.AppendSize have limit) = (IsWord-status_text _, (IsWord-word_text _, (IsWord-decimal have, (IsWord-decimal limit, tt))))
HaveWords-reason (reason.Room need have) = (IsWord-status_text _, (IsWord-word_text _, (IsWord-decimal need, (IsWord-decimal have, tt))))
HaveWords-reason (reason.HistoryFull made) = (IsWord-status_text _, (IsWord-word_text _, (IsWord-decimal made, tt)))

-- a set's
HaveWords-set : (r : SetReply) → HaveWords (set_words r)
HaveWords-set set.Ok = (IsWord-status_text _, tt)
HaveWords-set set.Same = (IsWord-status_text _, (IsWord-word_text _, tt))
HaveWords-set (set.Refused reason) = HaveWords-reason reason
HaveWords-set set.Device = (IsWord-status_text _, tt)
HaveWords-set set.OutOfMemory = (IsWord-status_text _, tt)

-- those of the reply to the end of the boot phase
HaveWords-exit : (r : ExitReply) → HaveWords (exit_words r)
HaveWords-exit exit.Ok = (IsWord-status_text _, tt)
HaveWords-exit exit.Same = (IsWord-status_text _, (IsWord-word_text _, tt))
HaveWords-exit (exit.HistoryFull made) = (IsWord-status_text _, (IsWord-word_text _, (IsWord-decimal made, tt)))

-- any reply's
pub HaveWords-reply : (r : Reply) → HaveWords (reply_words r)
HaveWords-reply (reply.Get r) = HaveWords-get r
HaveWords-reply (reply.Next r) = HaveWords-next r
HaveWords-reply (reply.Set r) = HaveWords-set r
HaveWords-reply (reply.Policy r) = HaveWords-policy r
HaveWords-reply (reply.Exit r) = HaveWords-exit r
