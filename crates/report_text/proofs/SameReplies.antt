use Rattle.std.proofs.Common.{◌≡◌, ℕ, ◌+◌, ◌*◌, ◌^◌, ◌<◌, List, [], ◌∷◌, drop, take, length, get_or, fold, decimal, refl, sym, ap, ◌∙◌, arith}
use Rattle.std.specs.Prelude.{◌==◌, if◌then◌else◌}
use Rattle.std.proofs.lemmas.Fmt.{decimal_injective}
use Rattle.var_types.specs.declared.call.Call.{Call}
use Rattle.var_types.specs.declared.call.Call.TheVariants as call
use Rattle.var_types.specs.declared.guid.Guid.{Guid}
use Rattle.var_types.specs.declared.key.Key.{Key}
use Rattle.var_types.specs.declared.name.NameFault.{NameFault}
use Rattle.var_types.specs.declared.name.NameFault.TheVariants as name
use Rattle.var_types.specs.declared.set_reason.SetReason.{SetReason}
use Rattle.var_types.specs.declared.set_reason.SetReason.TheVariants as reason
use Rattle.var_types.specs.declared.ask.Rule.{Rule}
use Rattle.var_types.specs.declared.ask.Rule.TheVariants as rules
use Rattle.var_types.specs.declared.reply.ExitReply.{ExitReply}
use Rattle.var_types.specs.declared.reply.ExitReply.TheVariants as exit
use Rattle.var_types.specs.declared.stamp.Stamp.{Stamp}
use Rattle.var_types.specs.declared.reply.GetReply.{GetReply}
use Rattle.var_types.specs.declared.reply.GetReply.TheVariants as get
use Rattle.var_types.specs.declared.reply.NextReply.{NextReply}
use Rattle.var_types.specs.declared.reply.NextReply.TheVariants as next
use Rattle.var_types.specs.declared.reply.Reply.{Reply}
use Rattle.var_types.specs.declared.reply.Reply.TheVariants as reply
use Rattle.var_types.specs.declared.reply.SetReply.{SetReply}
use Rattle.var_types.specs.declared.reply.SetReply.TheVariants as set
use Rattle.var_types.specs.Step.{IsOfKind}
use Rattle.report_text.specs.Values.{HasValues, HasValuesOfExit, HasValuesOfGet, HasValuesOfNext, HasValuesOfFault, HasValuesOfReason, HasValuesOfSet}
use Rattle.report_text.specs.Replies.{reply_text, rule_status}
use Rattle.report_text.specs.Rule.{rule_text}
use Rattle.report_text.specs.Status.{status_text}
use Rattle.report_text.specs.Word.{word_text}
use Rattle.report_text.proofs.ReplyWords.{exit_words, get_words, next_words, fault_words, reason_words, set_words, reply_words, reply_text-words, HaveWords-reply}
use Rattle.report_text.proofs.SameNames.{same_names}
use Rattle.report_text.proofs.SamePolicies.{same_policy}
use Rattle.report_text.proofs.SameTexts.{same_attributes, same_bytes, same_guids}
use Rattle.report_text.proofs.SameWords.{same_words}

-- the word at a place, if there is one
abbrev word_at : ℕ → List (List ℕ) → List ℕ
word_at k words = get_or words k []

-- a word as a number, which tells fixed words apart
abbrev number_at : ℕ → List (List ℕ) → ℕ
number_at k words = fold (λ n c. n * 256 + c) 0 (word_at k words)

-- numbers of 32 bits of one text
same_number_32 : (m n : ℕ) → m < 2 ^ 32 → n < 2 ^ 32 → decimal m ≡ decimal n → m ≡ n
same_number_32 m n h k e = decimal_injective m n (omega arith) (omega arith) e

-- replies of a get with the same words
same_get : (r s : GetReply) → HasValuesOfGet r → HasValuesOfGet s → get_words r ≡ get_words s → r ≡ s
same_get get.NotFound get.NotFound h k e = refl
same_get (get.TooSmall a m) (get.TooSmall b n) h k e =
    let attributes : a ≡ b = same_attributes a b h.0 k.0 (ap (word_at 1) e) in
    let needed : m ≡ n = same_number_32 m n h.1 k.1 (ap (word_at 2) e) in
    cc
same_get (get.Ok a xs) (get.Ok b ys) h k e =
    let attributes : a ≡ b = same_attributes a b h.0 k.0 (ap (word_at 1) e) in
    let bytes : xs ≡ ys = same_bytes xs ys h.1 k.1 (ap (word_at 2) e) in
    cc
same_get get.OutOfMemory get.OutOfMemory h k e = refl
same_get r s h k e = unfold status_text word_text in
    let first : number_at 0 (get_words r) ≡ number_at 0 (get_words s) = ap (number_at 0) e in
    absurd (omega (arith, first))

-- replies of a next with the same words
same_next : (r s : NextReply) → HasValuesOfNext r → HasValuesOfNext s → next_words r ≡ next_words s → r ≡ s
same_next next.NoSuch next.NoSuch h k e = refl
same_next next.End next.End h k e = refl
same_next (next.TooSmall m) (next.TooSmall n) h k e =
    let needed : m ≡ n = same_number_32 m n h k (ap (word_at 1) e) in
    cc
same_next (next.Ok a) (next.Ok b) h k e =
    let guid : a.guid ≡ b.guid = same_guids a.guid b.guid h.0 k.0 (ap (word_at 1) e) in
    let name : a.name ≡ b.name = same_names a.name b.name h.1 k.1 (ap (word_at 2) e) in
    let key : Guid → List ℕ → Key = λ g n. record { guid = g; name = n } in
    let same : a ≡ b = ap (λ g. key g a.name) guid ∙ ap (key b.guid) name in
    cc
same_next next.OutOfMemory next.OutOfMemory h k e = refl
same_next r s h k e = unfold status_text in
    let first : number_at 0 (next_words r) ≡ number_at 0 (next_words s) = ap (number_at 0) e in
    absurd (omega (arith, first))

-- faults of a name with the same words
same_fault : (r s : NameFault) → HasValuesOfFault r → HasValuesOfFault s → fault_words r ≡ fault_words s → r ≡ s
same_fault name.Empty name.Empty h k e = refl
same_fault (name.TooLong m) (name.TooLong n) h k e =
    let units : m ≡ n = decimal_injective m n h k (ap (word_at 1) e) in
    cc
same_fault (name.InnerNul m) (name.InnerNul n) h k e =
    let at : m ≡ n = same_number_32 m n h k (ap (word_at 1) e) in
    cc
same_fault r s h k e = unfold word_text in
    let first : number_at 0 (fault_words r) ≡ number_at 0 (fault_words s) = ap (number_at 0) e in
    absurd (omega (arith, first))

-- a fixed word as a number: its length and its first four characters
abbrev code : List ℕ → ℕ
code word = length word * 4294967296 + fold (λ n c. n * 256 + c) 0 (take 4 word)

-- a number for each reason
abbrev tag : SetReason → ℕ
tag (reason.Name fault) = 0
tag (reason.Unsupported bits) = 1
tag (reason.Unknown bits) = 2
tag reason.RuntimeWithoutBoot = 3
tag reason.Hidden = 4
tag reason.VolatileAtRuntime = 5
tag reason.RuntimeNeedsNonVolatile = 6
tag (reason.Descriptor at) = 7
tag (reason.Size have limit) = 8
tag (reason.Denied place rule) = 9
tag reason.Missing = 10
tag reason.NeedsAuthentication = 11
tag (reason.AttributesDiffer stored asked) = 12
tag reason.Verdict = 13
tag (reason.Stamp stored new) = 14
tag (reason.AppendSize have limit) = 15
tag (reason.Room need have) = 16
tag (reason.HistoryFull made) = 17

-- the number of a reason by its first two words
tag_by : ℕ → ℕ → ℕ
tag_by status word =
    if word == 19031747941 then 0
    else if word == 18830947443 then (if status == 48675836757 then 1 else 2)
    else if word == 87819644532 then 3
    else if word == 27521541220 then 4
    else if word == 36346752097 then 5
    else if word == 113589448308 then 6
    else if word == 44634043235 then 7
    else if word == 19116161637 then 8
    else if word == 27454172777 then 9
    else if word == 31900398451 then 10
    else if word == 61764629608 then 11
    else if word == 44584694898 then 12
    else if word == 32051130980 then 13
    else if word == 23411843437 then 14
    else if word == 48879399013 then 15
    else if word == 19099774829 then 16
    else if word == 31816512372 then 17
    else 18

-- a reason's words tell its number
tag_is : (r : SetReason) → tag_by (code (word_at 0 (reason_words r))) (code (word_at 1 (reason_words r))) ≡ tag r
unfolding status_text word_text tag_by
tag_is (reason.Name fault) = refl
tag_is (reason.Unsupported bits) = refl
tag_is (reason.Unknown bits) = refl
tag_is reason.RuntimeWithoutBoot = refl
tag_is reason.Hidden = refl
tag_is reason.VolatileAtRuntime = refl
tag_is reason.RuntimeNeedsNonVolatile = refl
tag_is (reason.Descriptor at) = refl
tag_is (reason.Size have limit) = refl
tag_is (reason.Denied place rule) = refl
tag_is reason.Missing = refl
tag_is reason.NeedsAuthentication = refl
tag_is (reason.AttributesDiffer stored asked) = refl
tag_is reason.Verdict = refl
tag_is (reason.Stamp stored new) = refl
tag_is (reason.AppendSize have limit) = refl
tag_is (reason.Room need have) = refl
tag_is (reason.HistoryFull made) = refl

-- rules with the same word
same_rule : (a b : Rule) → rule_text a ≡ rule_text b → a ≡ b
same_rule rules.MinSize rules.MinSize e = refl
same_rule rules.MaxSize rules.MaxSize e = refl
same_rule rules.Must rules.Must e = refl
same_rule rules.Cant rules.Cant e = refl
same_rule rules.LockNow rules.LockNow e = refl
same_rule rules.LockOnCreate rules.LockOnCreate e = refl
same_rule rules.LockOnState rules.LockOnState e = refl
same_rule a b e = unfold rule_text in
    let same : fold (λ n c. n * 256 + c) 0 (rule_text a) ≡ fold (λ n c. n * 256 + c) 0 (rule_text b) = ap (fold (λ n c. n * 256 + c) 0) e in
    absurd (omega (arith, same))

-- refusals with the same words
same_reason : (r s : SetReason) → HasValuesOfReason r → HasValuesOfReason s → reason_words r ≡ reason_words s → r ≡ s
same_reason (reason.Name x) (reason.Name y) h k e =
    let fault : x ≡ y = same_fault x y h k (ap (drop 2) e) in
    cc
same_reason (reason.Unsupported m) (reason.Unsupported n) h k e =
    let bits : m ≡ n = same_attributes m n h k (ap (word_at 2) e) in
    cc
same_reason (reason.Unknown m) (reason.Unknown n) h k e =
    let bits : m ≡ n = same_attributes m n h k (ap (word_at 2) e) in
    cc
same_reason reason.RuntimeWithoutBoot reason.RuntimeWithoutBoot h k e = refl
same_reason reason.Hidden reason.Hidden h k e = refl
same_reason reason.VolatileAtRuntime reason.VolatileAtRuntime h k e = refl
same_reason reason.RuntimeNeedsNonVolatile reason.RuntimeNeedsNonVolatile h k e = refl
same_reason (reason.Descriptor m) (reason.Descriptor n) h k e =
    let at : m ≡ n = same_number_32 m n h k (ap (word_at 2) e) in
    cc
same_reason (reason.Size m a) (reason.Size n b) h k e =
    let first : m ≡ n = decimal_injective m n h.0 k.0 (ap (word_at 2) e) in
    let second : a ≡ b = same_number_32 a b h.1 k.1 (ap (word_at 3) e) in
    cc
same_reason (reason.Denied m a) (reason.Denied n b) h k e =
    let place : m ≡ n = same_number_32 m n h k (ap (word_at 2) e) in
    let denying : a ≡ b = same_rule a b (ap (word_at 3) e) in
    cc
same_reason reason.Missing reason.Missing h k e = refl
same_reason reason.NeedsAuthentication reason.NeedsAuthentication h k e = refl
same_reason (reason.AttributesDiffer m a) (reason.AttributesDiffer n b) h k e =
    let first : m ≡ n = same_attributes m n h.0 k.0 (ap (word_at 2) e) in
    let second : a ≡ b = same_attributes a b h.1 k.1 (ap (word_at 3) e) in
    cc
same_reason reason.Verdict reason.Verdict h k e = refl
same_reason (reason.Stamp m a) (reason.Stamp n b) h k e =
    let stamp : List ℕ → Stamp = λ bytes. record { bytes = bytes } in
    let stored : m ≡ n = ap stamp (same_bytes m.bytes n.bytes h.0 k.0 (ap (word_at 2) e)) in
    let later : a ≡ b = ap stamp (same_bytes a.bytes b.bytes h.1 k.1 (ap (word_at 3) e)) in
    cc
same_reason (reason.AppendSize m a) (reason.AppendSize n b) h k e =
    let first : m ≡ n = decimal_injective m n h.0 k.0 (ap (word_at 2) e) in
    let second : a ≡ b = same_number_32 a b h.1 k.1 (ap (word_at 3) e) in
    cc
same_reason (reason.Room m a) (reason.Room n b) h k e =
    let first : m ≡ n = same_number_32 m n h.0 k.0 (ap (word_at 2) e) in
    let second : a ≡ b = same_number_32 a b h.1 k.1 (ap (word_at 3) e) in
    cc
same_reason (reason.HistoryFull m) (reason.HistoryFull n) h k e =
    let made : m ≡ n = decimal_injective m n h k (ap (word_at 2) e) in
    cc
same_reason r s h k e =
    let tags : tag r ≡ tag s = sym (tag_is r) ∙ ap (λ words. tag_by (code (word_at 0 words)) (code (word_at 1 words))) e ∙ tag_is s in
    absurd (omega (arith, tags))

-- the status of a denial is none of success, of a call out of memory and of a failed flash
denied_status : (rule : Rule) → (number_at 0 (status_text (rule_status rule) ∷ []) ≡ number_at 0 (set_words set.Ok) → ⊥)
    × (number_at 0 (status_text (rule_status rule) ∷ []) ≡ number_at 0 (set_words set.OutOfMemory) → ⊥)
    × (number_at 0 (status_text (rule_status rule) ∷ []) ≡ number_at 0 (set_words set.Device) → ⊥)
unfolding status_text
denied_status rules.MinSize = (omega arith, omega arith, omega arith)
denied_status rules.MaxSize = (omega arith, omega arith, omega arith)
denied_status rules.Must = (omega arith, omega arith, omega arith)
denied_status rules.Cant = (omega arith, omega arith, omega arith)
denied_status rules.LockNow = (omega arith, omega arith, omega arith)
denied_status rules.LockOnCreate = (omega arith, omega arith, omega arith)
denied_status rules.LockOnState = (omega arith, omega arith, omega arith)

-- a refusal's first word is none of success, of a call out of memory and of a failed flash
refused : (r : SetReason) → (number_at 0 (reason_words r) ≡ number_at 0 (set_words set.Ok) → ⊥)
    × (number_at 0 (reason_words r) ≡ number_at 0 (set_words set.OutOfMemory) → ⊥)
    × (number_at 0 (reason_words r) ≡ number_at 0 (set_words set.Device) → ⊥)
unfolding status_text word_text
refused (reason.Name x) = (omega arith, omega arith, omega arith)
refused (reason.Unsupported bits) = (omega arith, omega arith, omega arith)
refused (reason.Unknown bits) = (omega arith, omega arith, omega arith)
refused reason.RuntimeWithoutBoot = (omega arith, omega arith, omega arith)
refused reason.Hidden = (omega arith, omega arith, omega arith)
refused reason.VolatileAtRuntime = (omega arith, omega arith, omega arith)
refused reason.RuntimeNeedsNonVolatile = (omega arith, omega arith, omega arith)
refused (reason.Descriptor at) = (omega arith, omega arith, omega arith)
refused (reason.Size have limit) = (omega arith, omega arith, omega arith)
refused (reason.Denied place rule) = denied_status rule
refused reason.Missing = (omega arith, omega arith, omega arith)
refused reason.NeedsAuthentication = (omega arith, omega arith, omega arith)
refused (reason.AttributesDiffer stored asked) = (omega arith, omega arith, omega arith)
refused reason.Verdict = (omega arith, omega arith, omega arith)
refused (reason.Stamp stored new) = (omega arith, omega arith, omega arith)
refused (reason.AppendSize have limit) = (omega arith, omega arith, omega arith)
refused (reason.Room need have) = (omega arith, omega arith, omega arith)
refused (reason.HistoryFull made) = (omega arith, omega arith, omega arith)

-- replies of a set with the same words
same_set : (r s : SetReply) → HasValuesOfSet r → HasValuesOfSet s → set_words r ≡ set_words s → r ≡ s
same_set set.Ok set.Ok h k e = refl
same_set set.Same set.Same h k e = refl
same_set (set.Refused x) (set.Refused y) h k e =
    let reason : x ≡ y = same_reason x y h k e in
    cc
same_set set.Device set.Device h k e = refl
same_set set.OutOfMemory set.OutOfMemory h k e = refl
same_set (set.Refused x) set.Ok h k e = absurd ((refused x).0 (ap (number_at 0) e))
same_set (set.Refused x) set.Same h k e = absurd ((refused x).0 (ap (number_at 0) e))
same_set (set.Refused x) set.Device h k e = absurd ((refused x).2 (ap (number_at 0) e))
same_set (set.Refused x) set.OutOfMemory h k e = absurd ((refused x).1 (ap (number_at 0) e))
same_set set.Ok (set.Refused y) h k e = absurd ((refused y).0 (ap (number_at 0) (sym e)))
same_set set.Same (set.Refused y) h k e = absurd ((refused y).0 (ap (number_at 0) (sym e)))
same_set set.Device (set.Refused y) h k e = absurd ((refused y).2 (ap (number_at 0) (sym e)))
same_set set.OutOfMemory (set.Refused y) h k e = absurd ((refused y).1 (ap (number_at 0) (sym e)))
same_set r s h k e = unfold status_text word_text in
    let first : number_at 0 (set_words r) ≡ number_at 0 (set_words s) = ap (number_at 0) e in
    let second : number_at 1 (set_words r) ≡ number_at 1 (set_words s) = ap (number_at 1) e in
    absurd (omega (arith, first, second))

-- replies to the end of the boot phase with the same words
same_exit : (r s : ExitReply) → HasValuesOfExit r → HasValuesOfExit s → exit_words r ≡ exit_words s → r ≡ s
same_exit exit.Ok exit.Ok h k e = refl
same_exit exit.Same exit.Same h k e = refl
same_exit (exit.HistoryFull m) (exit.HistoryFull n) h k e =
    let made : m ≡ n = decimal_injective m n h k (ap (word_at 2) e) in
    cc
same_exit r s h k e = unfold status_text word_text in
    let first : number_at 0 (exit_words r) ≡ number_at 0 (exit_words s) = ap (number_at 0) e in
    let second : number_at 1 (exit_words r) ≡ number_at 1 (exit_words s) = ap (number_at 1) e in
    absurd (omega (arith, first, second))

-- replies of one text have the same words
words_from_text : (r s : Reply) → reply_text r ≡ reply_text s → reply_words r ≡ reply_words s
words_from_text r s e =
    same_words (reply_words r) (reply_words s) (HaveWords-reply r) (HaveWords-reply s) (sym (reply_text-words r) ∙ e ∙ reply_text-words s)

-- replies of one call's kind and of one text
pub same_replies : (call : Call) (r s : Reply) → IsOfKind call r → IsOfKind call s → HasValues r → HasValues s → reply_text r ≡ reply_text s → r ≡ s
same_replies (call.Get c) (reply.Get r) (reply.Get s) p q h k e =
    let same : r ≡ s = same_get r s h k (words_from_text (reply.Get r) (reply.Get s) e) in
    cc
same_replies (call.Next c) (reply.Next r) (reply.Next s) p q h k e =
    let same : r ≡ s = same_next r s h k (words_from_text (reply.Next r) (reply.Next s) e) in
    cc
same_replies (call.Set c) (reply.Set r) (reply.Set s) p q h k e =
    let same : r ≡ s = same_set r s h k (words_from_text (reply.Set r) (reply.Set s) e) in
    cc
same_replies (call.Policy c) (reply.Policy r) (reply.Policy s) p q h k e =
    let same : r ≡ s = same_policy r s p q h k (words_from_text (reply.Policy r) (reply.Policy s) e) in
    cc
same_replies call.ExitBoot (reply.Exit r) (reply.Exit s) p q h k e =
    let same : r ≡ s = same_exit r s h k (words_from_text (reply.Exit r) (reply.Exit s) e) in
    cc
same_replies c r s p q h k e = search
