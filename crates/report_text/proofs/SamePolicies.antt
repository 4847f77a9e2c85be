-- Replies to calls about the policies with the same words are one.
use Rattle.std.proofs.Common.{◌≡◌, ℕ, ◌+◌, ◌*◌, ◌^◌, ◌<◌, ◌≤◌, ◌==◌, List, [], length, take, fold, get_or, decimal, refl, sym, ap, ◌∙◌, arith, if◌then◌else◌}
use Rattle.std.proofs.lemmas.Fmt.{decimal_injective}
use Rattle.var_types.specs.declared.entry_fault.EntryFault.{EntryFault}
use Rattle.var_types.specs.declared.entry_fault.EntryFault.TheVariants as fault
use Rattle.var_types.specs.declared.policy_reason.PolicyReason.{PolicyReason}
use Rattle.var_types.specs.declared.policy_reason.PolicyReason.TheVariants as reason
use Rattle.var_types.specs.declared.policy_reply.PolicyReply.{PolicyReply}
use Rattle.var_types.specs.declared.policy_reply.PolicyReply.TheVariants as policy
use Rattle.var_types.specs.PolicyStep.{IsGivenReason, IsPolicyReply}
use Rattle.var_types.specs.Values.{AreBytes}
use Rattle.report_text.specs.Status.{status_text}
use Rattle.report_text.specs.Word.{word_text}
use Rattle.report_text.specs.PolicyValues.{HasValuesOfEntryFault, HasValuesOfPolicy, HasValuesOfPolicyReason}
use Rattle.report_text.proofs.PolicyWords.{entry_fault_words, policy_reason_words, policy_words}
use Rattle.report_text.proofs.SameTexts.{no_bytes_text, same_bytes}

-- the word at a place, if there is one
abbrev word_at : ℕ → List (List ℕ) → List ℕ
word_at k words = get_or words k []

-- a word as a number, which tells fixed words apart
abbrev number_at : ℕ → List (List ℕ) → ℕ
number_at k words = fold (λ n c. n * 256 + c) 0 (word_at k words)

-- a fixed word as a number: its length and its first four characters
abbrev code : List ℕ → ℕ
code word = length word * 4294967296 + fold (λ n c. n * 256 + c) 0 (take 4 word)

-- a number for each fault of an entry
abbrev fault_tag : EntryFault → ℕ
fault_tag fault.Size = 10
fault_tag fault.Version = 11
fault_tag (fault.LockType value) = 12
fault_tag fault.NameForm = 13
fault_tag fault.Offset = 14
fault_tag (fault.Wildcards count) = 15
fault_tag fault.MinAboveMax = 16
fault_tag fault.OutOfMemory = 17

-- a number for each reason
abbrev tag : PolicyReason → ℕ
tag reason.Locked = 0
tag (reason.Entry f) = fault_tag f
tag (reason.Already place) = 2
tag (reason.TableFull entries) = 3
tag (reason.HistoryFull made) = 4
tag reason.AlreadyOff = 5
tag (reason.NoEntry entries) = 6
tag reason.OutOfMemory = 17

-- the number of an entry's fault by its third word
fault_by : ℕ → ℕ
fault_by word =
    if word == 19116161637 then 10
    else if word == 32051130995 then 11
    else if word == 40473944939 then 12
    else if word == 19031747941 then 13
    else if word == 27638785651 then 14
    else if word == 40658103396 then 15
    else 16

-- the number of a reason by its first three words
tag_by : List (List ℕ) → ℕ
tag_by words =
    if code (word_at 1 words) == 27589043051 then 0
    else if code (word_at 1 words) == 23176574066 then (if code (word_at 0 words) == 65520030277 then 2 else fault_by (code (word_at 2 words)))
    else if code (word_at 1 words) == 23427375724 then 3
    else if code (word_at 1 words) == 31816512372 then 4
    else if code (word_at 1 words) == 12892202598 then 5
    else if code (word_at 1 words) == 31766508658 then 6
    else 17

-- a reason's words tell its number
fault_tag_is : (f : EntryFault) → tag_by (entry_fault_words f) ≡ fault_tag f
unfolding status_text word_text tag_by fault_by
fault_tag_is fault.Size = refl
fault_tag_is fault.Version = refl
fault_tag_is (fault.LockType value) = refl
fault_tag_is fault.NameForm = refl
fault_tag_is fault.Offset = refl
fault_tag_is (fault.Wildcards count) = refl
fault_tag_is fault.MinAboveMax = refl
fault_tag_is fault.OutOfMemory = refl

tag_is : (r : PolicyReason) → tag_by (policy_reason_words r) ≡ tag r
unfolding status_text word_text tag_by
tag_is reason.Locked = refl
tag_is (reason.Entry f) = fault_tag_is f
tag_is (reason.Already place) = refl
tag_is (reason.TableFull entries) = refl
tag_is (reason.HistoryFull made) = refl
tag_is reason.AlreadyOff = refl
tag_is (reason.NoEntry entries) = refl
tag_is reason.OutOfMemory = refl

-- numbers of at most 32 bits of one text
same_number : (m n : ℕ) → m < 2 ^ 32 → n < 2 ^ 32 → decimal m ≡ decimal n → m ≡ n
same_number m n h k e = decimal_injective m n (omega arith) (omega arith) e

-- faults of an entry with the same words
same_fault : (f g : EntryFault) → HasValuesOfEntryFault f → HasValuesOfEntryFault g → entry_fault_words f ≡ entry_fault_words g → f ≡ g
same_fault fault.Size fault.Size h k e = refl
same_fault fault.Version fault.Version h k e = refl
same_fault (fault.LockType m) (fault.LockType n) h k e =
    let value : m ≡ n = same_number m n (omega (arith, h)) (omega (arith, k)) (ap (word_at 3) e) in
    cc
same_fault fault.NameForm fault.NameForm h k e = refl
same_fault fault.Offset fault.Offset h k e = refl
same_fault (fault.Wildcards m) (fault.Wildcards n) h k e =
    let count : m ≡ n = same_number m n h k (ap (word_at 3) e) in
    cc
same_fault fault.MinAboveMax fault.MinAboveMax h k e = refl
same_fault fault.OutOfMemory fault.OutOfMemory h k e = refl
same_fault f g h k e =
    let tags : fault_tag f ≡ fault_tag g = sym (fault_tag_is f) ∙ ap tag_by e ∙ fault_tag_is g in
    absurd (omega (arith, tags))

-- the number of a fault is another than those of the other reasons that a reply gives
fault_apart : (f : EntryFault) → IsGivenReason (reason.Entry f) → (10 ≤ fault_tag f) × (fault_tag f ≤ 16)
fault_apart fault.Size given = (omega arith, omega arith)
fault_apart fault.Version given = (omega arith, omega arith)
fault_apart (fault.LockType value) given = (omega arith, omega arith)
fault_apart fault.NameForm given = (omega arith, omega arith)
fault_apart fault.Offset given = (omega arith, omega arith)
fault_apart (fault.Wildcards count) given = (omega arith, omega arith)
fault_apart fault.MinAboveMax given = (omega arith, omega arith)
fault_apart fault.OutOfMemory given = absurd given

-- reasons with the same words
same_reason : (r s : PolicyReason) → IsGivenReason r → IsGivenReason s → HasValuesOfPolicyReason r → HasValuesOfPolicyReason s
    → policy_reason_words r ≡ policy_reason_words s → r ≡ s
same_reason reason.Locked reason.Locked p q h k e = refl
same_reason (reason.Entry f) (reason.Entry g) p q h k e =
    let same : f ≡ g = same_fault f g h k e in
    ap reason.Entry same
same_reason (reason.Already m) (reason.Already n) p q h k e =
    let place : m ≡ n = same_number m n h k (ap (word_at 2) e) in
    cc
same_reason (reason.TableFull m) (reason.TableFull n) p q h k e =
    let entries : m ≡ n = same_number m n h k (ap (word_at 2) e) in
    cc
same_reason (reason.HistoryFull m) (reason.HistoryFull n) p q h k e =
    let made : m ≡ n = decimal_injective m n h k (ap (word_at 2) e) in
    cc
same_reason reason.AlreadyOff reason.AlreadyOff p q h k e = refl
same_reason (reason.NoEntry m) (reason.NoEntry n) p q h k e =
    let entries : m ≡ n = same_number m n h k (ap (word_at 2) e) in
    cc
same_reason reason.OutOfMemory s p q h k e = absurd p
same_reason r reason.OutOfMemory p q h k e = absurd q
same_reason (reason.Entry f) s p q h k e =
    let apart = fault_apart f p in
    let tags : fault_tag f ≡ tag s = sym (fault_tag_is f) ∙ ap tag_by e ∙ tag_is s in
    absurd (omega (arith, apart.0, apart.1, tags))
same_reason r (reason.Entry g) p q h k e =
    let apart = fault_apart g q in
    let tags : tag r ≡ fault_tag g = sym (tag_is r) ∙ ap tag_by e ∙ fault_tag_is g in
    absurd (omega (arith, apart.0, apart.1, tags))
same_reason r s p q h k e =
    let tags : tag r ≡ tag s = sym (tag_is r) ∙ ap tag_by e ∙ tag_is s in
    absurd (omega (arith, tags))

-- the first word of a reason that a reply gives is neither that of success nor that of a call out of memory
abbrev IsApart : List (List ℕ) → Type 0
IsApart words =
    (number_at 0 words ≡ number_at 0 (policy_words policy.Ok) → ⊥) × (number_at 0 words ≡ number_at 0 (policy_words policy.OutOfMemory) → ⊥)

refused_fault : (f : EntryFault) → IsGivenReason (reason.Entry f) → IsApart (entry_fault_words f)
unfolding status_text word_text
refused_fault fault.Size given = (omega arith, omega arith)
refused_fault fault.Version given = (omega arith, omega arith)
refused_fault (fault.LockType value) given = (omega arith, omega arith)
refused_fault fault.NameForm given = (omega arith, omega arith)
refused_fault fault.Offset given = (omega arith, omega arith)
refused_fault (fault.Wildcards count) given = (omega arith, omega arith)
refused_fault fault.MinAboveMax given = (omega arith, omega arith)
refused_fault fault.OutOfMemory given = absurd given

refused : (r : PolicyReason) → IsGivenReason r → IsApart (policy_reason_words r)
unfolding status_text word_text
refused reason.Locked given = (omega arith, omega arith)
refused (reason.Entry f) given = refused_fault f given
refused (reason.Already place) given = (omega arith, omega arith)
refused (reason.TableFull entries) given = (omega arith, omega arith)
refused (reason.HistoryFull made) given = (omega arith, omega arith)
refused reason.AlreadyOff given = (omega arith, omega arith)
refused (reason.NoEntry entries) given = (omega arith, omega arith)
refused reason.OutOfMemory given = absurd given

-- the second words of success: no bytes print as a word for the state of policy
entry_apart : (bytes : List ℕ) → AreBytes bytes → (word_at 1 (policy_words (policy.Entry bytes)) ≡ word_at 1 (policy_words policy.On) → ⊥)
    × (word_at 1 (policy_words (policy.Entry bytes)) ≡ word_at 1 (policy_words policy.Off) → ⊥)
    × (word_at 1 (policy_words (policy.Entry bytes)) ≡ [] → ⊥)
unfolding word_text
entry_apart bytes are = no_bytes_text bytes are

-- replies with the same words
pub same_policy : (r s : PolicyReply) → IsPolicyReply r → IsPolicyReply s → HasValuesOfPolicy r → HasValuesOfPolicy s
    → policy_words r ≡ policy_words s → r ≡ s
same_policy policy.Ok policy.Ok p q h k e = refl
same_policy policy.On policy.On p q h k e = refl
same_policy policy.Off policy.Off p q h k e = refl
same_policy (policy.Entry a) (policy.Entry b) p q h k e =
    let bytes : a ≡ b = same_bytes a b h k (ap (word_at 1) e) in
    cc
same_policy (policy.Refused r) (policy.Refused s) p q h k e =
    let same : r ≡ s = same_reason r s p q h k e in
    cc
same_policy policy.OutOfMemory policy.OutOfMemory p q h k e = refl
same_policy (policy.Entry a) policy.On p q h k e = absurd ((entry_apart a h).0 (ap (word_at 1) e))
same_policy (policy.Entry a) policy.Off p q h k e = absurd ((entry_apart a h).1 (ap (word_at 1) e))
same_policy (policy.Entry a) policy.Ok p q h k e = absurd ((entry_apart a h).2 (ap (word_at 1) e))
same_policy policy.On (policy.Entry b) p q h k e = absurd ((entry_apart b k).0 (ap (word_at 1) (sym e)))
same_policy policy.Off (policy.Entry b) p q h k e = absurd ((entry_apart b k).1 (ap (word_at 1) (sym e)))
same_policy policy.Ok (policy.Entry b) p q h k e = absurd ((entry_apart b k).2 (ap (word_at 1) (sym e)))
same_policy (policy.Refused r) policy.OutOfMemory p q h k e = absurd ((refused r p).1 (ap (number_at 0) e))
same_policy policy.OutOfMemory (policy.Refused s) p q h k e = absurd ((refused s q).1 (ap (number_at 0) (sym e)))
same_policy (policy.Refused r) s p q h k e = absurd ((refused r p).0 (ap (number_at 0) e))
same_policy r (policy.Refused s) p q h k e = absurd ((refused s q).0 (ap (number_at 0) (sym e)))
same_policy r s p q h k e = unfold status_text word_text in
    let first : number_at 0 (policy_words r) ≡ number_at 0 (policy_words s) = ap (number_at 0) e in
    let second : number_at 1 (policy_words r) ≡ number_at 1 (policy_words s) = ap (number_at 1) e in
    absurd (omega (arith, first, second))
