-- The line of a call reads back as the call, behind the digit of its processor.
use Rattle.std.proofs.Common.{◌^◌, ◌≡◌, ℕ, zero, suc, ◌+◌, ◌-◌, nat_le, get_or, ◌<◌, ◌≤◌, true, false, ltb, List, [], ◌∷◌, ◌++◌, length, Some, Ok, refl, ap, ◌∙◌, arith, codes}
use Rattle.std.specs.Fmt.{decimal}
use Rattle.std.specs.List.{AllByRecursion, list_all}
use Rattle.std.specs.Str.Lines.{lines}
use Rattle.std.proofs.lemmas.Bool.{and_from, le-leb, le-ltb, ne_eqb}
use Rattle.std.proofs.lemmas.List.Elements.{All-weaker}
use Rattle.std.proofs.lemmas.List.Sums.{list_all-from_AllPass}
use Rattle.var_types.specs.declared.call.Call.{Call}
use Rattle.var_types.specs.declared.call.Call.TheVariants as call
use Rattle.var_types.specs.declared.call.SetCall.{SetCall}
use Rattle.var_types.specs.declared.guid.Guid.{Guid}
use Rattle.var_types.specs.declared.policy_call.PolicyCall.{PolicyCall}
use Rattle.var_types.specs.declared.policy_call.PolicyCall.TheVariants as policy
use Rattle.var_types.specs.declared.verdict.Verdict.{Verdict}
use Rattle.var_types.specs.declared.verdict.Verdict.TheVariants.{Bad, Good}
use Rattle.var_types.specs.Guid.{IsGuid, guid_text}
use Rattle.var_types.specs.Values.{AreBytes}
use Rattle.var_types.proofs.Guids.{guid_of-guid_text, guid_text_between, length-guid_text}
use Rattle.script_text.specs.Lines.{is_comment, is_text, words_of}
use Rattle.script_text.specs.Numbers.{processor_of}
use Rattle.script_text.specs.ReadBack.{IsReadable, IsReadableFind, IsReadablePolicy, IsReadableSet, line_of, processor_word}
use Rattle.script_text.specs.Script.{calls_from, most_script_bytes, script_of, with_call}
use Rattle.var_types.specs.Texts.{attributes_text, bytes_text, name_text, spaced}
use Rattle.script_text.specs.Texts.{call_text, call_words_of, policy_words_of, verdict_words}
use Rattle.script_text.specs.Words.{bare_words, call_words, get_call, get_words, guid_read, guid_word, line_call, next_call, next_words, policy_call, policy_words, register_call, register_words, set_call, set_words, verb_of, verdict_of, words_behind, words_call}
use Rattle.script_text.proofs.LineLemmas.{lines-ended_line, lines-one_line}
use Rattle.script_text.proofs.NameTexts.{IsWord-name_text, name_of-name_text}
use Rattle.script_text.proofs.NumberTexts.{IsWord-attributes_text, IsWord-bytes_text, IsWord-decimal, bytes_of-bytes_text, number_of-attributes_text, number_of-decimal}
use Rattle.script_text.proofs.WordLemmas.{IsWord, is_text-spaced, is_word_byte, words_of-spaced}

-- ---- the words of a call

-- a character from `-` to `f` may stand in a word
in_word : (c : ℕ) → (45 ≤ c) × (c ≤ 102) → is_word_byte c ≡ true
in_word c between = and_from _ _ (le-leb 33 c (omega (arith, between.0))) (le-leb c 126 (omega (arith, between.1)))

-- the text of a GUID is a word
IsWord-guid_text : (guid : Guid) → IsWord (guid_text guid)
IsWord-guid_text guid = record {
  some = omega (arith, length-guid_text guid);
  printed =
      list_all-from_AllPass is_word_byte (guid_text guid)
      (All-weaker (λ c. (45 ≤ c) × (c ≤ 102)) (λ c. is_word_byte c ≡ true) in_word (guid_text guid) (guid_text_between guid));
}

-- a GUID, a name and further words are words
named_words : (guid : Guid) (name : List ℕ) (rest : List (List ℕ)) → AllByRecursion IsWord rest
    → AllByRecursion IsWord (guid_text guid ∷ name_text name ∷ rest)
named_words guid name rest are_words = (IsWord-guid_text guid, (IsWord-name_text name, are_words))

-- the digit of a processor is a word
IsWord-processor_word : (p : ℕ) → p < 8 → IsWord (processor_word p)
IsWord-processor_word p small = record { some = omega arith; printed = and_from _ _ (in_word (48 + p) (omega arith, omega (arith, small))) refl }

-- a verb and further words are words
verb_first : (verb : List ℕ) (rest : List (List ℕ)) → 0 < length verb → list_all is_word_byte verb ≡ true → AllByRecursion IsWord rest
    → AllByRecursion IsWord (verb ∷ rest)
verb_first verb rest some printed are_words = (record { some = some; printed = printed }, are_words)

-- the words of a verdict are words
are_verdict_words : (verdict : Verdict) → AllByRecursion IsWord (verdict_words verdict)
are_verdict_words Good = tt
are_verdict_words Bad = (record { some = omega arith; printed = refl }, tt)

-- a call about the policies is of words
are_policy_words : (c : PolicyCall) → IsReadablePolicy c → AllByRecursion IsWord (policy_words_of c)
are_policy_words (policy.Register bytes) readable =
    verb_first (codes "register") (bytes_text bytes ∷ []) (omega arith) refl (IsWord-bytes_text bytes readable, tt)
are_policy_words policy.Lock readable = verb_first (codes "lock") [] (omega arith) refl tt
are_policy_words policy.Disable readable = verb_first (codes "disable") [] (omega arith) refl tt
are_policy_words policy.Enabled readable = verb_first (codes "enabled") [] (omega arith) refl tt
are_policy_words (policy.At place) readable =
    verb_first (codes "policy") (decimal place ∷ []) (omega arith) refl (IsWord-decimal place readable, tt)

-- a call is of words
are_call_words : (call : Call) → IsReadable call → AllByRecursion IsWord (call_words_of call)
are_call_words (call.Get c) readable =
    verb_first (codes "get") (guid_text c.guid ∷ name_text c.name ∷ decimal c.room ∷ []) (omega arith) refl
    (named_words c.guid c.name (decimal c.room ∷ []) (IsWord-decimal c.room readable.room_fits, tt))
are_call_words (call.Next c) readable =
    verb_first (codes "next") (guid_text c.guid ∷ name_text c.name ∷ decimal c.room ∷ []) (omega arith) refl
    (named_words c.guid c.name (decimal c.room ∷ []) (IsWord-decimal c.room readable.room_fits, tt))
are_call_words (call.Set c) readable =
    let words : List (List ℕ) = attributes_text c.attributes ∷ bytes_text c.bytes ∷ verdict_words c.verdict in
    verb_first (codes "set") (guid_text c.guid ∷ name_text c.name ∷ words) (omega arith) refl
    (named_words c.guid c.name words
    (IsWord-attributes_text c.attributes, (IsWord-bytes_text c.bytes readable.bytes_fit, are_verdict_words c.verdict)))
are_call_words (call.Policy c) readable = are_policy_words c readable
are_call_words call.ExitBoot readable = verb_first (codes "exitboot") [] (omega arith) refl tt

-- so is its line
are_line_words : (p : ℕ) (call : Call) → p < 8 → IsReadable call → AllByRecursion IsWord (processor_word p ∷ call_words_of call)
are_line_words p call small readable = (IsWord-processor_word p small, are_call_words call readable)

-- ---- the words are read as the call

-- the digit of a processor is read as it
processor_of-processor_word : (p : ℕ) → p < 8 → processor_of (processor_word p) ≡ Ok p
unfolding processor_of
processor_of-processor_word p small =
    let least : nat_le 48 (48 + p) ≡ true = le-leb _ _ (omega arith) in
    let most : nat_le (48 + p) 55 ≡ true = le-leb _ _ (omega (arith, small)) in
    let is : 48 + p - 48 ≡ p = omega arith in
    rw (least, most, is) refl

-- the text of a GUID is read as it
guid_word-guid_text : (guid : Guid) → IsGuid guid → guid_word (guid_text guid) ≡ Ok guid
unfolding guid_word
guid_word-guid_text guid is_guid = ap guid_read (guid_of-guid_text guid is_guid)

-- the words of a get are read as it
reads_get : (guid : Guid) (name : List ℕ) (room : ℕ) → IsReadableFind guid name room
    → get_call (guid_text guid) (name_text name) (decimal room) ≡ Ok (call.Get (record { guid = guid; name = name; room = room }))
unfolding get_call
reads_get guid name room parts =
    rw (
      guid_word-guid_text guid parts.guid_fits,
      name_of-name_text name parts.name_fits.0 parts.name_fits.1,
      number_of-decimal room parts.room_fits,
    ) refl

-- the words of a next are read as it
reads_next : (guid : Guid) (name : List ℕ) (room : ℕ) → IsReadableFind guid name room
    → next_call (guid_text guid) (name_text name) (decimal room) ≡ Ok (call.Next (record { guid = guid; name = name; room = room }))
unfolding next_call
reads_next guid name room parts =
    rw (
      guid_word-guid_text guid parts.guid_fits,
      name_of-name_text name parts.name_fits.0 parts.name_fits.1,
      number_of-decimal room parts.room_fits,
    ) refl

-- the words of a set are read as it, with the verdict that was read
reads_set : (c : SetCall) → IsReadableSet c
    → set_call (guid_text c.guid) (name_text c.name) (attributes_text c.attributes) (bytes_text c.bytes) (Ok c.verdict) ≡ Ok (call.Set c)
unfolding set_call
reads_set c parts =
    rw (
      guid_word-guid_text c.guid parts.guid_fits,
      name_of-name_text c.name parts.name_fits.0 parts.name_fits.1,
      number_of-attributes_text c.attributes parts.attributes_fit,
      bytes_of-bytes_text c.bytes parts.bytes_fit,
    ) refl

-- the words behind `set` are read by the words of the verdict
set_words-verdict : (guid name attributes bytes : List ℕ) (verdict : Verdict)
    → set_words (guid ∷ name ∷ attributes ∷ bytes ∷ verdict_words verdict) ≡ set_call guid name attributes bytes (Ok verdict)
unfolding set_words verdict_of
set_words-verdict guid name attributes bytes Good = refl
set_words-verdict guid name attributes bytes Bad = refl

-- the words of a register are read as it
reads_register : (bytes : List ℕ) → AreBytes bytes → register_call (bytes_text bytes) ≡ Ok (call.Policy (policy.Register bytes))
unfolding register_call
reads_register bytes are = rw (bytes_of-bytes_text bytes are) refl

-- those of a call for a policy's entry
reads_place : (place : ℕ) → place < 2 ^ 32 → policy_call (decimal place) ≡ Ok (call.Policy (policy.At place))
unfolding policy_call
reads_place place fits = rw (number_of-decimal place fits) refl

-- the words of a call about the policies are read as the call
call_words-policy : (c : PolicyCall) → IsReadablePolicy c → call_words (policy_words_of c) ≡ Ok (call.Policy c)
unfolding call_words verb_of words_behind register_words policy_words bare_words
call_words-policy (policy.Register bytes) readable = reads_register bytes readable
call_words-policy policy.Lock readable = refl
call_words-policy policy.Disable readable = refl
call_words-policy policy.Enabled readable = refl
call_words-policy (policy.At place) readable = reads_place place readable

-- the words of a call are read as the call
call_words-call : (call : Call) → IsReadable call → call_words (call_words_of call) ≡ Ok call
unfolding call_words verb_of words_behind get_words next_words bare_words
call_words-call (call.Get c) readable = reads_get c.guid c.name c.room readable
call_words-call (call.Next c) readable = reads_next c.guid c.name c.room readable
call_words-call (call.Set c) readable =
    set_words-verdict (guid_text c.guid) (name_text c.name) (attributes_text c.attributes) (bytes_text c.bytes) c.verdict ∙ reads_set c readable
call_words-call (call.Policy c) readable = call_words-policy c readable
call_words-call call.ExitBoot readable = refl

-- so are those of its line
words_call-line : (p : ℕ) (call : Call) → p < 8 → IsReadable call → words_call (processor_word p ∷ call_words_of call) ≡ Ok (Some (p, call))
unfolding words_call
words_call-line p call small readable = rw (processor_of-processor_word p small, call_words-call call readable) refl

-- ---- the line is read as the call

-- the line of a call about the policies is its words, spaced
line_of-policy : (p : ℕ) (c : PolicyCall) → line_of p (call.Policy c) ≡ spaced (processor_word p ∷ policy_words_of c)
unfolding call_text
line_of-policy p (policy.Register bytes) = refl
line_of-policy p policy.Lock = refl
line_of-policy p policy.Disable = refl
line_of-policy p policy.Enabled = refl
line_of-policy p (policy.At place) = refl

-- the line of a call is its words, spaced
line_of-spaced : (p : ℕ) (call : Call) → line_of p call ≡ spaced (processor_word p ∷ call_words_of call)
unfolding call_text
line_of-spaced p (call.Get c) = refl
line_of-spaced p (call.Next c) = refl
line_of-spaced p (call.Set c) = refl
line_of-spaced p (call.Policy c) = line_of-policy p c
line_of-spaced p call.ExitBoot = refl

-- the line of a call may stand in a script
pub is_text-line_of : (p : ℕ) (call : Call) → p < 8 → IsReadable call → is_text (line_of p call) ≡ true
is_text-line_of p call small readable =
    ap is_text (line_of-spaced p call) ∙ is_text-spaced (processor_word p ∷ call_words_of call) (are_line_words p call small readable)

-- the words of the line of a call
words_of-line_of : (p : ℕ) (call : Call) → p < 8 → IsReadable call → words_of (line_of p call) ≡ processor_word p ∷ call_words_of call
words_of-line_of p call small readable =
    ap words_of (line_of-spaced p call) ∙ words_of-spaced (processor_word p ∷ call_words_of call) (are_line_words p call small readable)

-- the line of a call is read as the call
pub line_call-line_of : (p : ℕ) (call : Call) → p < 8 → IsReadable call → line_call (line_of p call) ≡ Ok (Some (p, call))
unfolding line_call
line_call-line_of p call small readable =
    let plain : is_comment (line_of p call) ≡ false = ne_eqb (48 + p) 35 (λ e. omega (arith, e)) in
    rw (plain, is_text-line_of p call small readable) (ap words_call (words_of-line_of p call small readable) ∙ words_call-line p call small readable)

-- a first call is none too many
first_call : (p : ℕ) → get_or {A = List Call} ([] ∷ []) p [] ≡ []
first_call zero = refl
first_call (suc p) = refl

-- one line with a call is the script of the call
one_call : (p : ℕ) (call : Call) (line : List ℕ) → line_call line ≡ Ok (Some (p, call))
    → calls_from 1 ([] ∷ []) (line ∷ []) ≡ Ok (with_call ([] ∷ []) p call)
unfolding calls_from
one_call p call line is_call = rw (is_call, first_call p) refl

-- a text of one line with a call is the script of the call
script_of-line : (p : ℕ) (call : Call) (text line : List ℕ) → length text ≤ most_script_bytes → lines text ≡ line ∷ [] → line_call line ≡ Ok (Some (p, call))
    → script_of text ≡ Ok (with_call ([] ∷ []) p call)
unfolding script_of
script_of-line p call text line short one is_call =
    let within : ltb most_script_bytes (length text) ≡ false = le-ltb _ _ short in
    rw (within, one, one_call p call line is_call) refl

-- the line of a call reads back as the call
pub script_of-line_of : (p : ℕ) (call : Call) → p < 8 → IsReadable call → length (line_of p call) ≤ most_script_bytes
    → script_of (line_of p call) ≡ Ok (with_call ([] ∷ []) p call)
script_of-line_of p call small readable short =
    script_of-line p call (line_of p call) (line_of p call) short
    (lines-one_line (line_of p call) (omega arith) (is_text-line_of p call small readable)) (line_call-line_of p call small readable)

-- so does the line with its line end
pub script_of-ended : (p : ℕ) (call : Call) → p < 8 → IsReadable call → length (line_of p call ++ 10 ∷ []) ≤ most_script_bytes
    → script_of (line_of p call ++ 10 ∷ []) ≡ Ok (with_call ([] ∷ []) p call)
script_of-ended p call small readable short =
    script_of-line p call (line_of p call ++ 10 ∷ []) (line_of p call) short
    (lines-ended_line (line_of p call) (omega arith) (is_text-line_of p call small readable)) (line_call-line_of p call small readable)
