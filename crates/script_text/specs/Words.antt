use Rattle.std.specs.Prelude.{ℕ, ◌==◌, not, Bool, List, [], ◌∷◌, codes, if◌then◌else◌, Option, Some, None, Result, Ok, Err}
use Rattle.var_types.specs.declared.call.Call.{Call}
use Rattle.var_types.specs.declared.call.Call.TheVariants as call
use Rattle.var_types.specs.declared.guid.Guid.{Guid}
use Rattle.var_types.specs.declared.guid.NotAGuid.{NotAGuid}
use Rattle.var_types.specs.declared.policy_call.PolicyCall.TheVariants as policy
use Rattle.var_types.specs.declared.verdict.Verdict.{Verdict}
use Rattle.var_types.specs.declared.verdict.Verdict.TheVariants.{Bad, Good}
use Rattle.var_types.specs.Guid.{guid_of}
use Rattle.script_text.specs.declared.line_reason.LineReason.{LineReason}
use Rattle.script_text.specs.declared.line_reason.LineReason.TheVariants as reason
use Rattle.script_text.specs.declared.verb.Verb.{Verb}
use Rattle.script_text.specs.declared.verb.Verb.TheVariants as verb
use Rattle.script_text.specs.Lines.{words_of, is_text, is_comment}
use Rattle.script_text.specs.Names.{name_of}
use Rattle.script_text.specs.Numbers.{number_of, bytes_of, processor_of}
use lib.Pointwise.{pointwise}

-- the second step, where the first found no reason to refuse
infixl 10 ◌>>=◌
abbrev pub ◌>>=◌ : {A B E : Type 0} → Result A E → (A → Result B E) → Result B E
(Ok x) >>= f = f x
(Err e) >>= f = Err e

-- whether a word is this text
abbrev pub is_word : List ℕ → List ℕ → Bool
is_word text word = pointwise ◌==◌ word text

-- the verb of a word (this project's own)
unfoldable pub verb_of : List ℕ → Result Verb LineReason
verb_of word =
    if is_word (codes "get") word then Ok verb.Get
    else if is_word (codes "next") word then Ok verb.Next
    else if is_word (codes "set") word then Ok verb.Set
    else if is_word (codes "register") word then Ok verb.Register
    else if is_word (codes "lock") word then Ok verb.Lock
    else if is_word (codes "disable") word then Ok verb.Disable
    else if is_word (codes "enabled") word then Ok verb.Enabled
    else if is_word (codes "policy") word then Ok verb.Policy
    else if is_word (codes "exitboot") word then Ok verb.ExitBoot
    else Err reason.Verb

-- the GUID of a word
abbrev pub guid_read : Result Guid NotAGuid → Result Guid LineReason
guid_read (Ok guid) = Ok guid
guid_read (Err e) = Err reason.Guid

unfoldable pub guid_word : List ℕ → Result Guid LineReason
guid_word word = guid_read (guid_of word)

-- a get by its GUID, its name and its room
unfoldable pub get_call : List ℕ → List ℕ → List ℕ → Result Call LineReason
get_call guid name room = do
  guid ← guid_word guid
  name ← name_of name
  room ← number_of room
  Ok (call.Get (record { guid = guid; name = name; room = room }))

-- a next by its GUID, its name and its room
unfoldable pub next_call : List ℕ → List ℕ → List ℕ → Result Call LineReason
next_call guid name room = do
  guid ← guid_word guid
  name ← name_of name
  room ← number_of room
  Ok (call.Next (record { guid = guid; name = name; room = room }))

-- the verdict of a word (this project's own)
unfoldable pub verdict_of : List ℕ → Result Verdict LineReason
verdict_of word =
    if is_word (codes "good") word then Ok Good
    else if is_word (codes "bad") word then Ok Bad
    else Err reason.Verdict

-- a set by its GUID, its name, its attributes, its bytes, and what was read of its verdict
unfoldable pub set_call : List ℕ → List ℕ → List ℕ → List ℕ → Result Verdict LineReason → Result Call LineReason
set_call guid name attributes bytes verdict = do
  guid ← guid_word guid
  name ← name_of name
  attributes ← number_of attributes
  bytes ← bytes_of bytes
  verdict ← verdict
  Ok (call.Set (record { guid = guid; name = name; attributes = attributes; bytes = bytes; verdict = verdict }))

-- the words behind `get`
unfoldable pub get_words : List (List ℕ) → Result Call LineReason
get_words (guid ∷ name ∷ room ∷ []) = get_call guid name room
get_words _ = Err reason.Words

-- the words behind `next`
unfoldable pub next_words : List (List ℕ) → Result Call LineReason
next_words (guid ∷ name ∷ room ∷ []) = next_call guid name room
next_words _ = Err reason.Words

-- the verdict behind the other words of a set: without one it is good (this project's own)
abbrev pub last_verdict : List (List ℕ) → Result (Result Verdict LineReason) LineReason
last_verdict [] = Ok (Ok Good)
last_verdict (verdict ∷ []) = Ok (verdict_of verdict)
last_verdict (verdict ∷ more ∷ rest) = Err reason.Words

-- the words behind `set`
unfoldable pub set_words : List (List ℕ) → Result Call LineReason
set_words (guid ∷ name ∷ attributes ∷ bytes ∷ rest) = last_verdict rest >>= set_call guid name attributes bytes
set_words _ = Err reason.Words

-- a register by the bytes of its entry
unfoldable pub register_call : List ℕ → Result Call LineReason
register_call bytes = do
  bytes ← bytes_of bytes
  Ok (call.Policy (policy.Register bytes))

-- the words behind `register`
unfoldable pub register_words : List (List ℕ) → Result Call LineReason
register_words (bytes ∷ []) = register_call bytes
register_words _ = Err reason.Words

-- a call for a policy's entry by its place
unfoldable pub policy_call : List ℕ → Result Call LineReason
policy_call place = do
  place ← number_of place
  Ok (call.Policy (policy.At place))

-- the words behind `policy`
unfoldable pub policy_words : List (List ℕ) → Result Call LineReason
policy_words (place ∷ []) = policy_call place
policy_words _ = Err reason.Words

-- a call whose verb has no words behind it
unfoldable pub bare_words : Call → List (List ℕ) → Result Call LineReason
bare_words c [] = Ok c
bare_words c _ = Err reason.Words

-- the words behind a verb
unfoldable pub words_behind : Verb → List (List ℕ) → Result Call LineReason
words_behind verb.Get rest = get_words rest
words_behind verb.Next rest = next_words rest
words_behind verb.Set rest = set_words rest
words_behind verb.Register rest = register_words rest
words_behind verb.Lock rest = bare_words (call.Policy policy.Lock) rest
words_behind verb.Disable rest = bare_words (call.Policy policy.Disable) rest
words_behind verb.Enabled rest = bare_words (call.Policy policy.Enabled) rest
words_behind verb.Policy rest = policy_words rest
words_behind verb.ExitBoot rest = bare_words call.ExitBoot rest

-- the words behind the processor's number
unfoldable pub call_words : List (List ℕ) → Result Call LineReason
call_words [] = Err reason.Verb
call_words (word ∷ rest) = verb_of word >>= λ v. words_behind v rest

-- the call of a line's words with its processor; a line without words has none
unfoldable pub words_call : List (List ℕ) → Result (Option (ℕ × Call)) LineReason
words_call [] = Ok None
words_call (word ∷ rest) = do
  processor ← processor_of word
  call ← call_words rest
  Ok (Some (processor, call))

-- the call of a line with its processor, if it has one, or the first reason to refuse it (this project's own)
unfoldable pub line_call : List ℕ → Result (Option (ℕ × Call)) LineReason
line_call line =
    if is_comment line then Ok None
    else if not (is_text line) then Err reason.Text
    else words_call (words_of line)
