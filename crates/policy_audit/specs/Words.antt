-- The policy that the words of a line spell.
use Rattle.std.specs.Prelude.{ℕ, ◌==◌, not, Bool, List, [], ◌∷◌, length, codes, nat_lt, if◌then◌else◌, Option, Some, None, Result, Ok, Err}
use Rattle.script_text.specs.Lines.{is_comment, is_text, words_of}
use Rattle.script_text.specs.Names.{name_of}
use Rattle.script_text.specs.Numbers.{number_of}
use Rattle.script_text.specs.Words.{◌>>=◌, guid_word, is_word}
use Rattle.var_types.specs.declared.guid.Guid.{Guid}
use Rattle.var_types.specs.declared.policy.Lock.{Lock as PolicyLock}
use Rattle.var_types.specs.declared.policy.Lock.TheVariants as locks
use Rattle.var_types.specs.declared.policy.Policy.{Policy}
use Rattle.var_types.specs.Key.{key_of}
use Rattle.var_types.specs.PolicyEntry.{entry_bytes, entry_of}
use Rattle.var_types.specs.Texts.{is_dash}
use Rattle.policy_audit.specs.declared.policy_line.PolicyLine.{PolicyLine}
use Rattle.policy_audit.specs.declared.policy_line.PolicyLine.TheVariants as reason

-- what was read, or this reason
abbrev pub or_reason : {A E : Type 0} → PolicyLine → Result A E → Result A PolicyLine
or_reason why (Ok value) = Ok value
or_reason why (Err e) = Err why

-- a name that there is
abbrev pub named : Result (List ℕ) PolicyLine → Result (Option (List ℕ)) PolicyLine
named (Ok units) = Ok (Some units)
named (Err why) = Err why

-- the name of a word: `-` is none, which covers all names (this project's own)
unfoldable pub policy_name : List ℕ → Result (Option (List ℕ)) PolicyLine
policy_name word = if is_dash word then Ok None else named (or_reason reason.Name (name_of word))

-- the number of a word
unfoldable pub policy_number : List ℕ → Result ℕ PolicyLine
policy_number word = or_reason reason.Number (number_of word)

-- the greatest size of a word: `-` is no limit (EDK II, VARIABLE_POLICY_NO_MAX_SIZE; the word is this project's own)
unfoldable pub policy_max : List ℕ → Result ℕ PolicyLine
policy_max word = if is_dash word then Ok 0xFFFFFFFF else policy_number word

-- a number that is a byte
abbrev pub if_byte : ℕ → Result ℕ PolicyLine
if_byte number = if nat_lt number 256 then Ok number else Err reason.Lock

-- the lock of the three words behind `state`: the GUID and the name of a variable, and the value of its one byte (this project's own)
unfoldable pub state_lock : List ℕ → List ℕ → List ℕ → Result PolicyLock PolicyLine
state_lock guid name value = do
  guid ← or_reason reason.Lock (guid_word guid)
  name ← or_reason reason.Lock (name_of name)
  number ← or_reason reason.Lock (number_of value)
  value ← if_byte number
  Ok (locks.OnState (key_of guid name) value)

-- the lock of the words behind `state`
unfoldable pub state_words : List (List ℕ) → Result PolicyLock PolicyLine
state_words (guid ∷ name ∷ value ∷ []) = state_lock guid name value
state_words _ = Err reason.Lock

-- the lock of a word and those behind it (this project's own)
unfoldable pub lock_words : List ℕ → List (List ℕ) → Result PolicyLock PolicyLine
lock_words word rest =
    if is_word (codes "none") word then Ok locks.NoLock
    else if is_word (codes "now") word then Ok locks.Now
    else if is_word (codes "create") word then Ok locks.OnCreate
    else if is_word (codes "state") word then state_words rest
    else Err reason.Lock

-- whether as many words stand behind the word of a lock as it asks for: three behind `state`, none behind any other
unfoldable pub has_lock_words : List ℕ → List (List ℕ) → Bool
has_lock_words word rest = if is_word (codes "state") word then length rest == 3 else length rest == 0

-- a policy by its namespace, its name, its least and greatest size, the attributes that it asks for and forbids, and what was read of its lock
unfoldable pub spelled : List ℕ → List ℕ → List ℕ → List ℕ → List ℕ → List ℕ → Result PolicyLock PolicyLine → Result Policy PolicyLine
spelled guid name min max must cant lock = do
  namespace ← or_reason reason.Guid (guid_word guid)
  name ← policy_name name
  min ← policy_number min
  max ← policy_max max
  must ← policy_number must
  cant ← policy_number cant
  lock ← lock
  Ok (record { namespace = namespace; name = name; min = min; max = max; must = must; cant = cant; lock = lock })

-- the policy that is read of a policy's entry (EDK II, VARIABLE_POLICY_ENTRY)
unfoldable pub through_entry : Policy → Result Policy PolicyLine
through_entry policy = or_reason reason.Entry (entry_of (entry_bytes policy))

-- the policy that is read of the entry of a policy that words spell, where they do
abbrev pub checked : Result Policy PolicyLine → Result Policy PolicyLine
checked read = read >>= through_entry

-- the policy of a line's words: the one whose entry they spell (this project's own)
unfoldable pub policy_words : List (List ℕ) → Result Policy PolicyLine
policy_words (guid ∷ name ∷ min ∷ max ∷ must ∷ cant ∷ lock ∷ rest) =
    if has_lock_words lock rest then checked (spelled guid name min max must cant (lock_words lock rest))
    else Err reason.Words
policy_words _ = Err reason.Words

-- the policy of a line that has words
unfoldable pub words_policy : List (List ℕ) → Result (Option Policy) PolicyLine
words_policy [] = Ok None
words_policy (word ∷ rest) = policy_words (word ∷ rest) >>= λ policy. Ok (Some policy)

-- the policy of a line, if it has one, or the first reason to refuse it: a comment and a line without words have none (this project's own)
unfoldable pub line_policy : List ℕ → Result (Option Policy) PolicyLine
line_policy line =
    if is_comment line then Ok None
    else if not (is_text line) then Err reason.Text
    else words_policy (words_of line)
