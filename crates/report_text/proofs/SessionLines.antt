use Rattle.std.proofs.Common.{◌≡◌, ℕ, ◌+◌, List, [], ◌∷◌, ◌++◌, length, map, flat_map, decimal, refl, sym, ap, ◌∙◌, subst, append_assoc}
use Rattle.std.proofs.lemmas.List.{append-nil}
use Rattle.std.proofs.lemmas.List.Concat.{flat_map-append}
use Rattle.std.proofs.lemmas.List.Folds.{flat_map-map}
use Rattle.var_types.specs.Texts.{spaced}
use Rattle.script_text.specs.Texts.{call_text, call_words_of, policy_words_of, verdict_words}
use Rattle.var_types.specs.declared.answered.Answered.{Answered}
use Rattle.var_types.specs.declared.answered.Route.{Route}
use Rattle.var_types.specs.declared.answered.Route.TheVariants as route
use Rattle.var_types.specs.declared.call.Call.{Call}
use Rattle.var_types.specs.declared.call.Call.TheVariants as call
use Rattle.var_types.specs.declared.policy_call.PolicyCall.{PolicyCall}
use Rattle.var_types.specs.declared.policy_call.PolicyCall.TheVariants as policy
use Rattle.var_types.specs.declared.reply.Reply.{Reply}
use Rattle.var_types.specs.declared.verdict.Verdict.{Verdict}
use Rattle.var_types.specs.declared.verdict.Verdict.TheVariants.{Good, Bad}
use Rattle.var_types.specs.History.{Entry}
use Rattle.report_text.specs.declared.word.Word.{Word}
use Rattle.report_text.specs.declared.word.Word.TheVariants as word
use Rattle.report_text.specs.Replies.{reply_text}
use Rattle.report_text.specs.Report.{entry_line, history_lines, route_text, answer_line, indexed, processor_lines, session_text}
use Rattle.report_text.specs.Line.{line_text}
use Rattle.report_text.specs.Word.{word_text}
use Rattle.report_text.proofs.ReplyWords.{reply_words, reply_text-words, HaveWords-reply}
use Rattle.report_text.proofs.SameWords.{HaveWords, ended, AreLines-append}
use Rattle.report_text.proofs.WordBytes.{IsLine, AreLines, AreWords, AreLines-words, IsLine-word, IsLine-spaced, IsWord-attributes_text, IsWord-bytes_text, IsWord-decimal, IsWord-guid_text, IsWord-name_text, IsWord-word_text}

-- ---- the lines of a report, without their ends

-- the words of a change's line
abbrev pub entry_words : Entry → List (List ℕ)
entry_words entry = decimal entry.number ∷ decimal entry.processor ∷ decimal entry.index ∷ call_text entry.call ∷ []

-- the words of an answered call's line; its reply is the last of them
abbrev pub answer_words : ℕ → Answered → List (List ℕ)
answer_words index a = decimal index ∷ decimal a.place ∷ route_text a.route ∷ reply_text a.reply ∷ []

-- the lines of answered calls, the first of which has this index
abbrev pub answer_texts : ℕ → List Answered → List (List ℕ)
answer_texts index [] = []
answer_texts index (a ∷ rest) = spaced (answer_words index a) ∷ answer_texts (index + 1) rest

-- the words of the first line
abbrev pub history_words : ℕ → List (List ℕ)
history_words n = word_text word.History ∷ decimal n ∷ []

-- the words of the line before a processor's answered calls
abbrev pub processor_words : ℕ → ℕ → List (List ℕ)
processor_words processor n = word_text word.Processor ∷ decimal processor ∷ word_text word.Calls ∷ decimal n ∷ []

-- the line of a change
abbrev pub entry_text : Entry → List ℕ
entry_text entry = spaced (entry_words entry)

-- the lines of the history
abbrev pub first_lines : List Entry → List (List ℕ)
first_lines history = spaced (history_words (length history)) ∷ map entry_text history

-- the lines behind them, of processors from this one on
abbrev pub last_lines : ℕ → List (List Answered) → List (List ℕ)
last_lines processor [] = word_text word.End ∷ []
last_lines processor (answered ∷ rest) =
    spaced (processor_words processor (length answered)) ∷ (answer_texts 0 answered ++ last_lines (processor + 1) rest)

-- ---- a report is its lines

-- the lines of the history
history_lines-ended : (history : List Entry) → history_lines history ≡ flat_map ended (first_lines history)
unfolding history_lines entry_line
history_lines-ended history =
    ap (λ (t : List ℕ). ended (spaced (history_words (length history))) ++ t) (sym (flat_map-map ended entry_text history))

-- the lines of answered calls
answer_lines-ended : (index : ℕ) (xs : List Answered) → indexed answer_line index xs ≡ flat_map ended (answer_texts index xs)
unfolding answer_line
answer_lines-ended index [] = refl
answer_lines-ended index (a ∷ rest) = ap (λ (t : List ℕ). answer_line index a ++ t) (answer_lines-ended (index + 1) rest)

-- a first line, those of the answered calls, and later ones
lines-ended : (first : List ℕ) (xs : List Answered) (later : List (List ℕ))
    → (ended first ++ indexed answer_line 0 xs) ++ flat_map ended later ≡ flat_map ended (first ∷ (answer_texts 0 xs ++ later))
lines-ended first xs later =
    append_assoc (ended first) (indexed answer_line 0 xs) (flat_map ended later)
    ∙ ap (λ (t : List ℕ). ended first ++ t) (
    ap (λ (t : List ℕ). t ++ flat_map ended later) (answer_lines-ended 0 xs)
    ∙ sym (flat_map-append ended (answer_texts 0 xs) later))

-- the lines behind the history
last_lines-ended : (processor : ℕ) (xs : List (List Answered))
    → indexed processor_lines processor xs ++ line_text (word_text word.End ∷ []) ≡ flat_map ended (last_lines processor xs)
unfolding processor_lines
last_lines-ended processor [] = sym (append-nil (ended (word_text word.End)))
last_lines-ended processor (x ∷ xs) =
    append_assoc (processor_lines processor x) (indexed processor_lines (processor + 1) xs) (line_text (word_text word.End ∷ []))
    ∙ ap (λ (t : List ℕ). processor_lines processor x ++ t) (last_lines-ended (processor + 1) xs)
    ∙ lines-ended (spaced (processor_words processor (length x))) x (last_lines (processor + 1) xs)

-- all lines
pub session_text-lines : (history : List Entry) (xs : List (List Answered))
    → session_text history xs ≡ flat_map ended (first_lines history ++ last_lines 0 xs)
unfolding session_text
session_text-lines history xs =
    ap (λ (t : List ℕ). history_lines history ++ t) (last_lines-ended 0 xs)
    ∙ ap (λ (t : List ℕ). t ++ flat_map ended (last_lines 0 xs)) (history_lines-ended history)
    ∙ sym (flat_map-append ended (first_lines history) (last_lines 0 xs))

-- ---- no line has a LF

-- the words of a verdict
AreWords-verdict : (verdict : Verdict) → AreWords (verdict_words verdict)
AreWords-verdict Good = tt
AreWords-verdict Bad = (refl, tt)

-- the words of a call about the policies
AreWords-policy : (c : PolicyCall) → AreWords (policy_words_of c)
AreWords-policy (policy.Register bytes) = (refl, (IsWord-bytes_text bytes, tt))
AreWords-policy policy.Lock = (refl, tt)
AreWords-policy policy.Disable = (refl, tt)
AreWords-policy policy.Enabled = (refl, tt)
AreWords-policy (policy.At place) = (refl, (IsWord-decimal place, tt))

-- the words of a call
AreWords-call : (c : Call) → AreWords (call_words_of c)
AreWords-call (call.Get c) = (refl, (IsWord-guid_text c.guid, (IsWord-name_text c.name, (IsWord-decimal c.room, tt))))
AreWords-call (call.Next c) = (refl, (IsWord-guid_text c.guid, (IsWord-name_text c.name, (IsWord-decimal c.room, tt))))
AreWords-call (call.Set c) =
    (refl, (IsWord-guid_text c.guid, (IsWord-name_text c.name, (IsWord-attributes_text c.attributes, (IsWord-bytes_text c.bytes, AreWords-verdict c.verdict)))))
AreWords-call (call.Policy c) = AreWords-policy c
AreWords-call call.ExitBoot = (refl, tt)

-- a call
IsLine-call : (c : Call) → IsLine (call_text c)
unfolding call_text
IsLine-call c = IsLine-spaced (call_words_of c) (AreLines-words (call_words_of c) (AreWords-call c))

-- at least one word is words
AreWords-have : (ws : List (List ℕ)) → HaveWords ws → AreWords ws
AreWords-have [] h = absurd h
AreWords-have (w ∷ ws) h = h

-- a reply
IsLine-reply : (r : Reply) → IsLine (reply_text r)
IsLine-reply r =
    subst IsLine (sym (reply_text-words r))
    (IsLine-spaced (reply_words r) (AreLines-words (reply_words r) (AreWords-have (reply_words r) (HaveWords-reply r))))

-- a number
number_line : (n : ℕ) → IsLine (decimal n)
number_line n = IsLine-word (decimal n) (IsWord-decimal n)

-- a fixed word
word_line : (w : Word) → IsLine (word_text w)
word_line w = IsLine-word (word_text w) (IsWord-word_text w)

-- a route
IsLine-route : (r : Route) → IsLine (route_text r)
unfolding route_text
IsLine-route route.Plain = word_line word.Plain
IsLine-route route.Cache = word_line word.Cache
IsLine-route (route.Merged made held) =
    IsLine-spaced (word_text word.Merged ∷ decimal made ∷ decimal held ∷ []) (word_line word.Merged, (number_line made, (number_line held, tt)))
IsLine-route (route.Writer holder) =
    IsLine-spaced (word_text word.Writer ∷ decimal holder ∷ []) (word_line word.Writer, (number_line holder, tt))
IsLine-route route.Flushed = word_line word.Flushed
IsLine-route (route.Deferred holder) =
    IsLine-spaced (word_text word.Deferred ∷ decimal holder ∷ []) (word_line word.Deferred, (number_line holder, tt))

-- the lines of changes
AreLines-history : (history : List Entry) → AreLines (map entry_text history)
AreLines-history [] = tt
AreLines-history (entry ∷ rest) = (
  IsLine-spaced (entry_words entry) (number_line entry.number, (number_line entry.processor, (number_line entry.index, (IsLine-call entry.call, tt)))),
  AreLines-history rest,
)

-- the lines of answered calls, without LF
AreLines-answers : (index : ℕ) (xs : List Answered) → AreLines (answer_texts index xs)
AreLines-answers index [] = tt
AreLines-answers index (a ∷ rest) = (
  IsLine-spaced (answer_words index a) (number_line index, (number_line a.place, (IsLine-route a.route, (IsLine-reply a.reply, tt)))),
  AreLines-answers (index + 1) rest,
)

-- the lines of the history, without LF
AreLines-first : (history : List Entry) → AreLines (first_lines history)
AreLines-first history = (
  IsLine-spaced (history_words (length history)) (word_line word.History, (number_line (length history), tt)),
  AreLines-history history,
)

-- the lines behind them, without LF
AreLines-last : (processor : ℕ) (xs : List (List Answered)) → AreLines (last_lines processor xs)
AreLines-last processor [] = (word_line word.End, tt)
AreLines-last processor (x ∷ xs) = (
  IsLine-spaced (processor_words processor (length x))
      (word_line word.Processor, (number_line processor, (word_line word.Calls, (number_line (length x), tt)))),
  AreLines-append (answer_texts 0 x) (last_lines (processor + 1) xs) (AreLines-answers 0 x) (AreLines-last (processor + 1) xs),
)

-- all lines, without LF
pub AreLines-session : (history : List Entry) (xs : List (List Answered)) → AreLines (first_lines history ++ last_lines 0 xs)
AreLines-session history xs = AreLines-append (first_lines history) (last_lines 0 xs) (AreLines-first history) (AreLines-last 0 xs)
