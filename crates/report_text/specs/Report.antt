use Rattle.std.specs.Prelude.{ℕ, ◌+◌, List, [], ◌∷◌, ◌++◌, length, decimal, flat_map}
use Rattle.script_text.specs.Texts.{call_text}
use Rattle.var_types.specs.declared.answered.Answered.{Answered}
use Rattle.var_types.specs.declared.answered.Route.{Route}
use Rattle.var_types.specs.declared.answered.Route.TheVariants as route
use Rattle.var_types.specs.History.{Entry}
use Rattle.var_types.specs.Texts.{spaced}
use Rattle.report_text.specs.declared.word.Word.TheVariants as word
use Rattle.report_text.specs.Line.{line_text}
use Rattle.report_text.specs.Replies.{reply_text}
use Rattle.report_text.specs.Word.{word_text}

-- the line of a change: its number, the processor and the index of its call, and the call (this project's own)
unfoldable pub entry_line : Entry → List ℕ
entry_line entry = line_text (decimal entry.number ∷ decimal entry.processor ∷ decimal entry.index ∷ call_text entry.call ∷ [])

-- the lines of a history: how many changes, and each of them (this project's own)
unfoldable pub history_lines : List Entry → List ℕ
history_lines history =
    line_text (word_text word.History ∷ decimal (length history) ∷ []) ++ flat_map entry_line history

-- the route of a reply: `-` of the service itself, or its word and its numbers (this project's own)
unfoldable pub route_text : Route → List ℕ
route_text route.Plain = spaced (word_text word.Plain ∷ [])
route_text route.Cache = spaced (word_text word.Cache ∷ [])
route_text (route.Merged made held) = spaced (word_text word.Merged ∷ decimal made ∷ decimal held ∷ [])
route_text (route.Writer holder) = spaced (word_text word.Writer ∷ decimal holder ∷ [])
route_text route.Flushed = spaced (word_text word.Flushed ∷ [])
route_text (route.Deferred holder) = spaced (word_text word.Deferred ∷ decimal holder ∷ [])

-- the line of an answered call: its index, its place, its route and the reply (this project's own)
unfoldable pub answer_line : ℕ → Answered → List ℕ
answer_line index a = line_text (decimal index ∷ decimal a.place ∷ route_text a.route ∷ reply_text a.reply ∷ [])

-- a text for each item with its index, the first of which has this one
abbrev pub indexed : {A : Type 0} → (ℕ → A → List ℕ) → ℕ → List A → List ℕ
indexed text index [] = []
indexed text index (a ∷ rest) = text index a ++ indexed text (index + 1) rest

-- the lines of a processor: its number, how many calls it made, and each reply (this project's own)
unfoldable pub processor_lines : ℕ → List Answered → List ℕ
processor_lines processor answered =
    line_text (word_text word.Processor ∷ decimal processor ∷ word_text word.Calls ∷ decimal (length answered) ∷ []) ++ indexed answer_line 0 answered

-- the report of a session: its history, the replies to each processor, and the end (this project's own)
unfoldable pub session_text : List Entry → List (List Answered) → List ℕ
session_text history processors = history_lines history ++ (indexed processor_lines 0 processors ++ line_text (word_text word.End ∷ []))
