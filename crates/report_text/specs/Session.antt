-- The report of a session in which all calls of processor 0 were made, then all of processor 1, and so on.
use Rattle.std.specs.Prelude.{◌≡◌, ℕ, ◌+◌, List, [], ◌∷◌, ◌++◌, map, All}
use Rattle.var_types.specs.declared.answered.Answered.{Answered}
use Rattle.var_types.specs.History.{Entry}
use Rattle.var_types.specs.Session.{calls_of, changes_from}
use Rattle.report_text.specs.Fitting.{IsFitting}
use Rattle.report_text.specs.Report.{session_text}

-- the changes of each processor's answered calls, one processor after the other, the first of which has this number (this project's own)
abbrev pub history_from : ℕ → List (List Answered) → List Entry
history_from processor [] = []
history_from processor (answered ∷ rest) = changes_from processor 0 answered ++ history_from (processor + 1) rest

-- the report of such a session (this project's own)
abbrev pub report_of : List (List Answered) → List ℕ
report_of processors = session_text (history_from 0 processors) processors

-- one report, one session: sessions that answer the same calls of each processor, with replies that fit them, and have the same report are the
-- same, whatever their histories are (this project's own)
abbrev pub OneReportOneSession : Type 0
OneReportOneSession =
    (hx hy : List Entry) (xs ys : List (List Answered)) → map calls_of xs ≡ map calls_of ys → All (All IsFitting) xs → All (All IsFitting) ys
    → session_text hx xs ≡ session_text hy ys → xs ≡ ys
