-- Replies that fit their calls.
use Rattle.var_types.specs.declared.answered.Answered.{Answered}
use Rattle.var_types.specs.Step.{IsOfKind}
use Rattle.report_text.specs.Values.{AnswerHasValues}

-- an answered call has a reply of its kind, and its parts are values of their types (this project's own)
abbrev pub IsFitting : Answered → Type 0
IsFitting a = IsOfKind a.call a.reply × AnswerHasValues a
