-- The replies that answers in a caller's buffer stand for.
use Rattle.std.specs.Prelude.{◌≡◌, ℕ, List, Some}
use Rattle.var_types.specs.Answers.{get_answer, next_answer}
use Rattle.var_types.specs.declared.answers.GetAnswer.{GetAnswer}
use Rattle.var_types.specs.declared.answers.NextAnswer.{NextAnswer}
use Rattle.var_types.specs.declared.reply.GetReply.{GetReply}
use Rattle.var_types.specs.declared.reply.NextReply.{NextReply}

-- a caller is given this answer to a reply of GetVariable, and has this in its buffer then (UEFI 2.10, 8.2.1)
abbrev pub IsGetAnswered : GetAnswer → List ℕ → GetReply → Type 0
IsGetAnswered answer buffer reply = (into : List ℕ) × (Some (answer, buffer) ≡ get_answer reply into)

-- the same of GetNextVariableName (UEFI 2.10, 8.2.2)
abbrev pub IsNextAnswered : NextAnswer → List ℕ → NextReply → Type 0
IsNextAnswered answer buffer reply = (into : List ℕ) × (Some (answer, buffer) ≡ next_answer reply into)
