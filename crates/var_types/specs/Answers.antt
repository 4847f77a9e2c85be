-- What get and next answer where the caller's buffer takes what they found.
use Rattle.std.specs.Prelude.{ℕ, List, ◌++◌, length, drop, Option, Some, None}
use Rattle.var_types.specs.declared.answers.GetAnswer.{GetAnswer}
use Rattle.var_types.specs.declared.answers.GetAnswer.TheVariants as get_answers
use Rattle.var_types.specs.declared.answers.NextAnswer.{NextAnswer}
use Rattle.var_types.specs.declared.answers.NextAnswer.TheVariants as next_answers
use Rattle.var_types.specs.declared.reply.GetReply.{GetReply}
use Rattle.var_types.specs.declared.reply.GetReply.TheVariants as get
use Rattle.var_types.specs.declared.reply.NextReply.{NextReply}
use Rattle.var_types.specs.declared.reply.NextReply.TheVariants as next

-- a buffer with these numbers at its front, and the rest of it as before
abbrev pub at_front : List ℕ → List ℕ → List ℕ
at_front numbers buffer = numbers ++ drop (length numbers) buffer

-- a reply of GetVariable as the answer to a caller with a buffer, and the buffer afterwards: the data stand at its front; none where the call
-- was out of memory, which an answer never is (UEFI 2.10, 8.2.1)
unfoldable pub get_answer : GetReply → List ℕ → Option (GetAnswer × List ℕ)
get_answer get.NotFound buffer = Some (get_answers.NotFound, buffer)
get_answer (get.TooSmall attributes needed) buffer = Some (get_answers.TooSmall attributes needed, buffer)
get_answer (get.Ok attributes bytes) buffer = Some (get_answers.Ok attributes (length bytes), at_front bytes buffer)
get_answer get.OutOfMemory buffer = None

-- a reply of GetNextVariableName as the answer to a caller with a buffer, and the buffer afterwards: the name's units stand at its front,
-- without a NUL; none where the call was out of memory, which an answer never is (UEFI 2.10, 8.2.2)
unfoldable pub next_answer : NextReply → List ℕ → Option (NextAnswer × List ℕ)
next_answer next.NoSuch buffer = Some (next_answers.NoSuch, buffer)
next_answer next.End buffer = Some (next_answers.End, buffer)
next_answer (next.TooSmall needed) buffer = Some (next_answers.TooSmall needed, buffer)
next_answer (next.Ok key) buffer = Some (next_answers.Ok key.guid (length key.name), at_front key.name buffer)
next_answer next.OutOfMemory buffer = None
