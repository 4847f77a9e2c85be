-- What calls come to, in numbers.
use Rattle.std.specs.Prelude.{◌≡◌, ◌++◌, ℕ, Bool, true, false, not, List, [], ◌∷◌, length, count_by, decimal, map}
use Rattle.report_text.specs.declared.sizes.Sizes.{Sizes}
use Rattle.report_text.specs.declared.word.Word.TheVariants as word
use Rattle.report_text.specs.Line.{line_text}
use Rattle.report_text.specs.Sizes.{sizes_of}
use Rattle.report_text.specs.Word.{word_text}
use Rattle.var_types.specs.declared.answered.Answered.{Answered}
use Rattle.var_types.specs.declared.call.Call.{Call}
use Rattle.var_types.specs.declared.policy_reply.PolicyReply.TheVariants as policy
use Rattle.var_types.specs.declared.reply.ExitReply.TheVariants as exit
use Rattle.var_types.specs.declared.reply.GetReply.TheVariants as get
use Rattle.var_types.specs.declared.reply.NextReply.TheVariants as next
use Rattle.var_types.specs.declared.reply.Reply.{Reply}
use Rattle.var_types.specs.declared.reply.Reply.TheVariants.{Get as GetReplied, Next as NextReplied, Set as SetReplied, Policy as PolicyReplied, Exit as ExitReplied}
use Rattle.var_types.specs.declared.reply.SetReply.TheVariants as set
use Rattle.var_types.specs.State.{State}
use Rattle.var_types.specs.Step.{is_change, step}
use Rattle.report_text.specs.declared.summary.Summary.{Summary}

-- whether a reply says that its call came to what it asked for (this project's own)
abbrev pub is_done : Reply → Bool
is_done (GetReplied (get.Ok attributes bytes)) = true
is_done (NextReplied (next.Ok key)) = true
is_done (SetReplied set.Ok) = true
is_done (SetReplied set.Same) = true
is_done (PolicyReplied policy.Ok) = true
is_done (PolicyReplied policy.On) = true
is_done (PolicyReplied policy.Off) = true
is_done (PolicyReplied (policy.Entry bytes)) = true
is_done (ExitReplied exit.Ok) = true
is_done (ExitReplied exit.Same) = true
is_done _ = false

-- whether a reply says that it didn't (this project's own)
abbrev pub is_refused : Reply → Bool
is_refused reply = not (is_done reply)

-- the numbers of replies, and the sizes of the variables that their calls leave (this project's own)
abbrev pub summary_of : List Reply → Sizes → Summary
summary_of replies sizes = record {
  calls = length replies;
  changes = count_by is_change replies;
  refused = count_by is_refused replies;
  variables = sizes.variables;
  bytes = sizes.bytes;
}

-- the replies of answered calls
abbrev pub replies_of : List Answered → List Reply
replies_of answered = map (λ a. a.reply) answered

-- the line of a summary (this project's own)
unfoldable pub summary_line : Summary → List ℕ
summary_line s =
    line_text (
    word_text word.Calls
    ∷ decimal s.calls
    ∷ word_text word.Changes
    ∷ decimal s.changes
    ∷ word_text word.Refused
    ∷ decimal s.refused
    ∷ word_text word.Variables
    ∷ decimal s.variables
    ∷ word_text word.Bytes
    ∷ decimal s.bytes
    ∷ []
    )

-- the replies of the one-thread service to calls that are made one after the other from a state (UEFI 2.10, 8.2)
abbrev pub replies_from : State → List Call → List Reply
replies_from state [] = []
replies_from state (call ∷ calls) = (step state call).0 ∷ replies_from (step state call).1 calls

-- the state that they leave (UEFI 2.10, 8.2)
abbrev pub state_from : State → List Call → State
state_from state [] = state
state_from state (call ∷ calls) = state_from (step state call).1 calls

-- what calls come to that are made one after the other from a state (this project's own)
abbrev pub summary_from : State → List Call → Summary
summary_from state calls = summary_of (replies_from state calls) (sizes_of (state_from state calls).variables)

-- one call more has the service's reply in the state that the calls before it leave, and leaves the state that it leads to (this project's own)
abbrev pub OneCallMore : Type 0
OneCallMore =
    (state : State) (calls : List Call) (call : Call)
    → (replies_from state (calls ++ call ∷ []) ≡ replies_from state calls ++ (step (state_from state calls) call).0 ∷ [])
    × (state_from state (calls ++ call ∷ []) ≡ (step (state_from state calls) call).1)
