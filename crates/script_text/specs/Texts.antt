use Rattle.std.specs.Prelude.{ℕ, List, [], ◌∷◌, codes, decimal}
use Rattle.var_types.specs.declared.call.Call.{Call}
use Rattle.var_types.specs.declared.call.Call.TheVariants as call
use Rattle.var_types.specs.declared.policy_call.PolicyCall.{PolicyCall}
use Rattle.var_types.specs.declared.policy_call.PolicyCall.TheVariants as policy
use Rattle.var_types.specs.declared.verdict.Verdict.{Verdict}
use Rattle.var_types.specs.declared.verdict.Verdict.TheVariants.{Good, Bad}
use Rattle.var_types.specs.Guid.{guid_text}
use Rattle.var_types.specs.Texts.{attributes_text, bytes_text, name_text, spaced}

-- the word of a verdict: none where it is good (this project's own)
abbrev pub verdict_words : Verdict → List (List ℕ)
verdict_words Good = []
verdict_words Bad = codes "bad" ∷ []

-- the words of a call about the policies (this project's own)
abbrev pub policy_words_of : PolicyCall → List (List ℕ)
policy_words_of (policy.Register bytes) = codes "register" ∷ bytes_text bytes ∷ []
policy_words_of policy.Lock = codes "lock" ∷ []
policy_words_of policy.Disable = codes "disable" ∷ []
policy_words_of policy.Enabled = codes "enabled" ∷ []
policy_words_of (policy.At place) = codes "policy" ∷ decimal place ∷ []

-- the words of a call (this project's own)
abbrev pub call_words_of : Call → List (List ℕ)
call_words_of (call.Get c) = codes "get" ∷ guid_text c.guid ∷ name_text c.name ∷ decimal c.room ∷ []
call_words_of (call.Next c) = codes "next" ∷ guid_text c.guid ∷ name_text c.name ∷ decimal c.room ∷ []
call_words_of (call.Set c) =
    codes "set" ∷ guid_text c.guid ∷ name_text c.name ∷ attributes_text c.attributes ∷ bytes_text c.bytes ∷ verdict_words c.verdict
call_words_of (call.Policy c) = policy_words_of c
call_words_of call.ExitBoot = codes "exitboot" ∷ []

-- the text of a call (this project's own)
unfoldable pub call_text : Call → List ℕ
call_text call = spaced (call_words_of call)
