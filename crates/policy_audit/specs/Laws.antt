-- What policy texts say of every policy and of any bytes.
use Rattle.std.specs.Prelude.{◌≡◌, ℕ, ◌≤◌, List, [], ◌∷◌, ◌++◌, All, length, Some, Result, Ok}
use Rattle.script_text.specs.Words.{◌>>=◌}
use Rattle.var_types.specs.declared.policy.Policy.{Policy}
use Rattle.var_types.specs.PolicyEntry.{CanSpell, entry_bytes, entry_of}
use Rattle.var_types.specs.Values.{AreBytes}
use Rattle.policy_audit.specs.declared.policy_line.PolicyLine.{PolicyLine}
use Rattle.policy_audit.specs.Text.{added, most_text_bytes, policies_of}
use Rattle.policy_audit.specs.Words.{line_policy, through_entry}
use Rattle.policy_audit.specs.Written.{policies_text, policy_text}

-- what is read of an entry is a policy that entries can spell, whatever its padding
abbrev pub EntriesSpellPolicies : Type 0
EntriesSpellPolicies = (bytes : List ℕ) (policy : Policy) → AreBytes bytes → entry_of bytes ≡ Ok policy → CanSpell policy

-- a policy that entries can spell is the one that is read of its entry
abbrev pub SpelledEntriesAreRead : Type 0
SpelledEntriesAreRead = (policy : Policy) → CanSpell policy → (entry_of (entry_bytes policy) ≡ Ok policy) × (through_entry policy ≡ Ok policy)

-- the words that are written of such a policy are read as the policy
abbrev pub LinesReadBack : Type 0
LinesReadBack = (policy : Policy) → CanSpell policy → line_policy (policy_text policy) ≡ Ok (Some policy)

-- policies that are put one behind the other, as those of lines are
unfoldable pub all_added : List Policy → List Policy → Result (List Policy) PolicyLine
all_added before [] = Ok before
all_added before (policy ∷ rest) = added before policy >>= λ after. all_added after rest

-- the text that is written of such policies, of which no two have one namespace and name and which are 1,024 at most, is read as the
-- policies, unless it is too long
abbrev pub PoliciesReadBack : Type 0
PoliciesReadBack =
    (policies : List Policy) → All CanSpell policies → all_added [] policies ≡ Ok policies → length (policies_text policies) ≤ most_text_bytes
    → policies_of (policies_text policies) ≡ Ok policies
