-- The lines of policies.
use Rattle.std.specs.Prelude.{ℕ, ◌==◌, List, [], ◌∷◌, ◌++◌, codes, decimal, flat_map, if◌then◌else◌, Option, Some, None}
use Rattle.var_types.specs.declared.policy.Lock.{Lock}
use Rattle.var_types.specs.declared.policy.Lock.TheVariants.{NoLock, Now, OnCreate, OnState}
use Rattle.var_types.specs.declared.policy.Policy.{Policy}
use Rattle.var_types.specs.Guid.{guid_text}
use Rattle.var_types.specs.Texts.{attributes_text, name_text, spaced}

-- the word of a policy's name: `-` for none (this project's own)
abbrev pub own_text : Option (List ℕ) → List ℕ
own_text None = codes "-"
own_text (Some units) = name_text units

-- the word of a greatest size: `-` for no limit (this project's own)
abbrev pub max_text : ℕ → List ℕ
max_text max = if max == 0xFFFFFFFF then codes "-" else decimal max

-- the words of a lock (this project's own)
abbrev pub lock_text : Lock → List ℕ
lock_text NoLock = codes "none"
lock_text Now = codes "now"
lock_text OnCreate = codes "create"
lock_text (OnState key value) = spaced (codes "state" ∷ guid_text key.guid ∷ name_text key.name ∷ decimal value ∷ [])

-- the words of a policy, without a line end (this project's own)
unfoldable pub policy_text : Policy → List ℕ
policy_text policy =
    spaced
    (guid_text policy.namespace ∷ own_text policy.name ∷ decimal policy.min ∷ max_text policy.max ∷ attributes_text policy.must
    ∷ attributes_text policy.cant ∷ lock_text policy.lock ∷ [])

-- the line of a policy
abbrev pub policy_line_text : Policy → List ℕ
policy_line_text policy = policy_text policy ++ 10 ∷ []

-- the lines of policies, in their order
abbrev pub policies_text : List Policy → List ℕ
policies_text policies = flat_map policy_line_text policies
