-- The place of the policy that counts.
use Rattle.std.specs.Option.{option_map}
use Rattle.std.specs.Prelude.{ℕ, ◌+◌, ◌==◌, Bool, false, List, drop, nat_le, if◌then◌else◌, Option, Some, None}
use Rattle.var_types.specs.declared.key.Key.{Key}
use Rattle.var_types.specs.declared.policy.Policy.{Policy}
use Rattle.var_types.specs.Policies.{best, covers, wildcards}

-- the place of the policy that counts for a key, from 0 (EDK II, GetBestPolicyMatch)
abbrev pub best_place : List Policy → Key → Option ℕ
best_place policies key = option_map (λ (found : ℕ × Policy). found.0) (best policies key)

-- the place and the wildcards of the policy that counts among those from a place on
abbrev pub best_from : List Policy → Key → ℕ → Option (ℕ × ℕ)
best_from policies key place =
    option_map (λ (found : ℕ × Policy). (place + found.0, wildcards found.1)) (best (drop place policies) key)

-- of two policies by their places and wildcards the first, unless the other has fewer
abbrev pub fewer : ℕ × ℕ → Option (ℕ × ℕ) → ℕ × ℕ
fewer here None = here
fewer here (Some rival) = if nat_le here.1 rival.1 then here else rival

-- of a policy that was found and one behind it, where there are any, the one that counts
abbrev pub counting : Option (ℕ × ℕ) → Option (ℕ × ℕ) → Option (ℕ × ℕ)
counting None behind = behind
counting (Some here) behind = Some (fewer here behind)

-- a policy at a place, by the place and its wildcards, if it covers a key
abbrev pub found_at : ℕ → Policy → Key → Option (ℕ × ℕ)
found_at place policy key = if covers policy key then Some (place, wildcards policy) else None

-- whether a policy was found that has no wildcards
abbrev pub is_exact : Option (ℕ × ℕ) → Bool
is_exact None = false
is_exact (Some found) = found.1 == 0
