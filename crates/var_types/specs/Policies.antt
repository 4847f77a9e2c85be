-- Which policy counts for a set, and which of its rules denies it.
use Rattle.std.specs.Option.{option_map}
use Rattle.std.specs.Prelude.{ℕ, suc, ◌==◌, ◌&&◌, ◌||◌, not, Bool, true, false, List, [], ◌∷◌, count_by, nat_le, nat_lt, if◌then◌else◌, Option, Some, None, bit_and}
use Rattle.var_types.specs.declared.ask.Ask.{Ask}
use Rattle.var_types.specs.declared.ask.Denied.{Denied}
use Rattle.var_types.specs.declared.ask.Rule.{Rule}
use Rattle.var_types.specs.declared.ask.Rule.TheVariants.{MinSize, MaxSize, Must, Cant, LockNow, LockOnCreate, LockOnState}
use Rattle.var_types.specs.declared.key.Key.{Key}
use Rattle.var_types.specs.declared.policy.Lock.{Lock}
use Rattle.var_types.specs.declared.policy.Lock.TheVariants.{NoLock, Now, OnCreate, OnState}
use Rattle.var_types.specs.declared.policy.Policy.{Policy}
use Rattle.var_types.specs.declared.variable.Variable.{Variable}
use Rattle.var_types.specs.Attributes.{has}
use Rattle.var_types.specs.Key.{key_of}
use Rattle.var_types.specs.State.{State, stored_at}
use lib.Pointwise.{pointwise}

-- what policies are asked of a set: its key, its attributes as handed in, how many bytes its payload has, whether it deletes, and whether
-- something is stored (EDK II, ValidateSetVariable)
pub record Question : Type 0 where
  pub key : Key
  pub attributes : ℕ
  pub payload : ℕ
  pub deletes : Bool
  pub stored : Bool

-- the question that an ask is
abbrev pub question_of : Ask → Question
question_of ask = record {
  key = key_of ask.guid.now ask.name.now;
  attributes = ask.attributes;
  payload = ask.payload;
  deletes = ask.deletes;
  stored = ask.stored;
}

-- whether a unit is the wildcard `#` (EDK II, VariablePolicyLib)
abbrev pub is_wildcard : ℕ → Bool
is_wildcard unit = unit == 0x23

-- whether a unit is a digit, `0` to `9`
abbrev pub is_digit : ℕ → Bool
is_digit unit = nat_le 0x30 unit && nat_le unit 0x39

-- whether a unit of a policy's name covers a unit of a variable's: it is equal, or is `#` over a digit (EDK II, EvaluatePolicyMatch;
-- that `#` covers the ten digits alone is this project's own)
abbrev pub covers_unit : ℕ → ℕ → Bool
covers_unit unit other = (unit == other) || (is_wildcard unit && is_digit other)

-- whether the name of a policy covers a variable's: unit by unit; none covers each (EDK II, EvaluatePolicyMatch)
abbrev pub covers_name : Option (List ℕ) → List ℕ → Bool
covers_name None name = true
covers_name (Some units) name = pointwise covers_unit units name

-- whether a policy covers a key: the namespace is the key's and the name covers its name (EDK II, EvaluatePolicyMatch)
unfoldable pub covers : Policy → Key → Bool
covers policy key = pointwise ◌==◌ policy.namespace.bytes key.guid.bytes && covers_name policy.name key.name

-- how many wildcards the name of a policy has; none counts as 255 (EDK II, EvaluatePolicyMatch)
abbrev pub wildcards_in : Option (List ℕ) → ℕ
wildcards_in None = 255
wildcards_in (Some units) = count_by is_wildcard units

-- how many wildcards a policy has
unfoldable pub wildcards : Policy → ℕ
wildcards policy = wildcards_in policy.name

-- of a policy that covers a key and the best of those behind it the one that is better, with its place from the first on
abbrev pub better : Policy → Option (ℕ × Policy) → Option (ℕ × Policy)
better policy None = Some (0, policy)
better policy (Some rival) = if nat_le (wildcards policy) (wildcards rival.1) then Some (0, policy) else Some (suc rival.0, rival.1)

-- the best of the policies behind one, with its place from that one on
abbrev pub behind : Option (ℕ × Policy) → Option (ℕ × Policy)
behind None = None
behind (Some found) = Some (suc found.0, found.1)

-- the policy that counts for a key, with its place in the order of registration: of those that cover it the first with the fewest wildcards
-- (EDK II, GetBestPolicyMatch; that the first of several counts is this project's own)
abbrev pub best : List Policy → Key → Option (ℕ × Policy)
best [] key = None
best (policy ∷ policies) key = if covers policy key then better policy (best policies key) else behind (best policies key)

-- whether the payload is shorter than a policy's least size
abbrev pub is_below_min : Policy → Question → Bool
is_below_min policy question = not question.deletes && nat_lt question.payload policy.min

-- whether the payload is longer than a policy's greatest size; 0xFFFFFFFF is no limit (EDK II, VARIABLE_POLICY_NO_MAX_SIZE)
abbrev pub is_above_max : Policy → Question → Bool
is_above_max policy question = not question.deletes && (not (policy.max == 0xFFFFFFFF) && nat_lt policy.max question.payload)

-- whether the attributes lack a bit that a policy demands
abbrev pub lacks_must : Policy → Question → Bool
lacks_must policy question = not question.deletes && not (bit_and question.attributes policy.must == policy.must)

-- whether the attributes have a bit that a policy forbids
abbrev pub has_cant : Policy → Question → Bool
has_cant policy question = not question.deletes && has question.attributes policy.cant

-- the byte of bytes of which there is exactly one
abbrev pub only_byte : List ℕ → Option ℕ
only_byte [] = None
only_byte (byte ∷ []) = Some byte
only_byte (byte ∷ next ∷ rest) = None

-- the byte of what is stored, where it has exactly one
abbrev pub one_byte : Option Variable → Option ℕ
one_byte None = None
one_byte (Some variable) = only_byte variable.bytes

-- whether a byte is there and is this one
abbrev pub is_byte : ℕ → Option ℕ → Bool
is_byte value None = false
is_byte value (Some byte) = byte == value

-- whether a variable has exactly one byte, and that is this one (EDK II, ValidateSetVariable)
abbrev pub has_value : Option Variable → ℕ → Bool
has_value stored value = is_byte value (one_byte stored)

-- the rule by which a policy's lock denies (EDK II, VARIABLE_POLICY_TYPE_LOCK_NOW, _LOCK_ON_CREATE and _LOCK_ON_VAR_STATE)
abbrev pub lock_rule : State → Bool → Lock → Option Rule
lock_rule state stored NoLock = None
lock_rule state stored Now = Some LockNow
lock_rule state stored OnCreate = if stored then Some LockOnCreate else None
lock_rule state stored (OnState key value) = if has_value (stored_at state key) value then Some LockOnState else None

-- the first rule of a policy that denies: its sizes, its attributes, then its lock; a deletion is held to the lock alone (EDK II,
-- ValidateSetVariable; the order is this project's own)
unfoldable pub denying_rule : State → Question → Policy → Option Rule
denying_rule state question policy =
    if is_below_min policy question then Some MinSize
    else if is_above_max policy question then Some MaxSize
    else if lacks_must policy question then Some Must
    else if has_cant policy question then Some Cant
    else lock_rule state question.stored policy.lock

-- whether the policy that counts denies, and by which rule
abbrev pub denied_by : State → Question → Option (ℕ × Policy) → Option Denied
denied_by state question None = None
denied_by state question (Some found) = option_map (λ rule. record { place = found.0; rule = rule }) (denying_rule state question found.1)

-- whether a set is denied: with policy off it isn't, else by the policy that counts for its key (EDK II, ValidateSetVariable)
unfoldable pub denied : State → Question → Option Denied
denied state question = if state.policy_on then denied_by state question (best state.policies question.key) else None
