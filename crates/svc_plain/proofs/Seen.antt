-- What callers see of a variable.
use Rattle.std.proofs.Common.{◌≡◌, Bool, true, false, refl}
use Rattle.std.specs.Prelude.{not, ◌&&◌, if◌then◌else◌, Some, None, is_some}
use Rattle.var_types.specs.Attributes.{has, runtime_access_bit}
use Rattle.var_types.specs.Least.{is_shown}
use Rattle.var_types.specs.State.{seen_at}
use Rattle.var_types.specs.declared.variable.Variable.{Variable}

-- by whether it is hidden
seen_by : (v : Variable) (hidden : Bool) → is_some (if hidden then None else Some v) ≡ true → (if hidden then None else Some v) ≡ Some v
seen_by v true h = cc
seen_by v false h = refl

unseen_by : (v : Variable) (hidden : Bool) → is_some (if hidden then None else Some v) ≡ false → (if hidden then None else Some v) ≡ None
unseen_by v true h = refl
unseen_by v false h = cc

-- a variable that is shown is seen
pub shown_is_seen : (runtime : Bool) (v : Variable) → is_shown runtime v ≡ true → seen_at runtime (Some v) ≡ Some v
shown_is_seen runtime v h = seen_by v (runtime && not (has v.attributes runtime_access_bit)) h

-- one that isn't is not
pub hidden_is_unseen : (runtime : Bool) (v : Variable) → is_shown runtime v ≡ false → seen_at runtime (Some v) ≡ None
hidden_is_unseen runtime v h = unseen_by v (runtime && not (has v.attributes runtime_access_bit)) h
