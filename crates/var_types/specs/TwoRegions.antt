-- The variables of two regions as one map.
use Rattle.std.specs.Prelude.{◌≡◌, List, [], ◌∷◌, if◌then◌else◌, Option, Some, None, IsSome}
use Rattle.std.specs.BTreeMap.{insert_entry, is_at}
use Rattle.std.specs.Map.{lookup}
use Rattle.std.specs.Ordering.{is_lt}
use Rattle.var_types.specs.declared.key.Key.{Key}
use Rattle.var_types.specs.declared.variable.Variable.{Variable}
use Rattle.var_types.specs.Key.{key_cmp}

-- the variables of two maps together, in key order; at a key of both the first map's (this project's own)
unfoldable pub joined : List (Key × Variable) → List (Key × Variable) → List (Key × Variable)
joined [] ys = ys
joined (x ∷ xs) ys = insert_entry key_cmp (joined xs ys) x.0 x.1

-- no key has a variable in both of two maps (this project's own)
pub record AreApart (xs ys : List (Key × Variable)) : Type 0 where
  pub apart : (key : Key) → IsSome (lookup (is_at (key_cmp key)) xs) → lookup (is_at (key_cmp key)) ys ≡ None

-- of two entries that may be there the one of the lesser key; the first of two that have one key (this project's own)
abbrev pub lesser : Option (Key × Variable) → Option (Key × Variable) → Option (Key × Variable)
lesser None b = b
lesser (Some a) None = Some a
lesser (Some a) (Some b) = if is_lt (key_cmp b.0 a.0) then Some b else Some a
