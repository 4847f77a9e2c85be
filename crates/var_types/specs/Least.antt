-- The least key above a bound among live records, and what callers see of a record.
use Rattle.std.specs.Prelude.{Bool, List, if◌then◌else◌, Option, Some, None, is_some}
use Rattle.std.specs.declared.cmp.Ordering.{Ordering}
use Rattle.std.specs.List.{fold}
use Rattle.std.specs.Ordering.{is_lt}
use Rattle.var_types.specs.declared.key.Key.{Key}
use Rattle.var_types.specs.declared.variable.Variable.{Variable}
use Rattle.var_types.specs.Key.{key_cmp}
use Rattle.var_types.specs.Live.{Live}
use Rattle.var_types.specs.Next.{is_above}
use Rattle.var_types.specs.State.{seen_at}

module _ {K : Type 0} (R : K → K → Ordering) where
  -- the lower of two keys, where there are such; the first of two that are alike
  abbrev pub lower : Option K → Option K → Option K
  lower None b = b
  lower (Some a) None = Some a
  lower (Some a) (Some b) = if is_lt (R b a) then Some b else Some a

-- the lower of a held key and another, where that is above a bound
abbrev pub lower_above : Option Key → Option Key → Key → Option Key
lower_above bound held key = if is_above bound key then lower key_cmp held (Some key) else held

-- the least key above a bound among live records, from one held
abbrev pub least_from : Option Key → Option Key → List Live → Option Key
least_from bound held ls = fold (λ low (live : Live). lower_above bound low live.key) held ls

-- whether callers see a variable (UEFI 2.10, 8.2.1)
abbrev pub is_shown : Bool → Variable → Bool
is_shown runtime variable = is_some (seen_at runtime (Some variable))

-- a live record, where callers see its variable
abbrev pub shown : Bool → Option Live → Option Live
shown runtime None = None
shown runtime (Some live) = if is_shown runtime live.variable then Some live else None
