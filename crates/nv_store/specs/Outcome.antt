-- What a change of the non-volatile store leaves, at any moment and at its end.
use Rattle.std.specs.Prelude.{◌≡◌, ◌⊎◌, ℕ, List, take, Option, Some}
use Rattle.std.specs.BTreeMap.{insert_entry, is_at}
use Rattle.std.specs.Map.{remove_entry}
use Rattle.var_types.specs.declared.key.Key.{Key}
use Rattle.var_types.specs.declared.store.Store.TheVariants.{NonVolatile}
use Rattle.var_types.specs.declared.variable.Variable.{Variable}
use Rattle.var_types.specs.Key.{key_cmp}
use Rattle.var_types.specs.Kept.{IsSound, content, kept}
use Rattle.var_types.specs.Layout.{headers_size}
use Rattle.var_types.specs.Stores.{map_in}

-- variables with one put at a key (UEFI 2.10, 8.2.3)
abbrev pub with_put : Key → Variable → List (Key × Variable) → List (Key × Variable)
with_put key variable entries = insert_entry key_cmp entries key variable

-- variables without that of a key (UEFI 2.10, 8.2.3)
abbrev pub without : Key → List (Key × Variable) → List (Key × Variable)
without key entries = remove_entry (is_at (key_cmp key)) entries

-- an image that keeps the variables of another with a change (this project's own)
abbrev pub IsKeptWith : (List (Key × Variable) → List (Key × Variable)) → List ℕ → List ℕ → Type 0
IsKeptWith change image left = kept left ≡ change (kept image)

-- an image that a power loss within a change may leave: it keeps the variables of before or those with the change, its headers are as they were,
-- and it is no foreign work unless that of before is (this project's own)
pub record IsChangeLeft (change : List (Key × Variable) → List (Key × Variable)) (image left : List ℕ) : Type 0 where
  pub kept : (kept left ≡ kept image) ⊎ IsKeptWith change image left
  pub headers : take headers_size (content left) ≡ take headers_size (content image)
  pub sound : IsSound image → IsSound left

-- a mirror and the change in doubt, after a change of the mirror's variables that failed: the mirror is as it was, and the change is in doubt
-- (this project's own)
pub record IsLeftInDoubt (change : List (Key × Variable) → List (Key × Variable)) (old new : List ℕ × Option (List ℕ)) : Type 0 where
  pub mirror : new.0 ≡ old.0
  pub after : List ℕ
  pub doubt : new.1 ≡ Some after
  pub map : map_in NonVolatile after ≡ change (map_in NonVolatile old.0)
