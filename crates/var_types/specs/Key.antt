use Rattle.std.specs.Prelude.{ℕ, List}
use Rattle.std.specs.declared.cmp.Ordering.{Ordering}
use Rattle.std.specs.Ordering.{nat_cmp, ordering_then}
use Rattle.std.specs.Cmp.Lexicographic.{slice_cmp}
use Rattle.var_types.specs.declared.guid.Guid.{Guid}
use Rattle.var_types.specs.declared.key.Key.{Key}

-- keys are ordered by the GUID bytes as stored, then by the name's units (this project's own)
abbrev pub key_cmp : Key → Key → Ordering
key_cmp a b = ordering_then (slice_cmp nat_cmp a.guid.bytes b.guid.bytes) (slice_cmp nat_cmp a.name b.name)

-- the key of a GUID and a name (UEFI 2.10, 8.2)
abbrev pub key_of : Guid → List ℕ → Key
key_of guid name = record { guid = guid; name = name }
