-- What the state byte of a record decides.
use Rattle.std.proofs.Common.{◌≡◌, ℕ, ◌+◌, ◌≤◌, true, List, length, refl, sym, subst, Option, Some, None}
use Rattle.std.specs.Prelude.{IsSomeAnd}
use Rattle.var_types.proofs.Records.{record_onward}
use Rattle.var_types.specs.declared.record.Record.{Record}
use Rattle.var_types.specs.Record.{Authenticated, record_at}
use Rattle.var_region.specs.Written.{HasWholeRecord}

-- the header of a whole record is within the bytes
pub whole_room : (bytes : List ℕ) (at : ℕ) → HasWholeRecord bytes at → at + 60 ≤ length bytes
whole_room bytes at has = by (record_at Authenticated bytes at) refl has
  where
    by : (found : Option Record) → record_at Authenticated bytes at ≡ found → IsSomeAnd found (λ r. r.whole ≡ true) → at + 60 ≤ length bytes
    by None e has = absurd has
    by (Some r) e has = (record_onward Authenticated bytes at r e).0

-- a whole record that is read stands there
pub whole_stands : (bytes : List ℕ) (at : ℕ) (r : Record) → record_at Authenticated bytes at ≡ Some r → r.whole ≡ true → HasWholeRecord bytes at
whole_stands bytes at r e whole = subst (λ (found : Option Record). IsSomeAnd found (λ r. r.whole ≡ true)) (sym e) whole
