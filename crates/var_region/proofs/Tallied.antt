-- A tally of records, one by one.
use Rattle.std.proofs.Common.{◌≡◌, ℕ, ◌+◌, Bool, cond, List, [], ◌∷◌, length, Option, Some, None, sym, ap, ◌∙◌, arith}
use Rattle.var_types.specs.declared.record.Record.{Record}
use Rattle.var_types.specs.declared.record_kind.RecordKind.{RecordKind}
use Rattle.var_types.specs.Census.{is_kind}
use Rattle.var_types.specs.Record.{Authenticated, next_offset, record_at, records}
use Rattle.var_types.proofs.Censuses.{counted}
use Rattle.var_types.proofs.Records.{records_first, records_none}
use Rattle.var_region.specs.Tallies.{count_at, kind_at}

module _ (non_volatile : Bool) (bytes : List ℕ) (at : ℕ) where
  -- the records from one on
  from_one : (next : ℕ) (r : Record) → record_at Authenticated bytes at ≡ Some r → next ≡ next_offset Authenticated r
      → records Authenticated bytes at ≡ r ∷ records Authenticated bytes next
  from_one next r here onward =
      records_first Authenticated bytes at r here ∙ ap (λ (n : ℕ). r ∷ records Authenticated bytes n) (sym onward)

  -- one record more of its kind
  pub one_counted : (next : ℕ) (r : Record) (wanted k : RecordKind) (old new total : ℕ) → record_at Authenticated bytes at ≡ Some r
      → next ≡ next_offset Authenticated r → k ≡ kind_at non_volatile bytes r → new ≡ old + cond (is_kind wanted k) 1 0
      → old + count_at wanted non_volatile bytes (records Authenticated bytes at) ≡ total
      → new + count_at wanted non_volatile bytes (records Authenticated bytes next) ≡ total
  one_counted next r wanted k old new total here onward is more before =
      let rest : List Record = records Authenticated bytes next in
      let split : count_at wanted non_volatile bytes (records Authenticated bytes at)
      ≡ cond (is_kind wanted k) 1 0 + count_at wanted non_volatile bytes rest =
      ap (count_at wanted non_volatile bytes) (from_one next r here onward)
      ∙ counted (λ x. is_kind wanted (kind_at non_volatile bytes x)) r rest
      ∙ ap (λ (x : RecordKind). cond (is_kind wanted x) 1 0 + count_at wanted non_volatile bytes rest) (sym is) in
      omega (arith, split, more, before)

  -- one record more
  pub one_numbered : (next : ℕ) (r : Record) (old new total : ℕ) → record_at Authenticated bytes at ≡ Some r → next ≡ next_offset Authenticated r
      → new ≡ old + 1 → old + length (records Authenticated bytes at) ≡ total → new + length (records Authenticated bytes next) ≡ total
  one_numbered next r old new total here onward more before =
      let split : length (records Authenticated bytes at) ≡ length (r ∷ records Authenticated bytes next) = ap length (from_one next r here onward) in
      omega (arith, split, more, before)

  -- and none is left
  pub none_counted : (wanted : RecordKind) (count total : ℕ) → record_at Authenticated bytes at ≡ None
      → count + count_at wanted non_volatile bytes (records Authenticated bytes at) ≡ total → count ≡ total
  none_counted wanted count total none before =
      let left : count_at wanted non_volatile bytes (records Authenticated bytes at) ≡ 0 =
      ap (count_at wanted non_volatile bytes) (records_none Authenticated bytes at none) in
      omega (arith, left, before)

  pub none_numbered : (count total : ℕ) → record_at Authenticated bytes at ≡ None → count + length (records Authenticated bytes at) ≡ total
      → count ≡ total
  none_numbered count total none before =
      let left : length (records Authenticated bytes at) ≡ 0 = ap length (records_none Authenticated bytes at none) in
      omega (arith, left, before)
