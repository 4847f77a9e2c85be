-- The records of a region by their kind.
use Rattle.std.proofs.Common.{◌≡◌, ◌≤◌, ℕ, zero, suc, ◌+◌, Bool, true, false, cond, List, [], ◌∷◌, length, count_by, Option, Some, None, refl, ap, arith}
use Rattle.std.proofs.lemmas.List.Sums.{sum_by-cons}
use Rattle.var_types.specs.declared.record.Record.{Record}
use Rattle.var_types.specs.declared.record_kind.RecordKind.{RecordKind}
use Rattle.var_types.specs.declared.record_kind.RecordKind.TheVariants as kind
use Rattle.var_types.specs.Census.{KindsAddUp, count_of, is_kind}
use Rattle.var_types.specs.Record.{Form, first_and, next_offset, record_at, records, records_within}
use Rattle.var_types.specs.Region.{Region, region_records}
use Rattle.var_types.specs.Census.{kind_in}

-- one record more
pub counted : (p : Record → Bool) (r : Record) (rs : List Record) → count_by p (r ∷ rs) ≡ cond (p r) 1 0 + count_by p rs
counted p r rs = sum_by-cons (λ x. cond (p x) 1 0) r rs

-- each record is of one kind
one_kind : (k : RecordKind)
    → cond (is_kind kind.Added k) 1 0 + cond (is_kind kind.InTransition k) 1 0 + cond (is_kind kind.Deleted k) 1 0 + cond (is_kind kind.Other k) 1 0 ≡ 1
one_kind kind.Added = refl
one_kind kind.InTransition = refl
one_kind kind.Deleted = refl
one_kind kind.Other = refl

module _ (f : Record → RecordKind) where
  add_up : (rs : List Record)
      → count_by (λ r. is_kind kind.Added (f r)) rs + count_by (λ r. is_kind kind.InTransition (f r)) rs
      + count_by (λ r. is_kind kind.Deleted (f r)) rs + count_by (λ r. is_kind kind.Other (f r)) rs ≡ length rs
  add_up [] = refl
  add_up (r ∷ rs) =
      omega (
        arith,
        counted (λ r. is_kind kind.Added (f r)) r rs,
        counted (λ r. is_kind kind.InTransition (f r)) r rs,
        counted (λ r. is_kind kind.Deleted (f r)) r rs,
        counted (λ r. is_kind kind.Other (f r)) r rs,
        one_kind (f r),
        add_up rs,
      )

pub kinds_add_up : KindsAddUp
unfolding count_of
kinds_add_up region = add_up (kind_in region) (region_records region)

-- there are at most as many records as were looked for
few_within : (n : ℕ) (form : Form) (bytes : List ℕ) (at : ℕ) → length (records_within n form bytes at) ≤ n
few_within zero form bytes at = omega arith
few_within (suc n) form bytes at = by (record_at form bytes at) (few_within n form bytes)
  where
    by : (found : Option Record) → ((later : ℕ) → length (records_within n form bytes later) ≤ n)
        → length (first_and form (records_within n form bytes) found) ≤ suc n
    by None few = omega arith
    by (Some r) few = let later = few (next_offset form r) in omega arith

-- at most one more than bytes
pub few_records : (form : Form) (bytes : List ℕ) (at : ℕ) → length (records form bytes at) ≤ length bytes + 1
unfolding records
few_records form bytes at = let few = few_within (suc (length bytes)) form bytes at in omega arith
