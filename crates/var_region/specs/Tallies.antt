-- The records of a region, counted by their kind.
use Rattle.std.specs.Prelude.{◌≡◌, ◌≤◌, ℕ, Bool, List, count_by}
use Rattle.var_types.specs.declared.record.Record.{Record}
use Rattle.var_types.specs.declared.record_kind.RecordKind.{RecordKind}
use Rattle.var_types.specs.declared.record_kind.RecordKind.TheVariants as kind
use Rattle.var_types.specs.Census.{is_kind, kind_with}
use Rattle.var_types.specs.Live.{live_of}
use Rattle.var_types.specs.Record.{Authenticated}
use Rattle.var_region.specs.declared.tally.Tally.{Tally}

-- the kind of a record of a store's bytes
abbrev pub kind_at : Bool → List ℕ → Record → RecordKind
kind_at non_volatile bytes r = kind_with (live_of Authenticated non_volatile bytes r) r.header.state

-- how many of some records are of a kind
abbrev pub count_at : RecordKind → Bool → List ℕ → List Record → ℕ
count_at wanted non_volatile bytes rs = count_by (λ r. is_kind wanted (kind_at non_volatile bytes r)) rs

-- how many records of a kind a tally has
abbrev pub of_kind : RecordKind → Tally → ℕ
of_kind kind.Added tally = tally.added
of_kind kind.InTransition tally = tally.transition
of_kind kind.Deleted tally = tally.deleted
of_kind kind.Other tally = tally.other

-- no kind has more records than there are
abbrev pub IsWithinRecords : Tally → Type 0
IsWithinRecords tally = (wanted : RecordKind) → of_kind wanted tally ≤ tally.records
