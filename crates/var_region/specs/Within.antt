use Rattle.std.specs.Prelude.{◌≡◌, ℕ, ◌+◌, ◌≤◌, true}
use Rattle.var_types.specs.declared.record.Record.{Record}
use Rattle.var_types.specs.Record.{Authenticated, header_size, next_offset, whole_size}

-- how a record at an offset stands in so many bytes: its header is within them, the whole record too where it is whole, and the next offset is
-- behind its header and at most 3 past the end
pub record IsWithin (len at : ℕ) (r : Record) : Type 0 where
  pub offset : r.at ≡ at
  pub room : at + header_size Authenticated ≤ len
  pub fits : r.whole ≡ true → at + whole_size Authenticated r.header ≤ len
  pub onward : at + header_size Authenticated ≤ next_offset Authenticated r
  pub limit : next_offset Authenticated r ≤ len + 3
