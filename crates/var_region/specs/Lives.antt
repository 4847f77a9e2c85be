use Rattle.std.specs.Prelude.{ℕ, Bool, List}
use Rattle.var_types.specs.Live.{Live, lives}
use Rattle.var_types.specs.Record.{Authenticated, records}

-- the live records of bytes from an offset on
unfoldable pub lives_at : Bool → List ℕ → ℕ → List Live
lives_at non_volatile bytes at = lives Authenticated non_volatile bytes (records Authenticated bytes at)
