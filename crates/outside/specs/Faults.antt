use Rattle.std.specs.Prelude.{◌≡◌, ◌≢◌, ℕ, ◌+◌, ◌-◌, ◌^◌, ◌<◌, ◌≤◌, ◌⊎◌, min, Result, Err, OnErr, OnOk}

-- a count of failed calls went up, or stands at the greatest `u64`, where it can show no rise (this project's own)
abbrev pub HasRisen : ℕ → ℕ → Type 0
HasRisen old new = (old < new) ⊎ (2 ^ 64 - 1 ≤ old)

-- a count with one more, which stands still at the greatest `u64` (this project's own)
abbrev pub one_more : ℕ → ℕ
one_more count = min (count + 1) (2 ^ 64 - 1)

-- a call's cause by its result: where it is done the count of failed calls stands, where it failed the count rose, and no call lowers it (this
-- project's own)
pub record HasCause {T E : Type 0} (before after : ℕ) (result : Result T E) : Type 0 where
  pub done : OnOk result (after ≡ before)
  pub failed : OnErr result (HasRisen before after)
  pub never_falls : before ≤ after

-- the same of a call of which one error alone is a failed call (this project's own)
pub record HasCauseAt {T E : Type 0} (fault : E) (before after : ℕ) (result : Result T E) : Type 0 where
  pub done : result ≢ Err fault → after ≡ before
  pub failed : result ≡ Err fault → HasRisen before after
  pub never_falls : before ≤ after
