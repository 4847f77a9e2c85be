-- Which routes replies may have.
use Rattle.std.specs.Prelude.{◌≡◌, ◌≢◌, ◌⊎◌, ℕ, ◌+◌, ◌<◌, ◌≤◌, Bool, true, false}
use Rattle.var_types.specs.declared.answered.Answered.{Answered}
use Rattle.var_types.specs.declared.answered.Route.{Route}
use Rattle.var_types.specs.declared.answered.Route.TheVariants.{Plain, Cache, Merged, Writer, Flushed, Deferred}
use Rattle.var_types.specs.declared.call.Call.{Call}
use Rattle.var_types.specs.declared.call.Call.TheVariants.{Get, Next}
use Rattle.var_types.specs.Step.{is_change}

-- whether a call is a get or a next, which change nothing (UEFI 2.10, 8.2.1 and 8.2.2)
abbrev pub is_read : Call → Bool
is_read (Get call) = true
is_read (Next call) = true
is_read _ = false

-- what holds the cache, as this processor finds it, is another of so many processors: its number plus 1 (this project's own)
abbrev pub IsOthers : ℕ → ℕ → ℕ → Type 0
IsOthers processors processor holder = (0 < holder) × (holder ≤ processors) × (holder ≢ processor + 1)

-- the route of a get or a next at a place: from the cache; from the cache once it had taken the changes that it lacked, none of them behind the
-- place; or from the writer's side, since the writer or another processor held the cache (this project's own)
abbrev pub IsReadRoute : ℕ → ℕ → ℕ → Route → Type 0
IsReadRoute processors processor place Cache = Unit {0}
IsReadRoute processors processor place (Merged made held) = (held < made) × (made ≤ place)
IsReadRoute processors processor place (Writer holder) = (holder ≡ 255) ⊎ IsOthers processors processor holder
IsReadRoute processors processor place _ = ⊥

-- the route of a change: the cache took it, or another processor held the cache (this project's own)
abbrev pub IsChangeRoute : ℕ → ℕ → Route → Type 0
IsChangeRoute processors processor Flushed = Unit {0}
IsChangeRoute processors processor (Deferred holder) = IsOthers processors processor holder
IsChangeRoute processors processor _ = ⊥

-- the route of a call by whether it is a read, and else by whether it made a change; all else has none of its own (this project's own)
abbrev pub IsRouteBy : Bool → Bool → ℕ → ℕ → ℕ → Route → Type 0
IsRouteBy true change processors processor place route = IsReadRoute processors processor place route
IsRouteBy false true processors processor place route = IsChangeRoute processors processor route
IsRouteBy false false processors processor place route = route ≡ Plain

-- an answered call of one of so many processors has a route that it may have
abbrev pub IsRouted : ℕ → ℕ → Answered → Type 0
IsRouted processors processor a = IsRouteBy (is_read a.call) (is_change a.reply) processors processor a.place a.route
