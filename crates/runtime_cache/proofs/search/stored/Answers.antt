use Rattle.std.proofs.Common.{sym}
use Rattle.var_types.specs.Key.{key_of}
use Rattle.var_types.specs.Region.{region_map}
use Rattle.runtime_cache.proofs.Searches.{stored_first, stored_second}
use Rattle.runtime_cache.proofs.search.stored.Goals as goal

pub returns-then-is_some-clause-variable : goal.returns-then-is_some-clause-variable
returns-then-is_some-clause-variable c =
    stored_first (region_map c.args.non_volatile.now) (region_map c.args.volatile.now) (key_of c.args.guid.now c.args.name.now)
    c.find-found.result (sym c.if-is_some.ensures) c.find-found.ensures.variable

pub returns-clause-variable : goal.returns-clause-variable
returns-clause-variable c =
    stored_second (region_map c.args.non_volatile.now) (region_map c.args.volatile.now) (key_of c.args.guid.now c.args.name.now)
    c.find-found.result c.find.result (sym c.if-is_some.ensures) c.find-found.ensures.variable c.find.ensures.variable
