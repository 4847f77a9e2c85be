-- The stores after a history that grows.
use Rattle.std.proofs.Common.{◌≡◌, ◌≤◌, List, [], ◌∷◌, ◌++◌, length, refl, ap, arith}
use Rattle.std.proofs.lemmas.List.{take_all, take-append-le}
use Rattle.var_types.specs.Stores.{Stores}
use Rattle.var_trace.specs.declared.change.Change.{Change}
use Rattle.var_trace.specs.Laws.{AreAfter}
use Rattle.var_trace.specs.Pieces.{with_change}
use Rattle.var_trace.specs.StoresAfter.{stores_after}

-- changes, one list after the other
stores_after-append : (stores : Stores) (log more : List Change) → stores_after stores (log ++ more) ≡ stores_after (stores_after stores log) more
stores_after-append stores [] more = refl
stores_after-append stores (change ∷ log) more = stores_after-append (with_change stores change.delta) log more

-- the stores after the first changes of a longer history
pub are_after : (opening : Stores) (log more : List Change) → AreAfter opening log more
are_after opening log more = record {
  same = λ b within. ap (stores_after opening) (take-append-le b log more within);
  behind = stores_after-append opening log more;
  all = ap (stores_after opening) (take_all (length log) log (let low : length log ≤ length log = omega arith in low));
}
