use Rattle.std.proofs.Common.{◌≡◌, true, false, List, ℕ, Option, Some, None, refl, sym, ap}
use Rattle.uuid.specs.Text.{parsed}
use Rattle.var_types.specs.Guid.{guid_of, stored_guid}
use Rattle.var_types.proofs.guid.Guid.read_bytes.Goals as goal

-- what is not read is none of a GUID
unread : (p : Option (List ℕ)) → ((x : List ℕ) × (p ≡ Some x) → false ≡ true) → p ≡ None
unread None h = refl
unread (Some x) h = let e : false ≡ true = h (x, refl) in cc

pub returns-in-Err : goal.returns-in-Err
unfolding guid_of
returns-in-Err c = sym (ap stored_guid (unread (parsed c.args.text.now) c.in-Err.ensures.ok.1))
