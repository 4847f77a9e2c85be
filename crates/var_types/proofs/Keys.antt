use Rattle.std.proofs.Common.{List, ℕ, ap}
use Rattle.std.proofs.lemmas.Cmp.{nat_list_cmp_total, on_total, then_total}
use Rattle.std.proofs.lemmas.Map.Lookups.{CmpEqualImpliesEq, exact_bytes, exact_pairs}
use Rattle.std.specs.Cmp.{IsTotalOrder}
use Rattle.std.specs.Cmp.Lexicographic.{slice_cmp}
use Rattle.std.specs.Ordering.{nat_cmp}
use Rattle.var_types.specs.Key.{key_cmp}

-- the order of keys is total
pub key_cmp_total : IsTotalOrder key_cmp
key_cmp_total = then_total (on_total (λ k. k.guid.bytes) nat_list_cmp_total) (on_total (λ k. k.name) nat_list_cmp_total)

-- keys that compare alike are one
pub same_key : CmpEqualImpliesEq key_cmp
same_key a b h =
    ap (λ (p : List ℕ × List ℕ). record { guid = record { bytes = p.0 }; name = p.1 })
    (exact_pairs (slice_cmp nat_cmp) (slice_cmp nat_cmp) exact_bytes exact_bytes (a.guid.bytes, a.name) (b.guid.bytes, b.name) h)
