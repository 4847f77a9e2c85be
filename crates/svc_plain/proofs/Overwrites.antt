-- A value that is written over another in a map is inserted there.
use Rattle.std.proofs.Common.{◌≡◌, Bool, true, false, cond, List, [], ◌∷◌, refl, sym, ap, subst, ◌∙◌, is_eq, true≢false, Option, Some, Ordering, Less, Equal, Greater}
use Rattle.std.proofs.lemmas.Map.{lookup-none}
use Rattle.std.proofs.lemmas.Map.Steps.{set_value_same}
use Rattle.std.proofs.lemmas.Map.Entries.{none_below_head}
use Rattle.std.specs.BTreeMap.{insert_entry, is_at}
use Rattle.std.specs.Cmp.{IsTotalOrder}
use Rattle.std.specs.List.Sorted.{IsStrictlySortedBy}
use Rattle.std.specs.Map.{keys_of, lookup, set_value}
use Rattle.std.specs.Ordering.{match_ordering}
use Rattle.std.specs.Prelude.{IsSome}
use Rattle.svc_plain.specs.Written.{IsWritten, written}
use Rattle.svc_plain.specs.declared.puts.Write.{Write}
use Rattle.var_types.proofs.Keys.{key_cmp_total}
use Rattle.var_types.specs.Key.{key_cmp}
use Rattle.var_types.specs.declared.call.SetCall.{SetCall}
use Rattle.var_types.specs.declared.key.Key.{Key}
use Rattle.var_types.specs.declared.variable.Variable.{Variable}

module _ {K X : Type 0} {R : K → K → Ordering} (o : IsTotalOrder R) (k : K) (w : X) where
  -- what stands behind a first key that is passed
  later_some : (b : Bool) (v : X) (found : Option X) → b ≡ false → IsSome (cond b (Some v) found) → IsSome found
  later_some true v found e h = cc
  later_some false v found e h = h

  -- a value written at a key that is there is inserted there
  pub set_value-insert_entry : (es : List (K × X)) → IsStrictlySortedBy R (keys_of es) → IsSome (lookup (is_at (R k)) es)
      → set_value (is_at (R k)) es w ≡ insert_entry R es k w
  unfolding IsStrictlySortedBy
  set_value-insert_entry [] s h = cc
  set_value-insert_entry (e ∷ es) s h = by (R k e.0) refl (set_value-insert_entry es s.1)
    where
      by : (r : Ordering) → R k e.0 ≡ r
          → (IsSome (lookup (is_at (R k)) es) → set_value (is_at (R k)) es w ≡ insert_entry R es k w)
          → cond (is_eq r) ((e.0, w) ∷ es) (e ∷ set_value (is_at (R k)) es w)
          ≡ match_ordering r ((k, w) ∷ e ∷ es) ((e.0, w) ∷ es) (e ∷ insert_entry R es k w)
      by Less p later = absurd (true≢false (sym (subst IsSome (lookup-none (is_at (R k)) (e ∷ es) (none_below_head o k e es s p)) h)))
      by Equal p later = refl
      by Greater p later = ap (λ (fs : List (K × X)). e ∷ fs) (later (later_some (is_eq (R k e.0)) e.1 (lookup (is_at (R k)) es) (ap is_eq p) h))

-- what is written over what is found at a key leaves the entries of a write
pub overwritten : (es new : List (Key × Variable)) (key : Key) (call : SetCall) (write : Write) (v w : Variable)
    → IsStrictlySortedBy key_cmp (keys_of es) → Some v ≡ lookup (is_at (key_cmp key)) es → new ≡ set_value (is_at (key_cmp key)) es w
    → w ≡ written call (Some v) write → IsWritten es new key call write
overwritten es new key call write v w sorted found put is =
    put ∙ set_value-insert_entry key_cmp_total key w es sorted (subst IsSome found refl)
    ∙ ap (insert_entry key_cmp es key) (is ∙ ap (λ (o : Option Variable). written call o write) found)

-- what is found at a key and written back leaves the entries
pub written_back : (es new : List (Key × Variable)) (key : Key) (v w : Variable) → Some v ≡ lookup (is_at (key_cmp key)) es
    → new ≡ set_value (is_at (key_cmp key)) es w → w ≡ v → new ≡ es
written_back es new key v w found put is = put ∙ set_value_same (is_at (key_cmp key)) es w (sym found ∙ ap Some (sym is))
