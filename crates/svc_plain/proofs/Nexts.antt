-- The least key above a bound that a test finds is found in the range from the bound on.
use Rattle.std.proofs.Common.{◌≡◌, Bool, true, false, List, [], ◌∷◌, refl, sym, ap, ◌∙◌}
use Rattle.std.proofs.Math.Bool.{and-true}
use Rattle.std.proofs.lemmas.List.Elements.{filter_agree}
use Rattle.std.specs.BTreeMap.Range.{entries_between, range_contains}
use Rattle.std.specs.List.{filter, find}
use Rattle.std.specs.Ordering.{is_lt}
use Rattle.std.specs.Prelude.{Option, Some, None, cond, ◌&&◌}
use Rattle.std.specs.declared.ops.Bound.TheVariants.{Unbounded}
use Rattle.svc_plain.specs.Above.{start_above}
use Rattle.var_types.specs.Key.{key_cmp}
use Rattle.var_types.specs.Next.{is_above}
use Rattle.var_types.specs.declared.key.Key.{Key}
use Rattle.var_types.specs.declared.variable.Variable.{Variable}

-- a search by two tests is one by the first among what passes the second
find_both : {X : Type 0} (p q : X → Bool) (xs : List X) → find (λ x. p x && q x) xs ≡ find p (filter q xs)
find_both p q [] = refl
find_both p q (x ∷ xs) = by (p x) (q x) refl (find_both p q xs)
  where
    by : (a b : Bool) → p x ≡ a → find (λ x. p x && q x) xs ≡ find p (filter q xs)
        → cond (a && b) (Some x) (find (λ x. p x && q x) xs) ≡ find p (cond b (x ∷ filter q xs) (filter q xs))
    by true true e h = sym (ap (λ c. cond c (Some x) (find p (filter q xs))) e)
    by true false e h = h
    by false true e h = h ∙ sym (ap (λ c. cond c (Some x) (find p (filter q xs))) e)
    by false false e h = h

-- a range with no end has the keys above its start
contains-above : (bound : Option Key) (key : Key) → range_contains key_cmp (start_above bound) Unbounded key ≡ is_above bound key
contains-above None key = refl
contains-above (Some b) key = and-true (is_lt (key_cmp b key))

-- the first entry above a bound that a test finds is the first that it finds in the range above it
pub find_above_range : (p : Key × Variable → Bool) (bound : Option Key) (es : List (Key × Variable))
    → find (λ e. p e && is_above bound e.0) es ≡ find p (entries_between key_cmp (start_above bound) Unbounded es)
find_above_range p bound es =
    find_both p (λ e. is_above bound e.0) es
    ∙ ap (find p)
    (filter_agree (λ e. is_above bound e.0) (λ e. range_contains key_cmp (start_above bound) Unbounded e.0)
    (λ e. sym (contains-above bound e.0)) es)
