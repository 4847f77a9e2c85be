-- The lower of two keys: it is the same in either grouping.
use Rattle.std.proofs.Common.{◌≡◌, Bool, true, false, cond, Option, Some, None, is_lt, Ordering, Less, Equal, Greater, refl, sym, ap, ◌∙◌, true≢false}
use Rattle.std.proofs.lemmas.Cmp.{alike_right}
use Rattle.std.specs.Cmp.{IsTotalOrder}
use Rattle.std.specs.Ordering.{ordering_reverse}
use Rattle.var_types.specs.Least.{lower}

module _ {K : Type 0} {R : K → K → Ordering} (o : IsTotalOrder R) where
  -- what is not below a key is not below one that is not above that key
  pub not_lower : (a b c : K) → is_lt (R b a) ≡ false → is_lt (R c b) ≡ false → is_lt (R c a) ≡ false
  not_lower a b c p q = by (R c a) refl (R b a) refl p
    where
      by : (r : Ordering) → R c a ≡ r → (s : Ordering) → R b a ≡ s → is_lt s ≡ false → is_lt r ≡ false
      by Less e Less f n = absurd (true≢false n)
      by Less e Equal f n = absurd (true≢false (sym (ap is_lt (alike_right o b a c f ∙ e)) ∙ q))
      by Less e Greater f n = absurd (true≢false (sym (ap is_lt (o.trans c a b e (o.antisymm a b ∙ ap ordering_reverse f))) ∙ q))
      by Equal e s f n = refl
      by Greater e s f n = refl

  -- the lowest of three keys, in either grouping
  pub lower_assoc : (a b c : Option K) → lower R (lower R a b) c ≡ lower R a (lower R b c)
  lower_assoc None b c = refl
  lower_assoc (Some a) None c = refl
  lower_assoc (Some a) (Some b) None = by (is_lt (R b a))
    where
      by : (s : Bool) → lower R (cond s (Some b) (Some a)) None ≡ cond s (Some b) (Some a)
      by true = refl
      by false = refl
  lower_assoc (Some a) (Some b) (Some c) = by (is_lt (R b a)) refl (is_lt (R c b)) refl
    where
      below : (r s : Ordering) → is_lt r ≡ true → is_lt s ≡ true → R b a ≡ r → R c b ≡ s → is_lt (R c a) ≡ true
      below Less Less p q e f = ap is_lt (o.trans c b a f e)
      below Less Equal p q e f = absurd (true≢false (sym q))
      below Less Greater p q e f = absurd (true≢false (sym q))
      below Equal s p q e f = absurd (true≢false (sym p))
      below Greater s p q e f = absurd (true≢false (sym p))

      by : (s : Bool) → is_lt (R b a) ≡ s → (t : Bool) → is_lt (R c b) ≡ t
          → lower R (cond s (Some b) (Some a)) (Some c) ≡ lower R (Some a) (cond t (Some c) (Some b))
      by true e true f =
          ap (λ t. cond t (Some c) (Some b)) f ∙ sym (ap (λ t. cond t (Some c) (Some a)) (below (R b a) (R c b) e f refl refl))
      by true e false f = ap (λ t. cond t (Some c) (Some b)) f ∙ sym (ap (λ t. cond t (Some b) (Some a)) e)
      by false e true f = refl
      by false e false f =
          ap (λ t. cond t (Some c) (Some a)) (not_lower a b c e f) ∙ sym (ap (λ t. cond t (Some b) (Some a)) e)
