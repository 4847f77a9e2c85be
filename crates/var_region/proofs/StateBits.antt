-- Each step of a state byte is one bit: of the bytes that lie between the two, there are these two alone.
use Rattle.std.proofs.Common.{◌≡◌, ◌⊎◌, inl, inr, ℕ, suc, zero, ◌≤◌, ◌<◌, ◌==◌, Bool, true, false, ◌&&◌, ◌||◌, not, bit_and, refl, sym, ap, subst, ◌∙◌, arith, eqb, eqb-true, eq-eqb}
use Rattle.std.proofs.lemmas.Nat.{and_le_r}
use Rattle.var_region.specs.StateSteps.{IsOneBit, StateStepsAreOneBit}

-- whether a byte that lies between two is one of the two
abbrev is_either : ℕ → ℕ → ℕ → Bool
is_either old new left = not (bit_and left old == left) || not (bit_and left new == new) || (left == old) || (left == new)

-- whether all below a number pass a test
abbrev all_below : ℕ → (ℕ → Bool) → Bool
all_below zero test = true
all_below (suc n) test = test n && all_below n test

-- each number below passes
below : (n : ℕ) (test : ℕ → Bool) → all_below n test ≡ true → (k : ℕ) → k < n → test k ≡ true
below zero test all k h = absurd (omega arith)
below (suc n) test all k h = by (test n) refl all (eqb k n) refl (below n test)
  where
    by : (here : Bool) → test n ≡ here → (here && all_below n test) ≡ true → (last : Bool) → eqb k n ≡ last
        → (all_below n test ≡ true → (k : ℕ) → k < n → test k ≡ true) → test k ≡ true
    by false t a last e rest = cc
    by true t a true e rest = ap test (eqb-true k n e) ∙ t
    by true t a false e rest =
        let apart : k ≡ n → ⊥ = λ same. let yes = eq-eqb k n same in cc in
        rest a k (omega arith)

-- a byte is programmed over another in one bit, where the numbers up to the byte say so
one_bit : (old new : ℕ) → bit_and old new ≡ new → all_below (suc old) (is_either old new) ≡ true → IsOneBit old new
one_bit old new clears all = record { clears = clears; alone = λ left none rest. by left none rest }
  where
    either : (a b : Bool) (left : ℕ) → eqb left old ≡ a → eqb left new ≡ b → (a || b) ≡ true → (left ≡ old) ⊎ (left ≡ new)
    either true b left p q h = inl (eqb-true left old p)
    either false true left p q h = inr (eqb-true left new q)
    either false false left p q h = cc

    by : (left : ℕ) → bit_and left old ≡ left → bit_and left new ≡ new → (left ≡ old) ⊎ (left ≡ new)
    by left none rest =
        let small : left ≤ old = subst (λ n. n ≤ old) none (and_le_r left old) in
        let passes = below (suc old) (is_either old new) all left (omega arith) in
        let p = eq-eqb (bit_and left old) left none in
        let q = eq-eqb (bit_and left new) new rest in
        either (eqb left old) (eqb left new) left refl refl
        (sym (ap (λ t. not t || not (bit_and left new == new) || (left == old) || (left == new)) p ∙ ap (λ t. false || not t || (left == old) || (left == new)) q) ∙ passes)

pub StateStepsAreOneBit-all : StateStepsAreOneBit
StateStepsAreOneBit-all =
    (one_bit 0xFF 0x7F refl refl, (one_bit 0x7F 0x3F refl refl, (one_bit 0x3F 0x3E refl refl, (one_bit 0x3E 0x3C refl refl, (one_bit 0x3F 0x3D refl refl, tt)))))
