-- Lines with another number of words than they are to have.
use Rattle.std.proofs.Common.{◌≡◌, ◌≢◌, ℕ, ◌<◌, true, false, List, [], ◌∷◌, length, Err, refl, arith}
use Rattle.policy_audit.specs.declared.policy_line.PolicyLine.TheVariants as reason
use Rattle.policy_audit.specs.Words.{checked, has_lock_words, lock_words, policy_words, spelled, state_words}

pub other_state_words : (words : List (List ℕ)) → length words ≢ 3 → state_words words ≡ Err reason.Lock
unfolding state_words
other_state_words [] other = refl
other_state_words (a ∷ []) other = refl
other_state_words (a ∷ b ∷ []) other = refl
other_state_words (a ∷ b ∷ c ∷ []) other = absurd (other refl)
other_state_words (a ∷ b ∷ c ∷ d ∷ rest) other = refl

pub few_policy_words : (words : List (List ℕ)) → length words < 7 → policy_words words ≡ Err reason.Words
unfolding policy_words
few_policy_words [] few = refl
few_policy_words (a ∷ []) few = refl
few_policy_words (a ∷ b ∷ []) few = refl
few_policy_words (a ∷ b ∷ c ∷ []) few = refl
few_policy_words (a ∷ b ∷ c ∷ d ∷ []) few = refl
few_policy_words (a ∷ b ∷ c ∷ d ∷ e ∷ []) few = refl
few_policy_words (a ∷ b ∷ c ∷ d ∷ e ∷ f ∷ []) few = refl
few_policy_words (a ∷ b ∷ c ∷ d ∷ e ∷ f ∷ g ∷ rest) few = absurd (omega arith)

-- with other words behind the word of its lock than that asks for
pub other_lock_words : (guid name min max must cant lock : List ℕ) (rest : List (List ℕ)) → has_lock_words lock rest ≡ false
    → policy_words (guid ∷ name ∷ min ∷ max ∷ must ∷ cant ∷ lock ∷ rest) ≡ Err reason.Words
unfolding policy_words
other_lock_words guid name min max must cant lock rest other = rw other refl

-- with the words that it asks for
pub policy_of_words : (guid name min max must cant lock : List ℕ) (rest : List (List ℕ)) → has_lock_words lock rest ≡ true
    → policy_words (guid ∷ name ∷ min ∷ max ∷ must ∷ cant ∷ lock ∷ rest)
    ≡ checked (spelled guid name min max must cant (lock_words lock rest))
unfolding policy_words
policy_of_words guid name min max must cant lock rest has = rw has refl
