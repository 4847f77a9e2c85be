-- Lines with another number of words than their verb has.
use Rattle.std.proofs.Common.{◌≡◌, ◌≢◌, ℕ, ◌<◌, List, [], ◌∷◌, length, false, Err, refl, arith}
use Rattle.script_text.specs.declared.line_reason.LineReason.TheVariants as reason
use Rattle.script_text.specs.Schedule.{is_schedule_word, schedule_words}
use Rattle.script_text.specs.Words.{get_words, next_words, policy_words, register_words, set_words}

pub other_get_words : (words : List (List ℕ)) → length words ≢ 3 → get_words words ≡ Err reason.Words
unfolding get_words
other_get_words [] other = refl
other_get_words (a ∷ []) other = refl
other_get_words (a ∷ b ∷ []) other = refl
other_get_words (a ∷ b ∷ c ∷ []) other = absurd (other refl)
other_get_words (a ∷ b ∷ c ∷ d ∷ rest) other = refl

pub other_next_words : (words : List (List ℕ)) → length words ≢ 3 → next_words words ≡ Err reason.Words
unfolding next_words
other_next_words [] other = refl
other_next_words (a ∷ []) other = refl
other_next_words (a ∷ b ∷ []) other = refl
other_next_words (a ∷ b ∷ c ∷ []) other = absurd (other refl)
other_next_words (a ∷ b ∷ c ∷ d ∷ rest) other = refl

pub few_set_words : (words : List (List ℕ)) → length words < 4 → set_words words ≡ Err reason.Words
unfolding set_words
few_set_words [] few = refl
few_set_words (a ∷ []) few = refl
few_set_words (a ∷ b ∷ []) few = refl
few_set_words (a ∷ b ∷ c ∷ []) few = refl
few_set_words (a ∷ b ∷ c ∷ d ∷ rest) few = absurd (omega arith)

pub other_register_words : (words : List (List ℕ)) → length words ≢ 1 → register_words words ≡ Err reason.Words
unfolding register_words
other_register_words [] other = refl
other_register_words (a ∷ []) other = absurd (other refl)
other_register_words (a ∷ b ∷ rest) other = refl

pub other_policy_words : (words : List (List ℕ)) → length words ≢ 1 → policy_words words ≡ Err reason.Words
unfolding policy_words
other_policy_words [] other = refl
other_policy_words (a ∷ []) other = absurd (other refl)
other_policy_words (a ∷ b ∷ rest) other = refl

pub other_schedule_words : (words : List (List ℕ)) → words ≢ [] → length words ≢ 2 → schedule_words words ≡ Err reason.Schedule
unfolding schedule_words
other_schedule_words [] some other = absurd (some refl)
other_schedule_words (a ∷ []) some other = refl
other_schedule_words (a ∷ b ∷ []) some other = absurd (other refl)
other_schedule_words (a ∷ b ∷ c ∷ rest) some other = refl

pub no_schedule_word : (words : List (List ℕ)) → length words ≢ 1 → is_schedule_word words ≡ false
no_schedule_word [] other = refl
no_schedule_word (a ∷ []) other = absurd (other refl)
no_schedule_word (a ∷ b ∷ rest) other = refl
