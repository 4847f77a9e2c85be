-- What interrupted calls leave.
use Rattle.std.proofs.Common.{ℕ, suc, ◌<◌, List, [], ◌∷◌, get_or, drop, refl, sym, ap, subst, ◌∙◌}
use Rattle.std.specs.Prelude.{bit_and}
use Rattle.std.specs.Int.Bits.{and_self}
use Rattle.std.proofs.lemmas.Nat.{and_assoc, and_comm}
use Rattle.flash_dev.specs.MemFlash.{even_bytes}
use Rattle.flash_dev.specs.Rules.{AreBytesLeft, IsByteLeft, IsProgramLeft, cleared}
use Rattle.flash_dev.proofs.Cleared.{and_byte}

-- a byte may be left as it was
byte_kept : (old new : ℕ) → IsByteLeft old new old
byte_kept old new = record {
  none_set = and_self old;
  rest_kept = sym (and_assoc new old old) ∙ ap (λ b. bit_and b new) (and_self old);
}

-- a byte may be left with all its bits cleared
byte_cleared : (old new : ℕ) → IsByteLeft old new (bit_and old new)
byte_cleared old new = record {
  none_set = and_comm (bit_and old new) old ∙ (byte_kept old new).rest_kept;
  rest_kept = and_self (bit_and old new);
}

-- bytes may be left as they were
kept_left : (olds news : List ℕ) → AreBytesLeft olds news olds
kept_left olds [] = refl
kept_left [] (new ∷ news) = refl
kept_left (old ∷ olds) (new ∷ news) = (byte_kept old new, kept_left olds news)

-- bytes may be left with all their bits cleared
pub cleared_left : (olds news : List ℕ) → AreBytesLeft olds news (cleared olds news)
cleared_left olds [] = refl
cleared_left [] (new ∷ news) = refl
cleared_left (old ∷ olds) (new ∷ news) = (byte_cleared old new, cleared_left olds news)

-- bytes may be left with the bits at even indices cleared
pub evens_left : (olds news : List ℕ) → ((k : ℕ) → get_or olds k 0 < 256) → AreBytesLeft olds news (cleared olds (even_bytes news))
evens_left olds [] bytes = refl
evens_left [] (new ∷ []) bytes = refl
evens_left [] (new ∷ other ∷ news) bytes = refl
evens_left (old ∷ olds) (new ∷ []) bytes = (byte_cleared old new, refl)
evens_left (old ∷ []) (new ∷ other ∷ news) bytes = (byte_cleared old new, refl)
evens_left (old ∷ next ∷ olds) (new ∷ other ∷ news) bytes = (
  byte_cleared old new,
  (
    subst (IsByteLeft next other) (sym (and_byte next (bytes 1))) (byte_kept next other),
    evens_left olds news (λ k. bytes (suc (suc k))),
  ),
)

-- a call with no effect leaves what a program may
pub none_leaves : (at : ℕ) (news image : List ℕ) → IsProgramLeft at news image image
none_leaves at news image = record { before = refl; range = kept_left (drop at image) news }
