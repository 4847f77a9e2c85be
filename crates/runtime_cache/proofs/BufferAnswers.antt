-- The reply whose answer, and whose data at the front of a buffer, these are.
use Rattle.std.proofs.Common.{◌≡◌, ℕ, ◌≤◌, List, ◌++◌, length, take, drop, Option, Some, refl, sym, ap, ◌∙◌, length-append, arith}
use Rattle.std.proofs.Math.Seq.{take-append_seam}
use Rattle.var_types.specs.Answers.{get_answer, next_answer}
use Rattle.var_types.specs.declared.answers.GetAnswer.TheVariants as get_answers
use Rattle.var_types.specs.declared.answers.NextAnswer.TheVariants as next_answers
use Rattle.var_types.specs.declared.guid.Guid.{Guid}
use Rattle.var_types.specs.declared.key.Key.{Key}
use Rattle.var_types.specs.declared.reply.GetReply.{GetReply}
use Rattle.var_types.specs.declared.reply.GetReply.TheVariants as get
use Rattle.var_types.specs.declared.reply.NextReply.{NextReply}
use Rattle.var_types.specs.declared.reply.NextReply.TheVariants as next

-- what stands at a front
record IsFront (front buffer : List ℕ) (n : ℕ) : Type 0 where
  count : length front ≡ n
  fits : n ≤ length buffer
  at_front : take n buffer ≡ front

front_is : (front rest buffer : List ℕ) (n : ℕ) → length front ≡ n → front ++ rest ≡ buffer → IsFront front buffer n
front_is front rest buffer n count is = record {
  count = count;
  fits = omega (arith, count, ap (λ (xs : List ℕ). length xs) is, length-append front rest);
  at_front = ap (take n) (sym is) ∙ ap (λ (k : ℕ). take k (front ++ rest)) (sym count) ∙ take-append_seam front rest;
}

-- the parts of equal pairs
some_pair : {A : Type 0} (a b : A) (x y : List ℕ) → ◌≡◌ {A = Option (A × List ℕ)} (Some (a, x)) (Some (b, y)) → (a ≡ b) × (x ≡ y)
some_pair {A = A} a b x y e =
    let same : ◌≡◌ {A = A × List ℕ} (a, x) (b, y) = cc in
    (ap (λ (q : A × List ℕ). q.0) same, ap (λ (q : A × List ℕ). q.1) same)

module _ (old new : List ℕ) where
  pub get_none : (r : GetReply) → Some (get_answers.NotFound, new) ≡ get_answer r old → get.NotFound ≡ r
  unfolding get_answer
  get_none get.NotFound e = refl
  get_none (get.TooSmall attributes needed) e = let parts = some_pair _ _ _ _ e in let first = parts.0 in cc
  get_none (get.Ok attributes bytes) e = let parts = some_pair _ _ _ _ e in let first = parts.0 in cc
  get_none get.OutOfMemory e = cc

  pub get_small : (r : GetReply) (attributes needed : ℕ) → Some (get_answers.TooSmall attributes needed, new) ≡ get_answer r old
      → get.TooSmall attributes needed ≡ r
  unfolding get_answer
  get_small get.NotFound attributes needed e = let parts = some_pair _ _ _ _ e in let first = parts.0 in cc
  get_small (get.TooSmall a n) attributes needed e = let parts = some_pair _ _ _ _ e in let first = parts.0 in cc
  get_small (get.Ok a bytes) attributes needed e = let parts = some_pair _ _ _ _ e in let first = parts.0 in cc
  get_small get.OutOfMemory attributes needed e = cc

  pub get_fits : (r : GetReply) (attributes n : ℕ) → Some (get_answers.Ok attributes n, new) ≡ get_answer r old
      → (n ≤ length new) × (get.Ok attributes (take n new) ≡ r)
  unfolding get_answer
  get_fits get.NotFound attributes n e = let parts = some_pair _ _ _ _ e in let first = parts.0 in cc
  get_fits (get.TooSmall a k) attributes n e = let parts = some_pair _ _ _ _ e in let first = parts.0 in cc
  get_fits (get.Ok a bytes) attributes n e =
      let parts = some_pair _ _ _ _ e in
      let first = parts.0 in
      let same : attributes ≡ a = cc in
      let count : length bytes ≡ n = cc in
      let whole : bytes ++ drop (length bytes) old ≡ new = sym parts.1 in
      let front = front_is bytes (drop (length bytes) old) new n count whole in
      (front.fits, λ i. get.Ok (same i) (front.at_front i))
  get_fits get.OutOfMemory attributes n e = cc

  pub next_no_such : (r : NextReply) → Some (next_answers.NoSuch, new) ≡ next_answer r old → next.NoSuch ≡ r
  unfolding next_answer
  next_no_such next.NoSuch e = refl
  next_no_such next.End e = let parts = some_pair _ _ _ _ e in let first = parts.0 in cc
  next_no_such (next.TooSmall needed) e = let parts = some_pair _ _ _ _ e in let first = parts.0 in cc
  next_no_such (next.Ok key) e = let parts = some_pair _ _ _ _ e in let first = parts.0 in cc
  next_no_such next.OutOfMemory e = cc

  pub next_end : (r : NextReply) → Some (next_answers.End, new) ≡ next_answer r old → next.End ≡ r
  unfolding next_answer
  next_end next.NoSuch e = let parts = some_pair _ _ _ _ e in let first = parts.0 in cc
  next_end next.End e = refl
  next_end (next.TooSmall needed) e = let parts = some_pair _ _ _ _ e in let first = parts.0 in cc
  next_end (next.Ok key) e = let parts = some_pair _ _ _ _ e in let first = parts.0 in cc
  next_end next.OutOfMemory e = cc

  pub next_small : (r : NextReply) (needed : ℕ) → Some (next_answers.TooSmall needed, new) ≡ next_answer r old → next.TooSmall needed ≡ r
  unfolding next_answer
  next_small next.NoSuch needed e = let parts = some_pair _ _ _ _ e in let first = parts.0 in cc
  next_small next.End needed e = let parts = some_pair _ _ _ _ e in let first = parts.0 in cc
  next_small (next.TooSmall n) needed e = let parts = some_pair _ _ _ _ e in let first = parts.0 in cc
  next_small (next.Ok key) needed e = let parts = some_pair _ _ _ _ e in let first = parts.0 in cc
  next_small next.OutOfMemory needed e = cc

  pub next_fits : (r : NextReply) (guid : Guid) (n : ℕ) → Some (next_answers.Ok guid n, new) ≡ next_answer r old
      → (n ≤ length new) × (next.Ok (let k : Key = record { guid = guid; name = take n new } in k) ≡ r)
  unfolding next_answer
  next_fits next.NoSuch guid n e = let parts = some_pair _ _ _ _ e in let first = parts.0 in cc
  next_fits next.End guid n e = let parts = some_pair _ _ _ _ e in let first = parts.0 in cc
  next_fits (next.TooSmall k) guid n e = let parts = some_pair _ _ _ _ e in let first = parts.0 in cc
  next_fits (next.Ok key) guid n e =
      let parts = some_pair _ _ _ _ e in
      let first = parts.0 in
      let same : guid ≡ key.guid = cc in
      let count : length key.name ≡ n = cc in
      let whole : key.name ++ drop (length key.name) old ≡ new = sym parts.1 in
      let front = front_is key.name (drop (length key.name) old) new n count whole in
      (front.fits, λ i. next.Ok (let k : Key = record { guid = same i; name = front.at_front i } in k))
  next_fits next.OutOfMemory guid n e = cc
