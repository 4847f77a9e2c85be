use Rattle.std.proofs.Common.{◌≡◌, ℕ, suc, ◌+◌, ◌-◌, List, [], ◌∷◌, ◌++◌, length, take, drop, decimal, map, All, refl, sym, ap, ◌∙◌, subst, arith, length-append}
use Rattle.std.proofs.lemmas.Fmt.{decimal_injective}
use Rattle.std.proofs.lemmas.List.Elements.{All-head, All-tail}
use Rattle.std.proofs.lemmas.List.Prefix.{end_rest}
use Rattle.std.proofs.Math.Seq.{drop-append_seam, take-append_seam}
use Rattle.var_types.specs.Texts.{spaced}
use Rattle.var_types.specs.declared.answered.Answered.{Answered}
use Rattle.var_types.specs.Session.{calls_of}
use Rattle.var_types.specs.Step.{IsOfKind}
use Rattle.report_text.specs.Fitting.{IsFitting}
use Rattle.report_text.specs.Replies.{reply_text}
use Rattle.report_text.specs.Report.{route_text}
use Rattle.report_text.specs.Session.{OneReportOneSession}
use Rattle.report_text.proofs.Cut.{cut}
use Rattle.report_text.proofs.SameReplies.{same_replies}
use Rattle.report_text.proofs.SameRoutes.{same_routes}
use Rattle.report_text.proofs.SameWords.{same_lines}
use Rattle.report_text.proofs.SessionLines.{answer_words, answer_texts, first_lines, last_lines, session_text-lines, AreLines-session}
use Rattle.report_text.proofs.WordBytes.{is_word_byte, IsWord-decimal}

-- answered calls of the same parts
same_parts : (a b : Answered) → a.call ≡ b.call → a.place ≡ b.place → a.route ≡ b.route → a.reply ≡ b.reply → a ≡ b
same_parts a b call place route reply = λ i. record { call = call i; place = place i; route = route i; reply = reply i }

-- answered calls of one call, one index and one line
same_answer : (index : ℕ) (a b : Answered) → a.call ≡ b.call → IsFitting a → IsFitting b → spaced (answer_words index a) ≡ spaced (answer_words index b) → a ≡ b
same_answer index a b call h k e =
    let number = decimal index in
    let place = decimal a.place in
    let other = decimal b.place in
    let route = route_text a.route in
    let way = route_text b.route in
    let one = cut is_word_byte 32 number number (spaced (place ∷ route ∷ reply_text a.reply ∷ [])) (spaced (other ∷ way ∷ reply_text b.reply ∷ [])) refl
    (IsWord-decimal index) (IsWord-decimal index) e in
    let two = cut is_word_byte 32 place other (spaced (route ∷ reply_text a.reply ∷ [])) (spaced (way ∷ reply_text b.reply ∷ [])) refl
    (IsWord-decimal a.place) (IsWord-decimal b.place) one.1 in
    let three = same_routes a.route b.route (reply_text a.reply) (reply_text b.reply) h.1.2 k.1.2 two.1 in
    let same_place : a.place ≡ b.place = decimal_injective a.place b.place h.1.1 k.1.1 two.0 in
    let kind : IsOfKind a.call b.reply = subst (λ c. IsOfKind c b.reply) (sym call) k.0 in
    let same_reply : a.reply ≡ b.reply = same_replies a.call a.reply b.reply h.0 kind h.1.0 k.1.0 three.1 in
    same_parts a b call same_place three.0 same_reply

-- the ends of one list, as long as each other
same_ends : (xs ys us vs : List (List ℕ)) → length us ≡ length vs → xs ++ us ≡ ys ++ vs → us ≡ vs
same_ends xs ys us vs len e =
    sym (end_rest (xs ++ us) us xs refl)
    ∙ ap (λ n. drop (length (xs ++ us) - n) (xs ++ us)) len
    ∙ end_rest (xs ++ us) vs ys e

-- answered calls of the same calls and the same lines
same_answers : (index : ℕ) (xs ys : List Answered) → calls_of xs ≡ calls_of ys → All IsFitting xs → All IsFitting ys → answer_texts index xs ≡ answer_texts index ys → xs ≡ ys
same_answers index [] [] c h k e = refl
same_answers index [] (y ∷ ys) c h k e = cc
same_answers index (x ∷ xs) [] c h k e = cc
same_answers index (x ∷ xs) (y ∷ ys) c h k e =
    let call : x.call ≡ y.call = cc in
    let line : spaced (answer_words index x) ≡ spaced (answer_words index y) = cc in
    let first : x ≡ y = same_answer index x y call (All-head IsFitting x xs h) (All-head IsFitting y ys k) line in
    let rest : xs ≡ ys = same_answers (index + 1) xs ys (cc) (All-tail IsFitting x xs h) (All-tail IsFitting y ys k) (cc) in
    cc

-- answered calls of the same calls have as many lines
same_lengths : (index : ℕ) (xs ys : List Answered) → calls_of xs ≡ calls_of ys → length (answer_texts index xs) ≡ length (answer_texts index ys)
same_lengths index [] [] c = refl
same_lengths index [] (y ∷ ys) c = cc
same_lengths index (x ∷ xs) [] c = cc
same_lengths index (x ∷ xs) (y ∷ ys) c = ap (λ n. suc n) (same_lengths (index + 1) xs ys (cc))

-- and so do those of several processors
same_last_lengths : (processor : ℕ) (xs ys : List (List Answered)) → map calls_of xs ≡ map calls_of ys
    → length (last_lines processor xs) ≡ length (last_lines processor ys)
same_last_lengths processor [] [] c = refl
same_last_lengths processor [] (y ∷ ys) c = cc
same_last_lengths processor (x ∷ xs) [] c = cc
same_last_lengths processor (x ∷ xs) (y ∷ ys) c =
    let first : calls_of x ≡ calls_of y = cc in
    let rest = same_last_lengths (processor + 1) xs ys (cc) in
    let own = same_lengths 0 x y first in
    let left = length-append (answer_texts 0 x) (last_lines (processor + 1) xs) in
    let right = length-append (answer_texts 0 y) (last_lines (processor + 1) ys) in
    omega (arith, rest, own, left, right)

-- two parts of one list, of which the first are as long as each other
same_halves : (xs ys us vs : List (List ℕ)) → length xs ≡ length ys → xs ++ us ≡ ys ++ vs → (xs ≡ ys) × (us ≡ vs)
same_halves xs ys us vs len e = (
  sym (take-append_seam xs us) ∙ ap (take (length xs)) e ∙ ap (λ n. take n (ys ++ vs)) len ∙ take-append_seam ys vs,
  sym (drop-append_seam xs us) ∙ ap (drop (length xs)) e ∙ ap (λ n. drop n (ys ++ vs)) len ∙ drop-append_seam ys vs,
)

-- processors with the same calls and the same lines
same_processors : (processor : ℕ) (xs ys : List (List Answered)) → map calls_of xs ≡ map calls_of ys → All (All IsFitting) xs → All (All IsFitting) ys
    → last_lines processor xs ≡ last_lines processor ys → xs ≡ ys
same_processors processor [] [] c h k e = refl
same_processors processor [] (y ∷ ys) c h k e = cc
same_processors processor (x ∷ xs) [] c h k e = cc
same_processors processor (x ∷ xs) (y ∷ ys) c h k e =
    let calls : calls_of x ≡ calls_of y = cc in
    let later : map calls_of xs ≡ map calls_of ys = cc in
    let halves = same_halves (answer_texts 0 x) (answer_texts 0 y) (last_lines (processor + 1) xs) (last_lines (processor + 1) ys) (same_lengths 0 x y calls)
    (ap (drop 1) e) in
    let first : x ≡ y = same_answers 0 x y calls (All-head (All IsFitting) x xs h) (All-head (All IsFitting) y ys k) halves.0 in
    let rest : xs ≡ ys =
    same_processors (processor + 1) xs ys later (All-tail (All IsFitting) x xs h) (All-tail (All IsFitting) y ys k) halves.1 in
    cc

-- sessions of the same calls that have the same report are the same
pub same_session : OneReportOneSession
same_session hx hy xs ys calls h k e =
    let lines = same_lines (first_lines hx ++ last_lines 0 xs) (first_lines hy ++ last_lines 0 ys) (AreLines-session hx xs) (AreLines-session hy ys)
    (sym (session_text-lines hx xs) ∙ e ∙ session_text-lines hy ys) in
    same_processors 0 xs ys calls h k
    (same_ends (first_lines hx) (first_lines hy) (last_lines 0 xs) (last_lines 0 ys) (same_last_lengths 0 xs ys calls) lines)
