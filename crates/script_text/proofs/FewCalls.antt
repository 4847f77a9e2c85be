-- A script has one to eight processors, each with at most so many calls.
use Rattle.std.proofs.Common.{◌≡◌, ℕ, zero, suc, ◌+◌, ◌<◌, ◌≤◌, Bool, true, false, List, [], ◌∷◌, ◌++◌, length, get_or, All, Option, Some, None, Result, Ok, Err, refl, subst, arith, nat_le, length-append}
use Rattle.std.proofs.lemmas.Bool.{leb-false}
use Rattle.std.proofs.lemmas.List.Elements.{All-cons, All-head, All-nil, All-tail}
use Rattle.std.specs.Prelude.{if◌then◌else◌}
use Rattle.var_types.specs.declared.call.Call.{Call}
use Rattle.script_text.specs.declared.line_reason.LineReason.{LineReason}
use Rattle.script_text.specs.declared.script_fault.ScriptFault.{ScriptFault}
use Rattle.script_text.specs.declared.script_fault.ScriptFault.TheVariants.{TooManyCalls}
use Rattle.script_text.specs.Script.{after_call, after_line, calls_from, most_calls, with_call}
use Rattle.script_text.specs.Words.{◌>>=◌, line_call}
use Rattle.script_text.proofs.LineProcessors.{line_call-small}

-- a processor has so many calls at most
abbrev pub IsShort : List Call → Type 0
IsShort calls = length calls ≤ most_calls

-- one to eight processors have so many calls at most
pub record AreFew (script : List (List Call)) : Type 0 where
  pub some : 1 ≤ length script
  pub few : length script ≤ 8
  pub short : All IsShort script

-- no call of one processor
pub none_are_few : AreFew ([] ∷ [])
none_are_few = record { some = omega arith; few = omega arith; short = All-cons IsShort [] [] (omega arith) (All-nil IsShort) }

-- one more call
some_with_call : (calls : List (List Call)) (n : ℕ) (call : Call) → 1 ≤ length (with_call calls n call)
some_with_call [] zero call = omega arith
some_with_call [] (suc n) call = omega arith
some_with_call (c ∷ calls) zero call = omega arith
some_with_call (c ∷ calls) (suc n) call = omega arith

few_with_call : (calls : List (List Call)) (n most : ℕ) (call : Call) → length calls ≤ most → n < most → length (with_call calls n call) ≤ most
few_with_call [] zero most call few small = omega (arith, small)
few_with_call [] (suc n) zero call few small = absurd (omega (arith, small))
few_with_call [] (suc n) (suc most) call few small = let h = few_with_call [] n most call (omega arith) (omega (arith, small)) in omega (arith, h)
few_with_call (c ∷ calls) zero most call few small = omega (arith, few)
few_with_call (c ∷ calls) (suc n) zero call few small = absurd (omega (arith, small))
few_with_call (c ∷ calls) (suc n) (suc most) call few small =
    let h = few_with_call calls n most call (omega (arith, few)) (omega (arith, small)) in omega (arith, h)

short_with_call : (calls : List (List Call)) (n : ℕ) (call : Call) → All IsShort calls → length (get_or calls n []) < most_calls
    → All IsShort (with_call calls n call)
short_with_call [] zero call short room = All-cons IsShort (call ∷ []) [] (omega arith) (All-nil IsShort)
short_with_call [] (suc n) call short room = All-cons IsShort [] (with_call [] n call) (omega arith) (short_with_call [] n call short room)
short_with_call (c ∷ calls) zero call short room =
    All-cons IsShort (c ++ call ∷ []) calls (omega (arith, room, length-append c (call ∷ []))) (All-tail IsShort c calls short)
short_with_call (c ∷ calls) (suc n) call short room =
    All-cons IsShort c (with_call calls n call) (All-head IsShort c calls short) (short_with_call calls n call (All-tail IsShort c calls short) room)

-- a call keeps them few
after_call-few : (before after : List (List Call)) (n : ℕ) (call : Call) → AreFew before → n < 8 → after_call before n call ≡ Ok after → AreFew after
after_call-few before after n call few small h = by (nat_le most_calls (length (get_or before n []))) h (λ room. leb-false _ _ room)
  where
    by : (many : Bool) → (if many then Err (TooManyCalls n most_calls) else Ok (with_call before n call)) ≡ Ok after
        → (many ≡ false → length (get_or before n []) < most_calls) → AreFew after
    by true h room = cc
    by false h room =
        let e : with_call before n call ≡ after = cc in
        subst AreFew e (record {
          some = some_with_call before n call;
          few = few_with_call before n 8 call few.few small;
          short = short_with_call before n call few.short (room refl);
        })

-- so does a line
after_line-few : (number : ℕ) (before after : List (List Call)) (read : Result (Option (ℕ × Call)) LineReason) → AreFew before
    → ((line : ℕ × Call) → read ≡ Ok (Some line) → line.0 < 8) → after_line number before read ≡ Ok after → AreFew after
after_line-few number before after (Err e) few small h = cc
after_line-few number before after (Ok None) few small h = let e : before ≡ after = cc in subst AreFew e few
after_line-few number before after (Ok (Some line)) few small h = after_call-few before after line.0 line.1 few (small line refl) h

-- so do lines
pub calls_from-few : (number : ℕ) (before after : List (List Call)) (texts : List (List ℕ)) → AreFew before → calls_from number before texts ≡ Ok after
    → AreFew after
unfolding calls_from
calls_from-few number before after [] few h = let e : before ≡ after = cc in subst AreFew e few
calls_from-few number before after (text ∷ texts) few h =
    by (after_line number before (line_call text)) h (λ mid. after_line-few number before mid (line_call text) few (line_call-small text))
    (λ mid. calls_from-few (number + 1) mid after texts)
  where
    by : (read : Result (List (List Call)) ScriptFault) → (read >>= λ mid. calls_from (number + 1) mid texts) ≡ Ok after
        → ((mid : List (List Call)) → read ≡ Ok mid → AreFew mid)
        → ((mid : List (List Call)) → AreFew mid → calls_from (number + 1) mid texts ≡ Ok after → AreFew after) → AreFew after
    by (Ok mid) h are behind = behind mid (are mid refl) h
    by (Err e) h are behind = cc
