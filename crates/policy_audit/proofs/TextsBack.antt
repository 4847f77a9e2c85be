-- The lines of policies read back.
use Rattle.std.proofs.Common.{◌≡◌, ℕ, ◌+◌, ◌^◌, ◌<◌, ◌≤◌, Bool, true, false, eqb, List, [], ◌∷◌, ◌++◌, length, map, flat_map, All, Option, Some, None, Result, Ok, Err, refl, sym, ap, subst, ◌∙◌, inl, inr, arith, codes, append_assoc}
use Rattle.std.specs.Fmt.{decimal}
use Rattle.std.specs.List.{AllByRecursion, list_all}
use Rattle.std.specs.Prelude.{◌==◌, IfSome, IsErr, nat_lt, position, if◌then◌else◌}
use Rattle.std.specs.Str.Lines.{lines}
use Rattle.std.proofs.lemmas.Bool.{and_from, cases_Bool, eqb-true, le-leb, le-ltb, lt-ltb, ltb-false, ne_eqb}
use Rattle.std.proofs.lemmas.List.Elements.{All-head, All-tail, All-weaker}
use Rattle.std.proofs.lemmas.List.Sums.{list_all-from_AllPass}
use Rattle.std.proofs.lemmas.Slice.Eq.{bytes_eq-Decides}
use Rattle.policy_entry.specs.Laws.{EntriesReadBack}
use Rattle.script_text.specs.declared.line_reason.LineReason.{LineReason}
use Rattle.script_text.specs.Lines.{is_comment, is_text, words_of}
use Rattle.script_text.specs.Names.{name_of}
use Rattle.script_text.specs.Numbers.{number_in, number_of}
use Rattle.script_text.specs.Words.{◌>>=◌, guid_read, guid_word}
use Rattle.script_text.proofs.FirstLines.{feed_line}
use Rattle.script_text.proofs.NameTexts.{IsWord-name_text, name_of-name_text}
use Rattle.script_text.proofs.NumberTexts.{IsWord-attributes_text, IsWord-decimal, number_of-attributes_text, number_of-decimal}
use Rattle.script_text.proofs.WordLemmas.{IsWord, is_text-spaced, is_word_byte, words_of-spaced}
use Rattle.var_types.proofs.Guids.{guid_of-guid_text, guid_text_between, length-guid_text}
use Rattle.var_types.specs.declared.guid.Guid.{Guid}
use Rattle.var_types.specs.declared.key.Key.{Key}
use Rattle.var_types.specs.declared.policy.Lock.{Lock}
use Rattle.var_types.specs.declared.policy.Lock.TheVariants as locks
use Rattle.var_types.specs.declared.policy.Policy.{Policy}
use Rattle.var_types.specs.Guid.{IsGuid, guid_text}
use Rattle.var_types.specs.declared.name.NameFault.TheVariants.{Empty, TooLong}
use Rattle.var_types.specs.Name.{nul_check}
use Rattle.var_types.specs.PolicyEntry.{CanSpell, CanSpellLock, IsNameOfUnits, entry_bytes, entry_of}
use Rattle.var_types.specs.Texts.{attributes_text, is_dash, name_text, spaced}
use Rattle.policy_audit.specs.declared.policy_line.PolicyLine.{PolicyLine}
use Rattle.policy_audit.specs.declared.policy_line.PolicyLine.TheVariants as reason
use Rattle.policy_audit.specs.declared.policy_text_fault.PolicyTextFault.TheVariants.{Line}
use Rattle.policy_audit.specs.Laws.{all_added}
use Rattle.policy_audit.specs.Text.{added, after_line, at_line, most_text_bytes, policies_from, policies_of}
use Rattle.policy_audit.specs.Words.{checked, has_lock_words, if_byte, line_policy, lock_words, named, or_reason, policy_max, policy_name, policy_number, policy_words, spelled, state_lock, state_words, through_entry, words_policy}
use Rattle.policy_audit.specs.Written.{lock_text, max_text, own_text, policies_text, policy_line_text, policy_text}
use Rattle.policy_audit.proofs.SameNames.{not_empty}
use Rattle.policy_audit.proofs.WordCounts.{policy_of_words}

-- ---- words

-- a character from `-` to `f` may stand in a word
in_word : (c : ℕ) → (45 ≤ c) × (c ≤ 102) → is_word_byte c ≡ true
in_word c between = and_from _ _ (le-leb 33 c (omega (arith, between.0))) (le-leb c 126 (omega (arith, between.1)))

-- the text of a GUID is a word, and is read as the GUID
guid_is_word : (guid : Guid) → IsWord (guid_text guid)
guid_is_word guid = record {
  some = omega (arith, length-guid_text guid);
  printed =
      list_all-from_AllPass is_word_byte (guid_text guid)
      (All-weaker (λ c. (45 ≤ c) × (c ≤ 102)) (λ c. is_word_byte c ≡ true) in_word (guid_text guid) (guid_text_between guid));
}

guid_back : (guid : Guid) → IsGuid guid → guid_word (guid_text guid) ≡ Ok guid
unfolding guid_word
guid_back guid is = ap guid_read (guid_of-guid_text guid is)

-- a well-formed name is short
not_long : (empty long : Bool) (n : ℕ) (at : Option ℕ) → (if empty then Err Empty else if long then Err (TooLong n) else nul_check at) ≡ Ok tt → long ≡ false
not_long true false n at h = refl
not_long false false n at h = refl
not_long true true n at h = cc
not_long false true n at h = cc

short_name : (units : List ℕ) → IsNameOfUnits units → length units ≤ 1024
short_name units is =
    let most =
    ltb-false 512 (length units) (not_long (length units == 0) (nat_lt 512 (length units)) (length units) (position (λ unit. unit == 0) units) is.0) in
    omega (arith, most)

-- ---- values

-- the text of a well-formed name is read as the name
name_back : (units : List ℕ) → IsNameOfUnits units → name_of (name_text units) ≡ Ok units
name_back units is = name_of-name_text units (short_name units is) is.1

-- a dash is read as no name
dash_name : (word : List ℕ) → is_dash word ≡ true → name_of word ≡ Ok []
unfolding name_of
dash_name word dash = rw dash refl

-- so the text of one is no dash
no_dash : (units : List ℕ) → IsNameOfUnits units → is_dash (name_text units) ≡ false
no_dash units is =
    elim (cases_Bool (is_dash (name_text units))) [
      | inl dash ↦
          let same : Path (Result (List ℕ) LineReason) (Ok units) (Ok []) = sym (name_back units is) ∙ dash_name (name_text units) dash in
          absurd (not_empty (subst IsNameOfUnits (ap (λ (r : Result (List ℕ) LineReason). or_none r) same) is))
      | inr other ↦ other
    ]
  where
    or_none : Result (List ℕ) LineReason → List ℕ
    or_none (Ok x) = x
    or_none (Err e) = []

own_back : (own : Option (List ℕ)) → IfSome own IsNameOfUnits → policy_name (own_text own) ≡ Ok own
unfolding policy_name
own_back None is = refl
own_back (Some units) is = rw (no_dash units is, name_back units is) refl

own_is_word : (own : Option (List ℕ)) → IsWord (own_text own)
own_is_word None = record { some = omega arith; printed = refl }
own_is_word (Some units) = IsWord-name_text units

number_back : (n : ℕ) → n < 2 ^ 32 → policy_number (decimal n) ≡ Ok n
unfolding policy_number
number_back n small = rw (number_of-decimal n small) refl

attributes_back : (n : ℕ) → n < 2 ^ 32 → policy_number (attributes_text n) ≡ Ok n
unfolding policy_number
attributes_back n small = rw (number_of-attributes_text n small) refl

-- a dash is no number
dash_number : (word : List ℕ) → is_dash word ≡ true → IsErr (number_of word)
unfolding number_of number_in
dash_number word dash = subst (λ (w : List ℕ). IsErr (number_of w)) (sym ((bytes_eq-Decides word (codes "-")).0 dash)) refl

no_err : (n : ℕ) → IsErr {T = ℕ} {E = LineReason} (Ok n) → ⊥
no_err n h = cc

no_dash_number : (n : ℕ) → n < 2 ^ 32 → is_dash (decimal n) ≡ false
no_dash_number n small =
    elim (cases_Bool (is_dash (decimal n))) [
      | inl dash ↦ absurd (no_err n (subst (λ (r : Result ℕ LineReason). IsErr r) (number_of-decimal n small) (dash_number (decimal n) dash)))
      | inr other ↦ other
    ]

max_back : (max : ℕ) → max < 2 ^ 32 → policy_max (max_text max) ≡ Ok max
unfolding policy_max
max_back max small =
    elim (cases_Bool (max == 0xFFFFFFFF)) [
      | inl most ↦ rw most (ap Ok (sym (eqb-true max 0xFFFFFFFF most)))
      | inr other ↦ rw (other, no_dash_number max small) (number_back max small)
    ]

max_is_word : (max : ℕ) → max < 2 ^ 32 → IsWord (max_text max)
max_is_word max small =
    elim (cases_Bool (max == 0xFFFFFFFF)) [
      | inl most ↦ rw most (record { some = omega arith; printed = refl })
      | inr other ↦ rw other (IsWord-decimal max small)
    ]

-- ---- locks

-- the word of a lock, and the words behind it
abbrev lock_first : Lock → List ℕ
lock_first locks.NoLock = codes "none"
lock_first locks.Now = codes "now"
lock_first locks.OnCreate = codes "create"
lock_first (locks.OnState key value) = codes "state"

abbrev lock_rest : Lock → List (List ℕ)
lock_rest (locks.OnState key value) = guid_text key.guid ∷ name_text key.name ∷ decimal value ∷ []
lock_rest _ = []

state_back : (key : Key) (value : ℕ) → CanSpellLock (locks.OnState key value)
    → state_lock (guid_text key.guid) (name_text key.name) (decimal value) ≡ Ok (locks.OnState key value)
unfolding state_lock
state_back key value can =
    let small : value < 256 = can.2 in
    let byte : nat_lt value 256 ≡ true = lt-ltb value 256 small in
    rw (guid_back key.guid can.0, name_back key.name can.1, number_of-decimal value (omega (arith, small)), byte) refl

lock_back : (lock : Lock) → CanSpellLock lock → lock_words (lock_first lock) (lock_rest lock) ≡ Ok lock
unfolding lock_words state_words
lock_back locks.NoLock can = refl
lock_back locks.Now can = refl
lock_back locks.OnCreate can = refl
lock_back (locks.OnState key value) can = state_back key value can

lock_has : (lock : Lock) → has_lock_words (lock_first lock) (lock_rest lock) ≡ true
unfolding has_lock_words
lock_has locks.NoLock = refl
lock_has locks.Now = refl
lock_has locks.OnCreate = refl
lock_has (locks.OnState key value) = refl

lock_is_words : (lock : Lock) → CanSpellLock lock → AllByRecursion IsWord (lock_first lock ∷ lock_rest lock)
lock_is_words locks.NoLock can = (record { some = omega arith; printed = refl }, tt)
lock_is_words locks.Now can = (record { some = omega arith; printed = refl }, tt)
lock_is_words locks.OnCreate can = (record { some = omega arith; printed = refl }, tt)
lock_is_words (locks.OnState key value) can =
    let small : value < 256 = can.2 in (
      record { some = omega arith; printed = refl },
      (guid_is_word key.guid, (IsWord-name_text key.name, (IsWord-decimal value (omega (arith, small)), tt))),
    )

with_lock : (a b c d e f : List ℕ) (lock : Lock)
    → spaced (a ∷ b ∷ c ∷ d ∷ e ∷ f ∷ lock_text lock ∷ []) ≡ spaced (a ∷ b ∷ c ∷ d ∷ e ∷ f ∷ lock_first lock ∷ lock_rest lock)
with_lock a b c d e f locks.NoLock = refl
with_lock a b c d e f locks.Now = refl
with_lock a b c d e f locks.OnCreate = refl
with_lock a b c d e f (locks.OnState key value) = refl

-- ---- lines

-- the text of a GUID is no comment
no_comment : (text : List ℕ) (rest : List ℕ) → 0 < length text → All (λ c. (45 ≤ c) × (c ≤ 102)) text → is_comment (text ++ rest) ≡ false
no_comment [] rest some all = absurd (omega (arith, some))
no_comment (c ∷ cs) rest some all =
    let least = (All-head (λ c. (45 ≤ c) × (c ≤ 102)) c cs all).0 in
    ne_eqb c 35 (λ e. omega (arith, e, least))

module _ (back : EntriesReadBack) (p : Policy) (can : CanSpell p) where
  abbrev words : List (List ℕ)
  words =
      guid_text p.namespace ∷ own_text p.name ∷ decimal p.min ∷ max_text p.max ∷ attributes_text p.must ∷ attributes_text p.cant
      ∷ lock_first p.lock ∷ lock_rest p.lock

  min_small : p.min < 2 ^ 32
  min_small = let sizes = can.sizes in let max = can.max in omega (arith, sizes, max)

  are_words : AllByRecursion IsWord words
  are_words = (
    guid_is_word p.namespace,
    (own_is_word p.name, (IsWord-decimal p.min min_small, (max_is_word p.max can.max, (IsWord-attributes_text p.must, (IsWord-attributes_text p.cant, lock_is_words p.lock can.lock))))),
  )

  text_is : policy_text p ≡ spaced words
  unfolding policy_text
  text_is = with_lock (guid_text p.namespace) (own_text p.name) (decimal p.min) (max_text p.max) (attributes_text p.must) (attributes_text p.cant) p.lock

  spelled_back : spelled (guid_text p.namespace) (own_text p.name) (decimal p.min) (max_text p.max) (attributes_text p.must) (attributes_text p.cant)
      (lock_words (lock_first p.lock) (lock_rest p.lock)) ≡ Ok p
  unfolding spelled guid_word
  spelled_back =
      rw (
        guid_of-guid_text p.namespace can.namespace,
        own_back p.name can.name,
        number_back p.min min_small,
        max_back p.max can.max,
        attributes_back p.must can.must,
        attributes_back p.cant can.cant,
        lock_back p.lock can.lock,
      ) refl

  pub through_back : through_entry p ≡ Ok p
  unfolding through_entry
  through_back = ap (or_reason reason.Entry) (back p can)

  words_back : policy_words words ≡ Ok p
  words_back =
      policy_of_words (guid_text p.namespace) (own_text p.name) (decimal p.min) (max_text p.max) (attributes_text p.must) (attributes_text p.cant)
      (lock_first p.lock) (lock_rest p.lock) (lock_has p.lock)
      ∙ ap checked spelled_back ∙ through_back

  comment : is_comment (policy_text p) ≡ false
  unfolding policy_text
  comment = no_comment (guid_text p.namespace) _ (guid_is_word p.namespace).some (guid_text_between p.namespace)

  pub text_fits : is_text (policy_text p) ≡ true
  text_fits = ap is_text text_is ∙ is_text-spaced words are_words

  pub line_back : line_policy (policy_text p) ≡ Ok (Some p)
  unfolding line_policy words_policy
  line_back =
      rw (comment, text_fits) (
      ap words_policy (ap words_of text_is ∙ words_of-spaced words are_words) ∙ ap (λ (r : Result Policy PolicyLine). r >>= λ policy. Ok (Some policy)) words_back
      )

-- ---- texts

-- the lines of a text of policies are theirs
lines_are : (ps : List Policy) → EntriesReadBack → All CanSpell ps → lines (policies_text ps) ≡ map policy_text ps
lines_are [] back all = refl
lines_are (p ∷ ps) back all =
    ap lines (append_assoc (policy_text p) (10 ∷ []) (policies_text ps))
    ∙ feed_line (policy_text p) (policies_text ps) (text_fits back p (All-head CanSpell p ps all))
    ∙ ap (λ (ls : List (List ℕ)). policy_text p ∷ ls) (lines_are ps back (All-tail CanSpell p ps all))

-- they are read as the policies
after_added : (number : ℕ) (after : List Policy) (ps : List Policy) (read : Result (List Policy) PolicyLine)
    → ((next : List Policy) → all_added next ps ≡ Ok after → policies_from (number + 1) next (map policy_text ps) ≡ Ok after)
    → (read >>= λ next. all_added next ps) ≡ Ok after
    → (at_line number read >>= λ next. policies_from (number + 1) next (map policy_text ps)) ≡ Ok after
after_added number after ps (Ok next) more h = more next h
after_added number after ps (Err why) more h = cc

from_lines : (number : ℕ) (before after ps : List Policy) → EntriesReadBack → All CanSpell ps → all_added before ps ≡ Ok after
    → policies_from number before (map policy_text ps) ≡ Ok after
unfolding policies_from all_added
from_lines number before after [] back all h = let same : before ≡ after = cc in ap Ok same
from_lines number before after (p ∷ ps) back all h =
    ap (λ read. after_line number before read >>= λ after. policies_from (number + 1) after (map policy_text ps)) (line_back back p (All-head CanSpell p ps all))
    ∙ after_added number after ps (added before p) (λ next more. from_lines (number + 1) next after ps back (All-tail CanSpell p ps all) more) h

pub text_back : EntriesReadBack → (ps : List Policy) → All CanSpell ps → all_added [] ps ≡ Ok ps → length (policies_text ps) ≤ most_text_bytes
    → policies_of (policies_text ps) ≡ Ok ps
unfolding policies_of
text_back back ps all h short =
    rw (le-ltb most_text_bytes (length (policies_text ps)) short) (ap (policies_from 1 []) (lines_are ps back all) ∙ from_lines 1 [] ps ps back all h)
