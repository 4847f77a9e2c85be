-- What `clap` makes of a verb and the words behind it, of which none begins with a dash.
use Rattle.std.proofs.Common.{◌≡◌, ℕ, ◌+◌, ◌≤◌, Bool, true, false, cond, ltb, inl, inr, List, [], ◌∷◌, length, take, Some, None, refl, sym, ap, ◌∙◌, subst, arith}
use Rattle.std.specs.Prelude.{position}
use Rattle.std.specs.List.{position_or_len}
use Rattle.std.proofs.lemmas.Bool.{cases_Bool, false≢true, le-ltb, ltb-false}
use Rattle.clap.specs.Words.{IsAmong, Kinds, fault_of, is_simple, is_simple_and_free, subcommand_of}
use Rattle.clap.specs.declared.error.kind.ErrorKind.{ErrorKind}
use Rattle.clap.specs.declared.error.kind.ErrorKind.TheVariants as kind
use Rattle.clap.proofs.OnLiterals.{clap_on_literals}
use Rattle.script_text.proofs.LineLemmas.{missing as missing_place}
use Rattle.varsvc.specs.declared.words.verb.Verb.{Verb}
use Rattle.varsvc.specs.declared.words.verb.Verb.TheVariants as verb
use Rattle.varsvc.specs.Cli.{cli, operand_in, operand_word, refusal_of, verb_word}
use Rattle.varsvc.specs.Order.{IsUsage, is_dashed, one_operand, takes_word}

pub cli_is_simple : is_simple cli ≡ true
cli_is_simple = refl

pub cli_is_free : is_simple_and_free cli ≡ true
cli_is_free = refl

-- a verb that takes a word, alone
missing : (v : Verb) → takes_word v ≡ true → fault_of cli (verb_word v ∷ []) ≡ kind.MissingRequiredArgument ∷ []
unfolding clap_on_literals
missing verb.Run other = refl
missing verb.Play other = absurd (false≢true other)
missing verb.List other = refl
missing verb.Check other = refl
missing verb.Format other = refl
missing verb.Make other = refl
missing verb.Work other = refl
missing verb.Audit other = refl
missing verb.Entries other = absurd (false≢true other)

-- such a verb and a word
accepted : (v : Verb) (a : List ℕ) → takes_word v ≡ true → is_dashed a ≡ false → fault_of cli (verb_word v ∷ a ∷ []) ≡ []
unfolding clap_on_literals
accepted verb.Run [] other plain = refl
accepted verb.Run (c ∷ cs) other plain = rw plain (rw plain refl)
accepted verb.Play a other plain = absurd (false≢true other)
accepted verb.List [] other plain = refl
accepted verb.List (c ∷ cs) other plain = rw plain (rw plain refl)
accepted verb.Check [] other plain = refl
accepted verb.Check (c ∷ cs) other plain = rw plain (rw plain refl)
accepted verb.Format [] other plain = refl
accepted verb.Format (c ∷ cs) other plain = rw plain (rw plain refl)
accepted verb.Make [] other plain = refl
accepted verb.Make (c ∷ cs) other plain = rw plain (rw plain refl)
accepted verb.Work [] other plain = refl
accepted verb.Work (c ∷ cs) other plain = rw plain (rw plain refl)
accepted verb.Audit [] other plain = refl
accepted verb.Audit (c ∷ cs) other plain = rw plain (rw plain refl)
accepted verb.Entries a other plain = absurd (false≢true other)

operand : (v : Verb) (a : List ℕ) → takes_word v ≡ true → is_dashed a ≡ false → operand_in (operand_word v) (subcommand_of cli (verb_word v ∷ a ∷ [])) ≡ Some a
unfolding clap_on_literals
operand verb.Run [] other plain = refl
operand verb.Run (c ∷ cs) other plain = rw plain (rw plain refl)
operand verb.Play a other plain = absurd (false≢true other)
operand verb.List [] other plain = refl
operand verb.List (c ∷ cs) other plain = rw plain (rw plain refl)
operand verb.Check [] other plain = refl
operand verb.Check (c ∷ cs) other plain = rw plain (rw plain refl)
operand verb.Format [] other plain = refl
operand verb.Format (c ∷ cs) other plain = rw plain (rw plain refl)
operand verb.Make [] other plain = refl
operand verb.Make (c ∷ cs) other plain = rw plain (rw plain refl)
operand verb.Work [] other plain = refl
operand verb.Work (c ∷ cs) other plain = rw plain (rw plain refl)
operand verb.Audit [] other plain = refl
operand verb.Audit (c ∷ cs) other plain = rw plain (rw plain refl)
operand verb.Entries a other plain = absurd (false≢true other)

-- such a verb and two words
extra : (v : Verb) (a b : List ℕ) → takes_word v ≡ true → is_dashed a ≡ false → is_dashed b ≡ false → fault_of cli (verb_word v ∷ a ∷ b ∷ []) ≡ kind.UnknownArgument ∷ []
unfolding clap_on_literals
extra verb.Run [] [] other plain also = refl
extra verb.Run [] (d ∷ ds) other plain also = rw also (rw also refl)
extra verb.Run (c ∷ cs) [] other plain also = rw plain (rw plain refl)
extra verb.Run (c ∷ cs) (d ∷ ds) other plain also = rw plain (rw plain (rw also (rw also refl)))
extra verb.Play a b other plain also = absurd (false≢true other)
extra verb.List [] [] other plain also = refl
extra verb.List [] (d ∷ ds) other plain also = rw also (rw also refl)
extra verb.List (c ∷ cs) [] other plain also = rw plain (rw plain refl)
extra verb.List (c ∷ cs) (d ∷ ds) other plain also = rw plain (rw plain (rw also (rw also refl)))
extra verb.Check [] [] other plain also = refl
extra verb.Check [] (d ∷ ds) other plain also = rw also (rw also refl)
extra verb.Check (c ∷ cs) [] other plain also = rw plain (rw plain refl)
extra verb.Check (c ∷ cs) (d ∷ ds) other plain also = rw plain (rw plain (rw also (rw also refl)))
extra verb.Format [] [] other plain also = refl
extra verb.Format [] (d ∷ ds) other plain also = rw also (rw also refl)
extra verb.Format (c ∷ cs) [] other plain also = rw plain (rw plain refl)
extra verb.Format (c ∷ cs) (d ∷ ds) other plain also = rw plain (rw plain (rw also (rw also refl)))
extra verb.Make [] [] other plain also = refl
extra verb.Make [] (d ∷ ds) other plain also = rw also (rw also refl)
extra verb.Make (c ∷ cs) [] other plain also = rw plain (rw plain refl)
extra verb.Make (c ∷ cs) (d ∷ ds) other plain also = rw plain (rw plain (rw also (rw also refl)))
extra verb.Work [] [] other plain also = refl
extra verb.Work [] (d ∷ ds) other plain also = rw also (rw also refl)
extra verb.Work (c ∷ cs) [] other plain also = rw plain (rw plain refl)
extra verb.Work (c ∷ cs) (d ∷ ds) other plain also = rw plain (rw plain (rw also (rw also refl)))
extra verb.Audit [] [] other plain also = refl
extra verb.Audit [] (d ∷ ds) other plain also = rw also (rw also refl)
extra verb.Audit (c ∷ cs) [] other plain also = rw plain (rw plain refl)
extra verb.Audit (c ∷ cs) (d ∷ ds) other plain also = rw plain (rw plain (rw also (rw also refl)))
extra verb.Entries a b other plain also = absurd (false≢true other)

-- where no word is dashed, the first is not, nor is one of the others
undashed : (a : List ℕ) (rest : List (List ℕ)) → position is_dashed (a ∷ rest) ≡ None → (is_dashed a ≡ false) × (position is_dashed rest ≡ None)
undashed a rest none =
    let past : length (a ∷ rest) ≤ position_or_len is_dashed (a ∷ rest) =
    ltb-false _ _ (missing_place (ltb (position_or_len is_dashed (a ∷ rest)) (length (a ∷ rest))) (position_or_len is_dashed (a ∷ rest)) (sym none)) in
    elim (cases_Bool (is_dashed a)) [
      | inl dashed ↦ let here : position_or_len is_dashed (a ∷ rest) ≡ 0 = rw dashed refl in absurd (omega (arith, past, here))
      | inr plain ↦
          let behind : position_or_len is_dashed (a ∷ rest) ≡ 1 + position_or_len is_dashed rest = rw plain refl in (
            plain,
            ap (λ (b : Bool). cond b (Some (position_or_len is_dashed rest)) None)
                (le-ltb (position_or_len is_dashed rest) (length rest) (omega (arith, past, behind))),
          )
    ]

-- a parse that succeeds found one word behind the verb
pub parsed_one : (v : Verb) (rest : List (List ℕ)) → takes_word v ≡ true → position is_dashed rest ≡ None → fault_of cli (take 3 (verb_word v ∷ rest)) ≡ []
    → (a : List ℕ) × (rest ≡ a ∷ []) × (operand_in (operand_word v) (subcommand_of cli (take 3 (verb_word v ∷ rest))) ≡ Some a)
parsed_one v [] other none h = let clash : kind.MissingRequiredArgument ∷ [] ≡ [] = sym (missing v other) ∙ h in cc
parsed_one v (a ∷ []) other none h = (a, refl, operand v a other (undashed a [] none).0)
parsed_one v (a ∷ b ∷ rest) other none h =
    let first = undashed a (b ∷ rest) none in
    let clash : kind.UnknownArgument ∷ [] ≡ [] = sym (extra v a b other first.0 (undashed b rest first.1).0) ∙ h in cc

-- one that fails refuses the words for their number
among : (k found : ErrorKind) → IsAmong k (found ∷ []) → k ≡ found
among k found (inl is) = is
among k found (inr none) = absurd none

pub parsed_none : (v : Verb) (rest : List (List ℕ)) (k : ErrorKind) → takes_word v ≡ true → position is_dashed rest ≡ None
    → IsAmong k (fault_of cli (take 3 (verb_word v ∷ rest))) → IsUsage (refusal_of k) (one_operand v rest)
parsed_none v [] k other none h =
    subst (λ (e : ErrorKind). IsUsage (refusal_of e) (one_operand v [])) (sym (among k _ (subst (λ (ks : Kinds). IsAmong k ks) (missing v other) h))) refl
parsed_none v (a ∷ []) k other none h = absurd (subst (λ (ks : Kinds). IsAmong k ks) (accepted v a other (undashed a [] none).0) h)
parsed_none v (a ∷ b ∷ rest) k other none h =
    let first = undashed a (b ∷ rest) none in
    subst (λ (e : ErrorKind). IsUsage (refusal_of e) (one_operand v (a ∷ b ∷ rest)))
    (sym (among k _ (subst (λ (ks : Kinds). IsAmong k ks) (extra v a b other first.0 (undashed b rest first.1).0) h))) refl
