use Rattle.std.proofs.Common.{◌≡◌, ◌∙◌, ℕ, List, [], ◌∷◌, take, map, min, length, string_bytes, Global, String, Some, refl, sym, ap, subst, ⊎_elim}
use Rattle.std.proofs.lemmas.List.{take-map, take_min}
use Rattle.clap.specs.Words.{fault_of, IsAmong, kind_of, subcommand_of, subcommand_rows_of}
use Rattle.varsvc.specs.declared.words.usage.UsageFault.{UsageFault}
use Rattle.varsvc.specs.declared.words.verb.Verb.{Verb}
use Rattle.varsvc.specs.Cli.{cli, operand_in, operand_word, refusal_of, verb_word}
use Rattle.varsvc.specs.Order.{GivesOrder, IsUsage, one_operand}
use Rattle.varsvc.proofs.Cli.{parsed_none, parsed_one}
use Rattle.varsvc.proofs.words.reading.one_operand.Goals as goal

-- the words that are parsed
few : (v : Verb) (words rest : List (String Global)) (n : ℕ) → n ≡ min 3 (length words)
    → map (string_bytes {Z = Global}) words ≡ verb_word v ∷ map (string_bytes {Z = Global}) rest
    → map (string_bytes {Z = Global}) (take n words) ≡ take 3 (verb_word v ∷ map (string_bytes {Z = Global}) rest)
few v words rest n is same =
    ap (λ (m : ℕ). map (string_bytes {Z = Global}) (take m words)) is
    ∙ ap (map (string_bytes {Z = Global})) (take_min 3 words)
    ∙ sym (take-map (string_bytes {Z = Global}) 3 words)
    ∙ ap (take 3) same

pub returns-in-Ok : goal.returns-in-Ok
returns-in-Ok c =
    let v = c.args.verb in
    let rest = map (string_bytes {Z = Global}) c.args.rest.now in
    let words = few v c.args.words.now c.args.rest.now c.min.result c.min.ensures c.requires.words in
    let one = parsed_one v rest c.requires.other c.requires.undashed (subst (λ (ws : List (List ℕ)). fault_of cli ws ≡ []) words c.in-Ok.ensures.kinds) in
    let found : operand_in (operand_word v) (subcommand_rows_of c.in-Ok.matches) ≡ Some one.0 =
    ap (operand_in (operand_word v)) ((c.in-Ok.ensures.matches refl).1 ∙ ap (subcommand_of cli) words) ∙ one.2 in
    subst (λ (behind : List (List ℕ)). GivesOrder c.parsed_order.result (one_operand v behind)) (sym one.1) (c.parsed_order.ensures one.0 found)

pub returns : goal.returns
returns c =
    let v = c.args.verb in
    let rest = map (string_bytes {Z = Global}) c.args.rest.now in
    let words = few v c.args.words.now c.args.rest.now c.min.result c.min.ensures c.requires.words in
    ⊎_elim
    (λ memory. absurd (c.in_default.not-OutOfMemory (c.kind.ensures ∙ memory)))
    (λ among.
    subst (λ (fault : UsageFault). IsUsage fault (one_operand v rest)) (sym (c.refusal_of.ensures ∙ ap refusal_of c.kind.ensures))
    (parsed_none v rest (kind_of c.in-Err.error) c.requires.other c.requires.undashed
    (subst (λ (ws : List (List ℕ)). IsAmong (kind_of c.in-Err.error) (fault_of cli ws)) words among)))
    c.in-Err.ensures.kinds
