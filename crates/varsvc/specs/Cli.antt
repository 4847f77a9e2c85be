-- The command line as the kit's crate `clap` reads it: a verb is a subcommand, and an image or a number its one positional argument.
use Rattle.std.specs.Prelude.{ℕ, true, List, [], codes, Option, option_and_then}
use Rattle.clap.specs.Words.{App, Row, Rule, Text, first_of, new_app, new_rule, with_rule, with_subcommand}
use Rattle.clap.specs.declared.error.kind.ErrorKind.{ErrorKind}
use Rattle.clap.specs.declared.error.kind.ErrorKind.TheVariants as kind
use Rattle.varsvc.specs.declared.words.usage.UsageFault.{UsageFault}
use Rattle.varsvc.specs.declared.words.usage.UsageFault.TheVariants as usage
use Rattle.varsvc.specs.declared.words.verb.Verb.{Verb}
use Rattle.varsvc.specs.declared.words.verb.Verb.TheVariants as verb

-- the word behind a verb by its name, and a verb with it
abbrev pub operand_rule : Text → Rule
operand_rule operand = record (new_rule operand) { required = true }

abbrev pub operand_app : Text → Text → App
operand_app name operand = with_rule (new_app name) (operand_rule operand)

-- the program without verbs, which has no flags of its own
abbrev pub bare : App
bare = record (new_app (codes "varsvc")) {
  top = record (new_app (codes "varsvc")).top {
    no_binary_name = true;
    disable_help_flag = true;
    disable_help_subcommand = true;
    disable_version_flag = true;
  };
}

-- the program with its verbs but for `play` and `entries`, behind which nothing is to be parsed (this project's own)
abbrev pub cli : App
cli =
    with_subcommand
    (with_subcommand
    (with_subcommand
    (with_subcommand
    (with_subcommand
    (with_subcommand (with_subcommand bare (operand_app (codes "run") (codes "image")).top) (operand_app (codes "list") (codes "image")).top)
    (operand_app (codes "check") (codes "image")).top)
    (operand_app (codes "format") (codes "image")).top)
    (operand_app (codes "make") (codes "number")).top)
    (operand_app (codes "work") (codes "number")).top)
    (operand_app (codes "audit") (codes "image")).top

-- the word of this name in what was read of a verb
abbrev pub operand_in : Text → Option (Text × List Row) → Option Text
operand_in name found = option_and_then (λ p. first_of name p.1) found

-- what the word behind a verb is called, if it takes one
abbrev pub operand_word : Verb → List ℕ
operand_word verb.Run = codes "image"
operand_word verb.Play = []
operand_word verb.List = codes "image"
operand_word verb.Check = codes "image"
operand_word verb.Format = codes "image"
operand_word verb.Make = codes "number"
operand_word verb.Work = codes "number"
operand_word verb.Entries = []
operand_word verb.Audit = codes "image"

-- the word of a verb
abbrev pub verb_word : Verb → List ℕ
verb_word verb.Run = codes "run"
verb_word verb.Play = codes "play"
verb_word verb.List = codes "list"
verb_word verb.Check = codes "check"
verb_word verb.Format = codes "format"
verb_word verb.Make = codes "make"
verb_word verb.Work = codes "work"
verb_word verb.Entries = codes "entries"
verb_word verb.Audit = codes "audit"

-- the refusal by the kind of an error
abbrev pub refusal_of : ErrorKind → UsageFault
refusal_of kind.MissingRequiredArgument = usage.Missing 1 0
refusal_of _ = usage.Extra 2
