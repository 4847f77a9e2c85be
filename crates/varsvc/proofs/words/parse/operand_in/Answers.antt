use Rattle.std.proofs.Common.{◌≡◌, List, Option, Some, None, option_map, sym, ap, ◌∙◌}
use Rattle.clap.specs.Words.{Row, Text, first_of, found_of, rows_of}
use Rattle.clap.proofs.WalkLemmas.{first_value-rows}
use Rattle.varsvc.specs.Cli.{operand_in}
use Rattle.varsvc.proofs.words.parse.operand_in.Goals as goal

-- the word is in the rows of the subcommand
in_rows : (name : Text) (found : Option (Text × List Row)) (rows : List Row) → Some rows ≡ option_map (λ p. p.1) found
    → operand_in name found ≡ first_of name rows
in_rows name None rows is = cc
in_rows name (Some p) rows is = let same : rows ≡ p.1 = cc in ap (first_of name) (sym same)

pub returns : goal.returns
returns c =
    let name = c.args.name.now in
    let found = found_of c.in_ok-operand.operand.now in
    c.get_str.ensures ∙ first_value-rows found name ∙ sym (in_rows name _ (rows_of found) c.in_ok-operand.ensures.rows)
