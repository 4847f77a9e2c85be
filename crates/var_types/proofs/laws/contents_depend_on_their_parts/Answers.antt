use Rattle.var_types.proofs.Parts.{blank_content, gap_changes}
use Rattle.var_types.proofs.laws.contents_depend_on_their_parts.Goals as goal

pub returns-clause-gap : goal.returns-clause-gap
returns-clause-gap c = gap_changes

pub returns-clause-blank : goal.returns-clause-blank
returns-clause-blank c = blank_content
