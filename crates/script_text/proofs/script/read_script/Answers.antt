use Rattle.std.proofs.Common.{Ok, rules, sym, ap, ◌∙◌}
use Rattle.script_text.specs.declared.calls_end.CallsEnd.TheVariants.{Text}
use Rattle.script_text.proofs.CallLines.{calls_until-few, calls_until-text}
use Rattle.script_text.proofs.script.read_script.Goals as goal

pub returns-in_err-read-clause-script : goal.returns-in_err-read-clause-script
returns-in_err-read-clause-script c = rw (← calls_until-text c.args.bytes.now) (search rules)

pub returns-clause-script : goal.returns-clause-script
returns-clause-script c = sym (calls_until-text c.args.bytes.now) ∙ c.in_ok-read.ensures.calls ∙ ap Ok (sym c.new.ensures)

pub returns-clause-some : goal.returns-clause-some
returns-clause-some c = (calls_until-few Text _ _ (c.in_ok-read.ensures.calls ∙ ap Ok (sym c.new.ensures))).some

pub returns-clause-few : goal.returns-clause-few
returns-clause-few c = (calls_until-few Text _ _ (c.in_ok-read.ensures.calls ∙ ap Ok (sym c.new.ensures))).few

pub returns-clause-short : goal.returns-clause-short
returns-clause-short c = (calls_until-few Text _ _ (c.in_ok-read.ensures.calls ∙ ap Ok (sym c.new.ensures))).short
