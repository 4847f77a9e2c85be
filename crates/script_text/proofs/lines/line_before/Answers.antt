use Rattle.std.proofs.Common.{◌≡◌, true, false, sym, ◌∙◌}
use Rattle.script_text.proofs.FirstLines.{at_bad, at_feed, at_return}
use Rattle.script_text.proofs.lines.line_before.Goals as goal

pub returns-then-text-at-eq10 : goal.returns-then-text-at-eq10
returns-then-text-at-eq10 c = at_feed c.args.text.now c.args.at c.requires.place c.if-text-at-eq10.true

pub returns-then-is_return : goal.returns-then-is_return
returns-then-is_return c =
    let ends = c.is_return.ensures.0 c.if-is_return.true in
    at_return c.args.text.now c.args.at c.requires.place ends.0 ends.1 ends.2

pub returns : goal.returns
returns c =
    at_bad c.args.text.now c.args.at c.requires.place c.requires.comment c.if-text-at-eq10.false
    (λ ends. let both : true ≡ false = sym (c.is_return.ensures.1 ends) ∙ c.if-is_return.false in cc)
