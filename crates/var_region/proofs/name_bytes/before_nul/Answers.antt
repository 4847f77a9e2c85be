use Rattle.std.proofs.Common.{◌+◌, ◌*◌, ◌-◌, ◌≢◌, length, get_or, take, cond, Some, None, sym, ap, ◌∙◌, arith}
use Rattle.std.proofs.lemmas.Bool.{ne_eqb}
use Rattle.var_types.specs.Live.{units_in}
use Rattle.var_region.proofs.LentNames.{before_nul_is}
use Rattle.var_region.proofs.name_bytes.before_nul.Goals as goal

pub returns-then-unit_of-ne0 : goal.returns-then-unit_of-ne0
returns-then-unit_of-ne0 c =
    let bs = c.args.bytes.now in
    let other : get_or bs (length bs - 2) 0 + 256 * get_or bs (length bs - 1) 0 ≢ 0 = λ e. c.if-unit_of-ne0.true (c.unit_of.ensures ∙ e) in
    sym
    (before_nul_is bs c.requires (omega arith)
    ∙ ap (λ t. cond t (Some (units_in (take (length bs - 2) bs))) None) (ne_eqb _ 0 other))
