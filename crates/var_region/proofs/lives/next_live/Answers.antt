use Rattle.std.proofs.Common.{◌∷◌, sym, ap, ◌∙◌}
use Rattle.var_types.specs.Live.{with_live}
use Rattle.var_types.specs.Record.{Authenticated, next_offset}
use Rattle.var_region.proofs.LiveRecords.{lives_first}
use Rattle.var_region.specs.Found.{seen}
use Rattle.var_region.specs.Lives.{lives_at}
use Rattle.var_region.proofs.lives.next_live.Goals as goal

pub returns-in-Some-found_of : goal.returns-in-Some-found_of
returns-in-Some-found_of c =
    sym c.records.invariant
    ∙ lives_first c.args.non_volatile c.args.bytes.now c.records.at c.in-Some.record (sym c.in-Some.ensures.is)
    ∙ ap (λ found. with_live found (lives_at c.args.non_volatile c.args.bytes.now (next_offset Authenticated c.in-Some.record))) (sym c.in-Some-found_of.ensures)
    ∙ ap (λ at. seen c.in-Some-found_of.found ∷ lives_at c.args.non_volatile c.args.bytes.now at) (sym c.next_offset.ensures)

pub records-preserved : goal.records-preserved
records-preserved c =
    ap (lives_at c.args.non_volatile c.args.bytes.now) c.next_offset.ensures
    ∙ ap (λ found. with_live found (lives_at c.args.non_volatile c.args.bytes.now (next_offset Authenticated c.in-Some.record))) c.in_default-found_of.ensures
    ∙ sym (lives_first c.args.non_volatile c.args.bytes.now c.records.at c.in-Some.record (sym c.in-Some.ensures.is))
    ∙ c.records.invariant
