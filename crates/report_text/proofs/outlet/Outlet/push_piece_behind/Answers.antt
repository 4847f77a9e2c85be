use Rattle.std.proofs.Common.{◌≡◌, ◌∙◌, true, length, sym, ap, arith}
use Rattle.report_text.specs.Flow.{Kept, PutsThrough-joined}
use Rattle.report_text.proofs.Puts.{puts_kept, puts_nothing, true_unless_false}
use Rattle.report_text.proofs.outlet.Outlet.push_piece_behind.Goals as goal

pub returns-then-is_broken-clause-pushed : goal.returns-then-is_broken-clause-pushed
returns-then-is_broken-clause-pushed g c =
    PutsThrough-joined _ _ _ _ _ c.flush.ensures.flushed (puts_nothing _ _ (sym c.is_broken.ensures ∙ c.if-is_broken.true))

pub returns-clause-pushed : goal.returns-clause-pushed
returns-clause-pushed g c =
    let whole = sym c.is_broken.ensures ∙ c.if-is_broken.false in
    let none : length c.flush.new.self.page.now.bytes ≡ 0 = ap (λ (k : Kept). length k.bytes) (c.flush.ensures.empty whole) in
    let fits : c.keep_hex.result ≡ true =
    true_unless_false c.keep_hex.result (λ full. omega (arith, c.keep_hex.ensures.room full, none, c.requires.piece)) in
    PutsThrough-joined _ _ _ _ _ c.flush.ensures.flushed (puts_kept _ _ _ _ _ whole (c.keep_hex.ensures.kept fits))
