use Rattle.std.proofs.Common.{ℕ, length, map, All, sym, subst, refl}
use Rattle.mm_writer.proofs.Entered.{entered}
use Rattle.mm_writer.specs.declared.books.Books.{Books}
use Rattle.var_trace.proofs.Pieces.{All-pieces}
use Rattle.var_trace.specs.Pieces.{IsWithin, piece_of}
use Rattle.var_trace.specs.StoreChange.{StoreChange}
use Rattle.mm_writer.proofs.books.Books.enter.Goals as goal

pub refresh-requires : goal.refresh-requires
refresh-requires c =
    let old = c.requires.prepared.0 in
    let prepared = c.requires.prepared.1 in
    subst (λ (d : StoreChange). All (IsWithin (length c.args.bytes.now)) d.pieces) (sym prepared.is)
    (subst (λ (n : ℕ). All (IsWithin n) (map (piece_of c.args.store old) c.args.spans.now)) (sym prepared.written.len)
    (All-pieces c.args.store c.args.spans.now old prepared.within))

pub returns : goal.returns
returns c = λ old prepared.
    let before = c.args.self.now in
    let after : Books = record { trace = c.push.new.self; ranges = c.extend_by.new.ranges; flushed = before.flushed; runtime = before.runtime } in
    entered c.spans_make_the_change.ensures.makes c.spans_make_the_change.ensures.nothing_else c.args.store c.args.spans.now old c.args.bytes.now
    c.args.delta c.args.entry before after prepared c.refresh.new.self c.refresh.ensures c.push.ensures refl refl c.extend_by.ensures.wider
    c.extend_by.ensures.covers
