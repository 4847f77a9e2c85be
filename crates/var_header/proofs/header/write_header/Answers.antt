use Rattle.std.proofs.Common.{◌≡◌, ◌∙◌, ◌++◌, length, drop, sym, ap, arith}
use Rattle.std.proofs.lemmas.List.{length-take-le, take_all}
use Rattle.var_header.specs.Header.{back_bytes, header_bytes}
use Rattle.var_header.proofs.header.write_header.Goals as goal

pub write_back-requires : goal.write_back-requires
write_back-requires c = c.write_front.auto.into ∙ length-take-le 60 c.args.into.now c.requires

pub returns : goal.returns
unfolding header_bytes
returns c =
    let size : length c.write_back.new.into ≡ 60 = c.write_back.auto.into ∙ c.write_front.auto.into ∙ length-take-le 60 c.args.into.now c.requires in
    let whole = sym (take_all 60 c.write_back.new.into (omega arith)) in
    let head = whole ∙ c.write_back.ensures ∙ ap (λ front. front ++ back_bytes c.args.header.now) c.write_front.ensures in
    ap (λ bytes. bytes ++ drop 60 c.args.into.now) head
