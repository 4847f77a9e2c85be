use Rattle.std.proofs.Common.{◌≡◌, ◌+◌, ◌-◌, ◌++◌, [], length, drop, take, ap, ◌∙◌, arith, length-take, length-drop}
use Rattle.std.proofs.lemmas.List.{append-nil, drop_all}
use Rattle.var_header.proofs.Headers.{length-header_bytes}
use Rattle.var_header.specs.Header.{header_bytes}
use Rattle.var_types.specs.Placed.{placed}
use Rattle.var_region.proofs.NewRecords.{placed_piece}
use Rattle.var_region.proofs.appending.append_header.Goals as goal

pub returns-clause-bytes : goal.returns-clause-bytes
returns-clause-bytes c =
    let bytes = c.args.bytes.now in
    let header = c.new_header-header.result in
    let front : length (take (c.args.at + 60 - c.args.at) (drop c.args.at bytes)) ≡ 60 =
    omega (arith, length-take (c.args.at + 60 - c.args.at) (drop c.args.at bytes), length-drop c.args.at bytes, c.requires.room) in
    let none = drop_all 60 (take (c.args.at + 60 - c.args.at) (drop c.args.at bytes)) (omega arith) in
    let size : c.args.at + 60 - c.args.at ≡ length (header_bytes header) = omega (arith, length-header_bytes header [] c.new_header-header.ensures.values) in
    placed_piece c.args.at (c.args.at + 60 - c.args.at) bytes c.write_header.new.into (header_bytes header)
    (c.write_header.ensures ∙ ap (λ rest. header_bytes header ++ rest) none ∙ append-nil (header_bytes header)) size
    ∙ ap (λ h. placed c.args.at (header_bytes h) bytes) c.new_header-header.ensures.header
