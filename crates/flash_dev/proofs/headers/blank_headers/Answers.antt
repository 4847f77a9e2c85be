use Rattle.std.proofs.Common.{◌++◌, ap, sym, ◌∙◌, arith}
use Rattle.std.proofs.lemmas.List.{take_all}
use Rattle.flash_dev.specs.Blank.{blank_headers, blocks_of_volume, store_header}
use Rattle.flash_dev.proofs.headers.blank_headers.Goals as goal

pub returns : goal.returns
unfolding blank_headers
returns c =
    sym (take_all 100 c.write_store.new.into (omega arith)) ∙ c.write_store.ensures
    ∙ ap (λ front. front ++ store_header 57272) (c.write_blocks.ensures ∙ ap (λ front. front ++ blocks_of_volume) c.write_kind.ensures)
