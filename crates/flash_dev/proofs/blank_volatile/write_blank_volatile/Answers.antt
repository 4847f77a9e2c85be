use Rattle.std.proofs.Common.{◌≡◌, ◌++◌, ◌-◌, length, replicate, ap, ◌∙◌, arith}
use Rattle.flash_dev.specs.Blank.{blank_volatile, store_header}
use Rattle.flash_dev.proofs.blank_volatile.write_blank_volatile.Goals as goal

pub returns : goal.returns
unfolding blank_volatile
returns c =
    let behind : length c.write_store.new.into - 28 ≡ 65508 = omega arith in
    c.erase_from.ensures ∙ ap (λ front. front ++ replicate (length c.write_store.new.into - 28) 255) c.write_store.ensures
    ∙ ap (λ n. store_header 65536 ++ replicate n 255) behind
