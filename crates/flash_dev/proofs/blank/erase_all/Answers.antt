use Rattle.std.proofs.Common.{◌≡◌, ◌*◌, ℕ, List, Option, arith, refl, subst, ◌∙◌, length, IfSome}
use Rattle.flash_dev.specs.Formatting.{IsFormatLeft}
use Rattle.var_types.specs.Layout.{block_size, image_size}
use Rattle.flash_dev.proofs.Erased.{last_block, no_blocks, one_block}
use Rattle.flash_dev.proofs.Formats.{block_moments, format_begins}
use Rattle.flash_dev.proofs.Moments.{stays_none}
use Rattle.flash_dev.proofs.blank.erase_all.Goals as goal

-- what is told at the begin is as long as an image
sized : (told : Option (List ℕ)) (n : ℕ) → n ≡ image_size → IfSome told (λ image. length image ≡ n) → IfSome told (λ image. length image ≡ image_size)
sized told n e law = subst (λ m. IfSome told (λ image. length image ≡ m)) e law

pub loop-block-init : goal.loop-block-init
loop-block-init g c = record {
  size = c.requires;
  moments = stays_none IsFormatLeft c.args.flash.now (λ image told. format_begins image);
  counted = refl;
  erased = no_blocks (g.F.Flash.holds c.args.flash.now);
}

pub loop-block-preserved : goal.loop-block-preserved
loop-block-preserved g c = record {
  size = c.in_ok-erase.ensures.size ∙ c.loop-block.invariant.size;
  moments =
      block_moments _ _ _ c.loop-block.block (sized _ _ c.requires (g.met.F.Flash.sized c.args.flash.now)) (omega arith) c.loop-block.invariant.moments
      c.loop-block.invariant.erased c.erase.ensures.at_any_moment;
  counted = c.in_ok-erase.ensures.cause.done ∙ c.loop-block.invariant.counted;
  erased = one_block c.loop-block.block _ _ _ c.loop-block.invariant.erased c.in_ok-erase.ensures.erased;
}

pub returns-in_err-erase-clause-at_any_moment : goal.returns-in_err-erase-clause-at_any_moment
returns-in_err-erase-clause-at_any_moment g c =
    block_moments _ _ _ c.loop-block.block (sized _ _ c.requires (g.met.F.Flash.sized c.args.flash.now)) (omega arith) c.loop-block.invariant.moments
    c.loop-block.invariant.erased c.erase.ensures.at_any_moment

pub returns-clause-erased : goal.returns-clause-erased
returns-clause-erased g c =
    let end : block_size * c.loop-block.block ≡ image_size = omega arith in
    last_block c.loop-block.block image_size _ _ end (sized _ _ c.requires (g.met.F.Flash.sized c.args.flash.now)) c.loop-block.invariant.erased
