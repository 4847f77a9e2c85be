use Rattle.std.proofs.Common.{◌≡◌, ◌*◌, ◌≤◌, ◌+◌, ◌∙◌, arith, refl, subst}
use Rattle.flash_dev.proofs.Moments.{stays_none}
use Rattle.ftw_work.proofs.Steps.{erase_moments, image_sized, outside_moments}
use Rattle.var_types.specs.Placed.{IsOutsideKept}
use Rattle.var_types.proofs.Parts.{outside_none}
use Rattle.ftw_spare.proofs.Filling.{AreErased, no_blocks, one_block}
use Rattle.ftw_spare.proofs.blocks.erase_blocks.Goals as goal

pub loop-block-init : goal.loop-block-init
loop-block-init g c = record {
  from = omega arith;
  size = c.requires.size;
  moments =
      stays_none (IsOutsideKept (4096 * c.args.from) (4096 * c.args.to)) c.args.flash.now
      (λ image told. outside_none (4096 * c.args.from) (4096 * c.args.to) image);
  counted = refl;
  erased = no_blocks c.args.from (g.F.Flash.holds c.args.flash.now);
}

pub loop-block-preserved : goal.loop-block-preserved
loop-block-preserved g c =
    let loop = c.loop-block in
    record {
      from = omega (arith, loop.invariant.from);
      size = c.in_ok-erase.ensures.size ∙ loop.invariant.size;
      moments =
          outside_moments (4096 * c.args.from) (4096 * c.args.to) _ _ _ loop.invariant.moments
          (erase_moments (4096 * c.args.from) (4096 * c.args.to) loop.block _ _ (omega (arith, loop.invariant.from)) (omega (arith, c.loop-block-test.true))
          c.erase.ensures.at_any_moment);
      counted = c.in_ok-erase.ensures.cause.done ∙ loop.invariant.counted;
      erased =
          one_block c.args.from loop.block _ _ _ loop.invariant.from (omega (arith, c.loop-block-test.true, c.requires.to))
          (image_sized _ _ c.requires.size (g.met.F.Flash.sized c.args.flash.now)) loop.invariant.erased c.in_ok-erase.ensures.erased;
    }

pub returns-in_err-erase-clause-at_any_moment : goal.returns-in_err-erase-clause-at_any_moment
returns-in_err-erase-clause-at_any_moment g c =
    let loop = c.loop-block in
    outside_moments (4096 * c.args.from) (4096 * c.args.to) _ _ _ loop.invariant.moments
    (erase_moments (4096 * c.args.from) (4096 * c.args.to) loop.block _ _ (omega (arith, loop.invariant.from)) (omega (arith, c.loop-block-test.true))
    c.erase.ensures.at_any_moment)

pub returns-clause-erased : goal.returns-clause-erased
returns-clause-erased g c =
    let end : c.loop-block.block ≡ c.args.to = omega arith in
    subst (λ block. AreErased c.args.from block (g.F.Flash.holds c.args.flash.now) (g.F.Flash.holds c.loop-block.flash)) end c.loop-block.invariant.erased
