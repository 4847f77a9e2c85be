use Rattle.std.proofs.Common.{◌≡◌, ◌*◌, ◌∙◌, Bool, IfSome, arith, drop, refl, subst, take}
use Rattle.flash_dev.specs.Rules.{IsKept}
use Rattle.flash_dev.proofs.Moments.{stays_none}
use Rattle.ftw_work.proofs.Steps.{image_sized}
use Rattle.ftw_work.proofs.Told.{told_same}
use Rattle.var_types.specs.WorkArea.{is_blank}
use Rattle.ftw_spare.proofs.BlankBlocks.{begins_blank, block_told, ends_blank, ends_used, goes_on_blank, kept_moments}
use Rattle.ftw_spare.proofs.blank_spare.blank.Goals as goal

pub loop-block-init : goal.loop-block-init
loop-block-init g c = record {
  from = omega arith;
  size = c.requires.size;
  buffer = c.requires.buffer;
  kept = refl;
  moments = stays_none IsKept c.args.flash.now (λ image told. refl);
  counted = refl;
  blank = begins_blank (g.F.Flash.holds c.args.flash.now);
}

pub loop-block-preserved : goal.loop-block-preserved
loop-block-preserved g c =
    let loop = c.loop-block in
    record {
      from = omega (arith, loop.invariant.from);
      size = c.is_block_blank.ensures.same_size ∙ loop.invariant.size;
      buffer = c.is_block_blank.auto.buffer ∙ loop.invariant.buffer;
      kept = c.is_block_blank.ensures.kept ∙ loop.invariant.kept;
      moments = kept_moments _ _ _ loop.invariant.moments c.is_block_blank.ensures.at_any_moment;
      counted = c.in_ok-is_block_blank.ensures.cause.done ∙ loop.invariant.counted;
      blank =
          goes_on_blank loop.block (g.F.Flash.holds c.args.flash.now) loop.invariant.from loop.invariant.blank
          (block_told loop.block _ _ _ _ c.if-not-branch.false loop.invariant.kept c.in_ok-is_block_blank.ensures.blank);
    }

pub returns-in_err-is_block_blank-clause-at_any_moment : goal.returns-in_err-is_block_blank-clause-at_any_moment
returns-in_err-is_block_blank-clause-at_any_moment g c =
    kept_moments _ _ _ c.loop-block.invariant.moments c.is_block_blank.ensures.at_any_moment

pub returns-then-not-branch-clause-blank : goal.returns-then-not-branch-clause-blank
returns-then-not-branch-clause-blank g c =
    let loop = c.loop-block in
    ends_used loop.block (g.F.Flash.holds c.args.flash.now) loop.invariant.from loop.invariant.blank
    (block_told loop.block _ _ _ _ c.if-not-branch.true loop.invariant.kept c.in_ok-is_block_blank.ensures.blank)

pub returns-then-not-branch-clause-at_any_moment : goal.returns-then-not-branch-clause-at_any_moment
returns-then-not-branch-clause-at_any_moment g c =
    kept_moments _ _ _ c.loop-block.invariant.moments c.is_block_blank.ensures.at_any_moment

pub returns-clause-blank : goal.returns-clause-blank
returns-clause-blank g c =
    let end : c.loop-block.block ≡ 32 = omega arith in
    ends_blank c.loop-block.block (g.F.Flash.holds c.args.flash.now) end
    (image_sized _ _ c.requires.size (g.met.F.Flash.sized c.args.flash.now)) c.loop-block.invariant.blank
