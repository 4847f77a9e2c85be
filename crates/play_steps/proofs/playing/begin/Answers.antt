use Rattle.std.proofs.Common.{◌≡◌, ℕ, List, Vec, Global, Some, None, length, map, sym, ap, ap₂, subst, ◌∙◌}
use Rattle.flash_dev.proofs.Blanks.{length-blank_image}
use Rattle.image_make.proofs.BlankImages.{kept-blank_image}
use Rattle.nv_store.specs.Opening.{refusal_of}
use Rattle.play_steps.proofs.BlankOpenings.{blank_opens, not_memory}
use Rattle.play_steps.specs.Play.{play_limit}
use Rattle.svc_core.specs.Scene.{IsOpening}
use Rattle.var_types.specs.declared.call.Call.{Call}
use Rattle.var_types.specs.Kept.{kept}
use Rattle.var_types.specs.State.{start}
use Rattle.play_steps.proofs.playing.begin.Goals as goal

pub begin_world-requires-clause-size : goal.begin_world-requires-clause-size
begin_world-requires-clause-size c = ap length (c.release-image.ensures ∙ c.in_ok-blank_flash.ensures) ∙ length-blank_image

pub returns-in-Ok : goal.returns-in-Ok
returns-in-Ok c =
    let world = c.in-Ok.world.world in
    let limit = c.limit_of-limit.ensures ∙ ap (λ (calls : List (Vec Call Global)). play_limit (map (λ v. v.items) calls)) c.deref.ensures.value in
    let most = play_limit (map (λ (v : Vec Call Global). v.items) c.args.calls.items) in
    let image = c.release-image.ensures ∙ c.in_ok-blank_flash.ensures in
    record {
      live = c.in-Ok.ensures.live;
      first = c.in-Ok.ensures.begun;
      opens = subst (λ (n : ℕ). IsOpening world.opening world.writer.flash n) limit c.in-Ok.ensures.opening;
      blank =
          c.in-Ok.ensures.state ∙ ap₂ (λ (bytes : List ℕ) (n : ℕ). start (kept bytes) n) image limit
          ∙ ap (λ variables. start variables most) kept-blank_image;
    }

pub unreachable-requires : goal.unreachable-requires
unreachable-requires c =
    let image = c.release-image.ensures ∙ c.in_ok-blank_flash.ensures in
    let refused : None ≡ Some c.in-Err.why =
    sym (ap refusal_of image ∙ blank_opens) ∙ c.in-Err.ensures.refused (not_memory c.in-Err.why c.in-Image.is)
    in cc
