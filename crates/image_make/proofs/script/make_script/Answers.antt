use Rattle.std.proofs.Common.{◌≡◌, List, ℕ, arith, subst, sym, ap, ◌∙◌}
use Rattle.image_make.specs.Generated.{first_calls, generated_calls, generated_script, lines_text}
use Rattle.image_make.proofs.Fronts.{first_calls-zero, lines_text-first_calls, lines_text-nil}
use Rattle.image_make.proofs.script.make_script.Goals as goal

pub loop-index-init : goal.loop-index-init
loop-index-init g c =
    subst (λ (t : List ℕ). g.P.Put.Puts c.args.out.now c.args.out.now t) (sym (ap lines_text (first_calls-zero c.args.number) ∙ lines_text-nil))
    (g.met.P.Put.none c.args.out.now)

pub loop-index-preserved : goal.loop-index-preserved
loop-index-preserved g c =
    subst (λ (t : List ℕ). g.P.Put.Puts c.args.out.now c.write_line.new.out t) (lines_text-first_calls c.args.number c.loop-index.index)
    (g.met.P.Put.joined _ _ _ _ _ c.loop-index.invariant c.write_line.ensures)

pub returns : goal.returns
unfolding generated_script generated_calls
returns g c =
    let end : c.loop-index.index ≡ 4000 = omega arith in
    subst (λ (n : ℕ). g.P.Put.Puts c.args.out.now c.loop-index.out (lines_text (first_calls c.args.number n))) end c.loop-index.invariant
