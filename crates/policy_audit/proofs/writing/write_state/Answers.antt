use Rattle.std.proofs.Common.{ℕ, subst}
use Rattle.std.specs.Fmt.{decimal}
use Rattle.policy_audit.proofs.writing.write_state.Goals as goal

pub returns : goal.returns
returns g c =
    let j = g.met.P.Put.joined in
    let value = subst (λ (n : ℕ). g.P.Put.Puts c.put-3.new.self c.write_u32.new.out (decimal n)) c.from.ensures c.write_u32.ensures in
    j _ _ _ _ _ c.put.ensures (j _ _ _ _ _ c.write.ensures.text (j _ _ _ _ _ c.put-2.ensures (j _ _ _ _ _ c.write_units.ensures (j _ _ _ _ _ c.put-3.ensures value))))
