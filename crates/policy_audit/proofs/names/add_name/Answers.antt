use Rattle.std.proofs.Common.{◌≡◌, ℕ, Bool, true, List, cond, not, ap, subst, sym, ◌∙◌}
use Rattle.std.specs.BTreeMap.{is_at}
use Rattle.std.specs.List.{list_any}
use Rattle.var_types.specs.declared.key.Key.{Key}
use Rattle.var_types.specs.Key.{key_cmp}
use Rattle.policy_audit.proofs.SameNames.{holds_more, is_held}
use Rattle.policy_audit.specs.Names.{policy_key}
use Rattle.policy_audit.proofs.names.add_name.Goals as goal

pub returns-clause-new : goal.returns-clause-new
returns-clause-new c before held =
    c.in_ok-is_new.ensures.added
    ∙ ap (λ (k : Key). not (list_any (is_at (key_cmp k)) c.args.names.now.keys)) c.in_ok-key.ensures
    ∙ ap not (is_held c.args.names.now.keys before c.args.policy.now c.requires held)

pub returns-clause-held : goal.returns-clause-held
returns-clause-held c before held =
    holds_more c.args.names.now.keys c.insert.new.self.keys before c.args.policy.now c.requires
    (subst
    (λ (k : Key). (q : Key) → list_any (is_at (key_cmp q)) c.insert.new.self.keys ≡ cond (is_at (key_cmp k) q) true (list_any (is_at (key_cmp q)) c.args.names.now.keys))
    c.in_ok-key.ensures c.in_ok-is_new.ensures.updates.0)
    held
