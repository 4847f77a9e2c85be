use Rattle.svc_plain.proofs.OnOks.{err_map, ok_map}
use Rattle.svc_plain.proofs.Overwrites.{overwritten, written_back}
use Rattle.svc_plain.proofs.puts.overwrite.Goals as goal

pub returns-in-Some-clause-ok : goal.returns-in-Some-clause-ok
returns-in-Some-clause-ok c =
    let new = c.rewrite.new.variable in
    ok_map c.rewrite.result
    (overwritten c.args.variables.now.entries (c.get_mut.follows.lender new).entries c.args.key.now c.args.call.now c.args.write.now
    c.in-Some.variable.now new c.get_mut.ensures.ordered c.in-Some.ensures.value (c.get_mut.follows.holds new).0)
    c.rewrite.ensures.ok

pub returns-in-Some-clause-err : goal.returns-in-Some-clause-err
returns-in-Some-clause-err c =
    let new = c.rewrite.new.variable in
    err_map c.rewrite.result
    (written_back c.args.variables.now.entries (c.get_mut.follows.lender new).entries c.args.key.now c.in-Some.variable.now new
    c.in-Some.ensures.value (c.get_mut.follows.holds new).0)
    c.rewrite.ensures.err
