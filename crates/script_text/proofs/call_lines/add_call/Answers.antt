use Rattle.script_text.proofs.Processors.{put_call, refused}
use Rattle.script_text.proofs.call_lines.add_call.Goals as goal

pub returns-clause-ok : goal.returns-clause-ok
returns-clause-ok c =
    rw (← c.from-place.ensures) (put_call _ c.reach.new.processors.items c.from-place.result c.index_mut.result.now c.args.call c.in_ok-reach.ensures.ok c.in_ok-reach.ensures.within c.index_mut.ensures.value c.push_call.result c.push_call.new.calls c.push_call.ensures.ok)

pub returns-clause-err : goal.returns-clause-err
returns-clause-err c =
    rw (← c.from-place.ensures) (refused _ c.reach.new.processors.items c.from-place.result c.index_mut.result.now c.args.call c.in_ok-reach.ensures.ok c.in_ok-reach.ensures.within c.index_mut.ensures.value c.push_call.result (rw (← c.from-place.ensures) at c.push_call.ensures.err))
