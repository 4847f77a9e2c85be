use Rattle.varsvc.specs.Order.{asked}
use Rattle.varsvc.specs.Outcome.{Counts, Row, row}
use Rattle.varsvc.specs.Told.{Told, told_of}
use Rattle.varsvc.proofs.Streams.{leaves_so, prints, reads_so, silent_plan}
use Rattle.varsvc.proofs.top.perform.Goals as goal

pub returns-clause-performs : goal.returns-clause-performs
returns-clause-performs g c =
    let plan = c.plan_asked-planned.result.plan in
    let planned = c.plan_asked-planned.ensures in
    let printed = c.print_plan-status.ensures in
    let status = c.print_plan-status.result in
    let source = c.args.script.now in
    let source_after = c.plan_asked-planned.new.script in
    let image = c.args.image in
    let image_after = c.plan_asked-planned.result.image in
    let told : Told =
    told_of g.F.Flash.holds g.F.Flash.size g.F.Flash.fault_count g.F.Flash.moment g.F.Flash.left_since (g.S.Source.left source) image image_after in
    let r : Row = row (asked c.args.words.now) told in
    let counts : Counts = record {
      source_before = g.S.Source.fault_count source;
      source_after = g.S.Source.fault_count source_after;
      sink_before = g.K.Sink.fault_count c.args.out.now;
      sink_after = g.K.Sink.fault_count c.print_plan-status.new.out;
      flash_before = g.F.Flash.fault_count image;
      flash_after = g.F.Flash.fault_count image_after;
    } in
    let old = g.K.Sink.holds c.args.out.now in
    let new = g.K.Sink.holds c.print_plan-status.new.out in
    record {
      prints = prints r counts plan status old new printed.gains planned.text planned.unprinted planned.source planned.flash printed.sink;
      quiet = λ none done. printed.quiet (silent_plan _ told plan status old new printed.gains planned.text planned.unprinted none done);
      reads = reads_so r counts plan status old new printed.gains planned.text planned.unprinted planned.source planned.flash _ _ planned.reads;
      unread = planned.unread;
      leaves = λ other.
          leaves_so r counts plan status old new printed.gains planned.text planned.unprinted planned.source planned.flash _ _ _ (planned.leaves other)
          (planned.streamed other);
      at_any_moment = planned.at_any_moment;
      unopened = planned.unopened;
      same_size = planned.size;
    }
