use Rattle.std.proofs.Common.{arith, length-drop}
use Rattle.std.proofs.lemmas.List.{take_rest}
use Rattle.std.proofs.Math.Seq.{take-add}
use Rattle.std.proofs.KnownBytes.{Appends-trans}
use Rattle.outside.proofs.std_sink.write_whole.Goals as goal

pub loop-taken-preserved : goal.loop-taken-preserved
loop-taken-preserved g c =
    let rest = rw take_rest at c.in-Ok.ensures in
    record {
      in_range = omega (arith, length-drop c.loop-taken.taken c.args.bytes.now, rest.bound);
      appended = rw take-add (Appends-trans _ _ _ _ _ c.loop-taken.invariant.appended rest.bytes);
    }
