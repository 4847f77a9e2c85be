use Rattle.std.proofs.Common.{⊎_elim}
use Rattle.ftw_mount.proofs.Readings.{blank_part, clean_part, pending_part, unclean_part}
use Rattle.ftw_mount.proofs.looking.content_offset.Goals as goal

pub returns-then-kept-clause-part : goal.returns-then-kept-clause-part
returns-then-kept-clause-part c = λ image described. blank_part c.args.kept image c.if-kept.true described

pub returns-in-Pending-clause-part : goal.returns-in-Pending-clause-part
returns-in-Pending-clause-part c = λ image described. pending_part c.args.kept c.in-Pending.slot image c.if-kept.false c.in-Pending.is described

pub returns-in-Clean-clause-part : goal.returns-in-Clean-clause-part
returns-in-Clean-clause-part c = λ image described.
    ⊎_elim (λ clean. clean_part c.args.kept clean.0 image clean.1 described) (λ unclean. unclean_part c.args.kept image unclean described) c.in-Clean.is
