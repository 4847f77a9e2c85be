use Rattle.std.proofs.Common.{◌∙◌}
use Rattle.std.proofs.lemmas.Result.{IfOk-weaker}
use Rattle.image_make.proofs.Data.{bytes_at-front}
use Rattle.image_make.proofs.calls.data_at.Goals as goal

pub returns : goal.returns
returns c =
    let front = bytes_at-front c.args.number c.args.index c.count_at.result c.byte_at-bytes.result c.count_at.ensures.count c.byte_at-bytes.ensures in
    IfOk-weaker c.copy.result _ _ (λ b e. e ∙ front) c.copy.ensures
