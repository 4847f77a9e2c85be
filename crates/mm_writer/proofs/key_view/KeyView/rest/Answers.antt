use Rattle.std.proofs.Common.{refl}
use Rattle.mm_writer.proofs.Views.{others_of}
use Rattle.mm_writer.proofs.key_view.KeyView.rest.Goals as goal

pub returns : goal.returns
returns c = λ state key stands knows. others_of c.args.self.now.view state stands c.args.self.now key refl knows
