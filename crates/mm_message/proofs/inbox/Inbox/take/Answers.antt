use Rattle.std.proofs.Common.{◌≡◌, ◌-◌, take, drop, ap, ◌∙◌, arith}
use Rattle.std.proofs.lemmas.List.{length-take}
use Rattle.mm_message.specs.Messages.{size_in, used_by}
use Rattle.mm_message.proofs.Parts.{part_less}
use Rattle.mm_message.proofs.inbox.Inbox.take.Goals as goal

pub returns-clause-left : goal.returns-clause-left
returns-clause-left c =
    let i = c.self.inside in
    let taken = c.take_front-taken.result in
    let lent = take (i.to - i.from) (drop i.from c.deref.result.now) in
    let held : lent ≡ c.args.self.now = ap (λ xs. take (i.to - i.from) (drop i.from xs)) c.deref.ensures.value ∙ c.self.view_is in
    let used : taken.1 ≡ used_by taken.0 (size_in c.args.self.now) = c.take_front-taken.ensures.used ∙ ap (λ xs. used_by taken.0 (size_in xs)) held in
    let within = c.take_front-taken.ensures.within in
    let order = c.self.invariant.0 in
    part_less i.from i.to taken.1 i.room.items (omega (arith, order, within, length-take (i.to - i.from) (drop i.from c.deref.result.now)))
    ∙ ap (drop taken.1) c.self.view_is ∙ ap (λ n. drop n c.args.self.now) used
