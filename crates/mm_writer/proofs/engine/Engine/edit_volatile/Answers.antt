use Rattle.std.proofs.Common.{◌≡◌, IfSome, sym, subst, refl, arith}
use Rattle.flash_dev.proofs.Moments.{stays_none}
use Rattle.mm_writer.proofs.Able.{can_edit}
use Rattle.mm_writer.proofs.Answered.{answered_ok, doubted_over, grown_volatile, kept_edited}
use Rattle.mm_writer.proofs.Edits.{other_part}
use Rattle.mm_writer.proofs.Ended.{not_non_volatile}
use Rattle.mm_writer.proofs.InDoubt.{left_itself}
use Rattle.mm_writer.proofs.Sides.{means_now}
use Rattle.mm_writer.specs.Doubt.{doubt_by}
use Rattle.mm_writer.specs.Edit.{MayEdit, edited}
use Rattle.mm_writer.specs.Engine.{side_by}
use Rattle.mm_writer.specs.Outcome.{AnswersSet, IsKeptBut, IsSetLeft}
use Rattle.mm_writer.specs.Side.{Side, state_of}
use Rattle.mm_writer.specs.Stands.{IsTotalWithout}
use Rattle.set_rules.specs.RoomTotals.{IsTotalOf}
use Rattle.var_types.specs.declared.reply.SetReply.TheVariants.{Ok as Changed}
use Rattle.var_types.specs.declared.store.Store.TheVariants.{Volatile}
use Rattle.var_types.specs.Set.{changed, set_step}
use Rattle.var_types.specs.Stores.{HaveSizes}
use Rattle.mm_writer.proofs.engine.Engine.edit_volatile.Goals as goal

pub change_volatile-requires-clause-can : goal.change_volatile-requires-clause-can
change_volatile-requires-clause-can g c =
    let e = c.self.inside in
    let side : Side = side_by e.opened.value.1.0 e.store.1.0 e.volatile e.books in
    let may = subst (λ v. MayEdit (state_of v.1.1) Volatile c.args.edit.now) (sym c.self.view_is) c.requires.may in
    let sizes = subst (λ v. HaveSizes v.1.1.stores) (sym c.self.view_is) c.view-view.ensures.sizes in
    can_edit side.stores (state_of side) c.self.invariant.kept.consistent.sound.ordered (means_now side c.self.invariant.kept.consistent) sizes Volatile
    c.args.edit.now may

pub invariant_of-self : goal.invariant_of-self
invariant_of-self g c =
    let e = c.self.inside in
    let side : Side = side_by e.opened.value.1.0 e.store.1.0 e.volatile e.books in
    let next : Side = side_by e.opened.value.1.0 e.store.1.0 c.change_volatile.new.volatile c.change_volatile.new.books in
    let edit = c.args.edit.now in
    let call = c.args.call.now in
    let may = subst (λ v. MayEdit (state_of v.1.1) Volatile edit) (sym c.self.view_is) c.requires.may in
    let is =
    subst (λ v. set_step (state_of v.1.1) call ≡ (Changed, changed (state_of v.1.1) (edited edit (state_of v.1.1).variables))) (sym c.self.view_is)
    c.requires.step in
    let rooms =
    subst (λ v. IsTotalOf c.totals_after-totals.result (edited edit (state_of v.1.1).variables)) (sym c.self.view_is)
    (c.totals_after-totals.ensures (state_of c.args.self.now.1.1) Volatile c.view-view.ensures.stands.ordered
    (subst (λ key. IsTotalWithout c.args.rest key (state_of c.args.self.now.1.1).variables) (sym c.requires.key) c.requires.rest) c.requires.may) in
    let done = c.in-Ok.ensures.done in
    let grown = grown_volatile e.opened.value.1.0 e.store.1.0 e.volatile c.change_volatile.new.volatile _ e.books c.change_volatile.new.books done.enters in
    record {
      kept =
          kept_edited side next e.totals c.totals_after-totals.result e.policies c.self.invariant.kept Volatile edit c.change_volatile.new.volatile
          c.args.caller.processor c.args.caller.index call e.books c.change_volatile.new.books may is done.edited.map refl refl done.enters grown
          c.agreement_grows_with_the_ranges.ensures.grows c.agreement_grows_with_the_ranges.ensures.same rooms;
      doubted =
          doubted_over side next e.totals c.totals_after-totals.result e.policies c.self.invariant.kept Volatile edit c.change_volatile.new.volatile
          c.args.caller.processor c.args.caller.index call e.books c.change_volatile.new.books may is done.edited.map refl refl done.enters grown
          (sym (other_part (state_of side) c.self.invariant.kept.consistent.sound.ordered Volatile edit may)) e.failed e.store.1.1
          c.self.invariant.doubted;
    }

pub returns-in-Ok : goal.returns-in-Ok
returns-in-Ok g c =
    let e = c.self.inside in
    let side : Side = side_by e.opened.value.1.0 e.store.1.0 e.volatile e.books in
    let volatile = c.change_volatile.new.volatile in
    let books = c.change_volatile.new.books in
    let next : Side = side_by e.opened.value.1.0 e.store.1.0 volatile books in
    let edit = c.args.edit.now in
    let caller = c.args.caller in
    let call = c.args.call.now in
    let may = subst (λ v. MayEdit (state_of v.1.1) Volatile edit) (sym c.self.view_is) c.requires.may in
    let is =
    subst (λ v. set_step (state_of v.1.1) call ≡ (Changed, changed (state_of v.1.1) (edited edit (state_of v.1.1).variables))) (sym c.self.view_is)
    c.requires.step in
    let doubt = doubt_by e.store.1.1 e.failed in
    let keeps = subst (λ v. IfSome (g.F.Flash.holds v.0) (IsKeptBut v.1.1 v.1.0)) (sym c.self.view_is) c.view-view.ensures.keeps in
    let done = c.in-Ok.ensures.done in
    let grown = grown_volatile e.opened.value.1.0 e.store.1.0 e.volatile volatile _ e.books books done.enters in
    subst
    (λ v. AnswersSet g.F.Flash.moment g.F.Flash.left_since g.F.Flash.holds g.F.Flash.fault_count v (e.store.0, (doubt, next)) caller.processor caller.index call Changed)
    c.self.view_is
    (record {
      answered =
          answered_ok side next e.totals c.totals_after-totals.result e.policies c.self.invariant.kept Volatile edit volatile caller.processor caller.index call
          e.books books may is done.edited.map refl refl done.enters grown;
      untouched = λ n. absurd (n refl);
      same_doubt = λ n. absurd (n refl);
      sure = λ _ sure. sure;
      ended = λ _ change.
          absurd (not_non_volatile (state_of side) c.self.invariant.kept.consistent.sound.ordered call edit may c.requires.key is change);
      volatile = λ _ _. (refl, refl);
      failed = λ e. cc;
      at_any_moment =
          stays_none (IsSetLeft side doubt call) e.store.0 (λ image told. left_itself side doubt call (g.F.Flash.holds e.store.0) image keeps told);
      cause = record { done = λ _. refl; failed = λ e. cc; never_falls = omega arith };
    })
