use Rattle.std.proofs.Common.{◌≡◌, Err, inl, inr, ap, sym, subst, refl}
use Rattle.mm_writer.proofs.Able.{can_edit}
use Rattle.mm_writer.proofs.Answered.{answered_ok, grown_non_volatile, kept_edited}
use Rattle.mm_writer.proofs.Failing.{answered_device, is_change_of_one}
use Rattle.mm_writer.proofs.InDoubt.{doubted_failed, failed_is, named_after, none_doubted, set_moments, unhealed_by}
use Rattle.mm_writer.proofs.Sides.{means_now}
use Rattle.mm_writer.specs.Doubt.{doubt_by}
use Rattle.mm_writer.specs.Edit.{MayEdit, edited}
use Rattle.mm_writer.specs.Engine.{IsEngine, side_by}
use Rattle.mm_writer.specs.Outcome.{AnswersSet}
use Rattle.mm_writer.specs.Side.{Side, state_of}
use Rattle.mm_writer.specs.Stands.{IsTotalWithout}
use Rattle.set_rules.specs.RoomTotals.{IsTotalOf}
use Rattle.var_types.specs.declared.reply.SetReply.TheVariants.{Device, Ok as Changed}
use Rattle.var_types.specs.declared.store.Store.TheVariants.{NonVolatile}
use Rattle.var_types.specs.Set.{changed, set_step}
use Rattle.var_types.specs.Stores.{HaveSizes}
use Rattle.mm_writer.proofs.engine.Engine.edit_non_volatile.Goals as goal

pub change_non_volatile-requires-clause-can : goal.change_non_volatile-requires-clause-can
change_non_volatile-requires-clause-can g c =
    let e = c.self.inside in
    let side : Side = side_by e.opened.value.1.0 e.store.1.0 e.volatile e.books in
    let may = subst (λ v. MayEdit (state_of v.1.1) NonVolatile c.args.edit.now) (sym c.self.view_is) c.requires.may in
    let sizes = subst (λ v. HaveSizes v.1.1.stores) (sym c.self.view_is) c.view-view.ensures.sizes in
    can_edit side.stores (state_of side) c.self.invariant.kept.consistent.sound.ordered (means_now side c.self.invariant.kept.consistent) sizes NonVolatile
    c.args.edit.now may

pub invariant_of-self : goal.invariant_of-self
invariant_of-self g c =
    let e = c.self.inside in
    let side : Side = side_by e.opened.value.1.0 e.store.1.0 e.volatile e.books in
    let mirror = c.change_non_volatile.new.store.1.0 in
    let books = c.change_non_volatile.new.books in
    let next : Side = side_by e.opened.value.1.0 mirror e.volatile books in
    let edit = c.args.edit.now in
    let call = c.args.call.now in
    let may = subst (λ v. MayEdit (state_of v.1.1) NonVolatile edit) (sym c.self.view_is) c.requires.may in
    let is =
    subst (λ v. set_step (state_of v.1.1) call ≡ (Changed, changed (state_of v.1.1) (edited edit (state_of v.1.1).variables))) (sym c.self.view_is)
    c.requires.step in
    let rooms =
    subst (λ v. IsTotalOf c.totals_after-totals.result (edited edit (state_of v.1.1).variables)) (sym c.self.view_is)
    (c.totals_after-totals.ensures (state_of c.args.self.now.1.1) NonVolatile c.view-view.ensures.stands.ordered
    (subst (λ key. IsTotalWithout c.args.rest key (state_of c.args.self.now.1.1).variables) (sym c.requires.key) c.requires.rest) c.requires.may) in
    let done = c.in-Ok.ensures.done in
    record {
      kept =
          kept_edited side next e.totals c.totals_after-totals.result e.policies c.self.invariant.kept NonVolatile edit mirror c.args.caller.processor
          c.args.caller.index call e.books books may is done.edited.map refl refl done.enters
          (grown_non_volatile e.opened.value.1.0 e.volatile e.store.1.0 mirror _ e.books books done.enters)
          c.agreement_grows_with_the_ranges.ensures.grows c.agreement_grows_with_the_ranges.ensures.same rooms;
      doubted = none_doubted _ _ e.failed c.change_non_volatile.new.store.1.1 c.in-Ok.ensures.sure;
    }

pub returns-in-Ok : goal.returns-in-Ok
returns-in-Ok g c =
    let e = c.self.inside in
    let side : Side = side_by e.opened.value.1.0 e.store.1.0 e.volatile e.books in
    let store = c.change_non_volatile.new.store in
    let books = c.change_non_volatile.new.books in
    let next : Side = side_by e.opened.value.1.0 store.1.0 e.volatile books in
    let edit = c.args.edit.now in
    let caller = c.args.caller in
    let call = c.args.call.now in
    let may = subst (λ v. MayEdit (state_of v.1.1) NonVolatile edit) (sym c.self.view_is) c.requires.may in
    let is =
    subst (λ v. set_step (state_of v.1.1) call ≡ (Changed, changed (state_of v.1.1) (edited edit (state_of v.1.1).variables))) (sym c.self.view_is)
    c.requires.step in
    let done = c.in-Ok.ensures.done in
    subst
    (λ v. AnswersSet g.F.Flash.moment g.F.Flash.left_since g.F.Flash.holds g.F.Flash.fault_count v (store.0, (doubt_by store.1.1 e.failed, next)) caller.processor caller.index call Changed)
    c.self.view_is
    (record {
      answered =
          answered_ok side next e.totals c.totals_after-totals.result e.policies c.self.invariant.kept NonVolatile edit store.1.0 caller.processor caller.index call
          e.books books may is done.edited.map refl refl done.enters
          (grown_non_volatile e.opened.value.1.0 e.volatile e.store.1.0 store.1.0 _ e.books books done.enters);
      untouched = λ n. absurd (n refl);
      same_doubt = λ n. absurd (n refl);
      sure = λ _ _. ap (λ o. doubt_by o e.failed) c.in-Ok.ensures.sure;
      ended = λ _ _. ap (λ o. doubt_by o e.failed) c.in-Ok.ensures.sure;
      volatile = λ _ n. absurd (n (is_change_of_one side c.self.invariant.kept.consistent edit call may is c.requires.key));
      failed = λ e. cc;
      at_any_moment =
          set_moments side c.self.invariant.kept.consistent e.failed e.store.1.1 c.self.invariant.doubted edit call may is e.store.0 store.0
          (c.in-Ok.ensures.at_any_moment (λ h. cc));
      cause = record {
        done = λ _. (c.in-Ok.ensures.cause (λ h. cc)).done;
        failed = λ e. cc;
        never_falls = (c.in-Ok.ensures.cause (λ h. cc)).never_falls;
      };
    })

pub returns-in-Err-Unhealed : goal.returns-in-Err-Unhealed
returns-in-Err-Unhealed g c =
    let e = c.self.inside in
    let side : Side = side_by e.opened.value.1.0 e.store.1.0 e.volatile e.books in
    let store = c.change_non_volatile.new.store in
    let next : Side = side_by e.opened.value.1.0 store.1.0 e.volatile c.change_non_volatile.new.books in
    let edit = c.args.edit.now in
    let caller = c.args.caller in
    let call = c.args.call.now in
    let may = subst (λ v. MayEdit (state_of v.1.1) NonVolatile edit) (sym c.self.view_is) c.requires.may in
    let is =
    subst (λ v. set_step (state_of v.1.1) call ≡ (Changed, changed (state_of v.1.1) (edited edit (state_of v.1.1).variables))) (sym c.self.view_is)
    c.requires.step in
    let still = c.in-Err-Unhealed.ensures.unhealed (ap Err c.in-Err-Unhealed.field-0-is) in
    let same : next ≡ side = λ i.
    side_by e.opened.value.1.0 (still.same i).0 e.volatile (c.in-Err-Unhealed.ensures.books i) in
    subst
    (λ v. AnswersSet g.F.Flash.moment g.F.Flash.left_since g.F.Flash.holds g.F.Flash.fault_count v (store.0, (doubt_by store.1.1 e.failed, next)) caller.processor caller.index call Device)
    c.self.view_is
    (record {
      answered =
          answered_device side c.self.invariant.kept.consistent edit call may is c.requires.key next same caller.processor caller.index;
      untouched = λ _ n. absurd (n refl);
      same_doubt = λ _ n. absurd (n refl);
      sure = λ e. cc;
      ended = λ e. cc;
      volatile = λ e. cc;
      failed = λ _.
          inr (unhealed_by side c.self.invariant.kept.consistent e.failed e.store.1.1 c.self.invariant.doubted e.store store next refl still);
      at_any_moment =
          set_moments side c.self.invariant.kept.consistent e.failed e.store.1.1 c.self.invariant.doubted edit call may is e.store.0 store.0
          (c.in-Err-Unhealed.ensures.at_any_moment (λ h. cc));
      cause = record {
        done = λ n. absurd (n refl);
        failed = λ _. (c.in-Err-Unhealed.ensures.cause (λ h. cc)).failed;
        never_falls = (c.in-Err-Unhealed.ensures.cause (λ h. cc)).never_falls;
      };
    })

pub invariant_of-self-in-Err-Device : goal.invariant_of-self-in-Err-Device
invariant_of-self-in-Err-Device g c =
    let e = c.self.inside in
    let side : Side = side_by e.opened.value.1.0 e.store.1.0 e.volatile e.books in
    let store = c.change_non_volatile.new.store in
    let edit = c.args.edit.now in
    let caller = c.args.caller in
    let call = c.args.call.now in
    let may = subst (λ v. MayEdit (state_of v.1.1) NonVolatile edit) (sym c.self.view_is) c.requires.may in
    let is =
    subst (λ v. set_step (state_of v.1.1) call ≡ (Changed, changed (state_of v.1.1) (edited edit (state_of v.1.1).variables))) (sym c.self.view_is)
    c.requires.step in
    let left = c.in-Err-Device.ensures.failed (ap Err c.in-Err-Device.field-0-is) in
    let named =
    named_after side caller.processor caller.index c.len.result call c.of-failed.result c.of-failed.ensures c.len.ensures.len in
    let same : side_by e.opened.value.1.0 store.1.0 e.volatile c.change_non_volatile.new.books ≡ side = λ i.
    side_by e.opened.value.1.0 (left.mirror i) e.volatile (c.in-Err-Device.ensures.books i) in
    subst (λ (s : Side). IsEngine s e.totals e.policies c.of-failed.result store.1.1) (sym same)
    (record {
      kept = c.self.invariant.kept;
      doubted =
          doubted_failed side c.self.invariant.kept.consistent e.failed e.store.1.1 c.self.invariant.doubted edit call may is c.requires.key caller.processor
          caller.index c.of-failed.result e.store.1 store.1 named refl left;
    })

pub returns-in-Err-Device : goal.returns-in-Err-Device
returns-in-Err-Device g c =
    let e = c.self.inside in
    let side : Side = side_by e.opened.value.1.0 e.store.1.0 e.volatile e.books in
    let store = c.change_non_volatile.new.store in
    let next : Side = side_by e.opened.value.1.0 store.1.0 e.volatile c.change_non_volatile.new.books in
    let edit = c.args.edit.now in
    let caller = c.args.caller in
    let call = c.args.call.now in
    let may = subst (λ v. MayEdit (state_of v.1.1) NonVolatile edit) (sym c.self.view_is) c.requires.may in
    let is =
    subst (λ v. set_step (state_of v.1.1) call ≡ (Changed, changed (state_of v.1.1) (edited edit (state_of v.1.1).variables))) (sym c.self.view_is)
    c.requires.step in
    let left = c.in-Err-Device.ensures.failed (ap Err c.in-Err-Device.field-0-is) in
    let named =
    named_after side caller.processor caller.index c.len.result call c.of-failed.result c.of-failed.ensures c.len.ensures.len in
    let same : next ≡ side = λ i.
    side_by e.opened.value.1.0 (left.mirror i) e.volatile (c.in-Err-Device.ensures.books i) in
    subst
    (λ v. AnswersSet g.F.Flash.moment g.F.Flash.left_since g.F.Flash.holds g.F.Flash.fault_count v (store.0, (doubt_by store.1.1 c.of-failed.result, next)) caller.processor caller.index call Device)
    c.self.view_is
    (record {
      answered =
          answered_device side c.self.invariant.kept.consistent edit call may is c.requires.key next same caller.processor caller.index;
      untouched = λ _ n. absurd (n refl);
      same_doubt = λ _ n. absurd (n refl);
      sure = λ e. cc;
      ended = λ e. cc;
      volatile = λ e. cc;
      failed = λ _. inl (failed_is (edited edit) e.store.1 store.1 c.of-failed.result _ left named);
      at_any_moment =
          set_moments side c.self.invariant.kept.consistent e.failed e.store.1.1 c.self.invariant.doubted edit call may is e.store.0 store.0
          (c.in-Err-Device.ensures.at_any_moment (λ h. cc));
      cause = record {
        done = λ n. absurd (n refl);
        failed = λ _. (c.in-Err-Device.ensures.cause (λ h. cc)).failed;
        never_falls = (c.in-Err-Device.ensures.cause (λ h. cc)).never_falls;
      };
    })
