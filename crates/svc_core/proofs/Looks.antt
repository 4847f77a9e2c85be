-- A look in stores that mean a state is right in that state, and no read is a change.
use Rattle.std.proofs.Common.{◌≡◌, true, false, refl, sym, ap, ◌∙◌}
use Rattle.var_trace.specs.Routes.{is_read}
use Rattle.var_types.proofs.DeviceErrors.{no_device_step}
use Rattle.var_types.proofs.Meaning.{get_of_stores, next_of_stores}
use Rattle.var_types.proofs.ReplyKinds.{IsOfKind-reply}
use Rattle.var_types.specs.declared.call.Call.{Call}
use Rattle.var_types.specs.declared.call.Call.TheVariants.{Get, Next, Set, Policy, ExitBoot}
use Rattle.var_types.specs.declared.call.GetCall.{GetCall}
use Rattle.var_types.specs.declared.call.NextCall.{NextCall}
use Rattle.var_types.specs.declared.reply.Reply.{Reply}
use Rattle.var_types.specs.declared.reply.Reply.TheVariants as replied
use Rattle.var_types.specs.DeviceErrors.{IsReplyIn}
use Rattle.var_types.specs.Get.{get_reply}
use Rattle.var_types.specs.Next.{next_reply}
use Rattle.var_types.specs.State.{State}
use Rattle.var_types.specs.Step.{IsOfKind, is_change, step}
use Rattle.var_types.specs.Stores.{Means, Stores, state_in}
use Rattle.var_types.specs.Walk.{IsSound}
use Rattle.svc_core.specs.World.{look}

-- a look for a get or a next is that of what the stores hold
pub look_get : (stores : Stores) (call : GetCall) → replied.Get (get_reply (state_in stores) call) ≡ look stores (Get call)
unfolding look step
look_get stores call = refl

pub look_next : (stores : Stores) (call : NextCall) → replied.Next (next_reply (state_in stores) call) ≡ look stores (Next call)
unfolding look step
look_next stores call = refl

-- a look in stores that mean a state is the one-thread service's reply in it
look_is : (stores : Stores) (state : State) (call : Call) → Means stores state → IsSound state → is_read call ≡ true → look stores call ≡ (step state call).0
unfolding look step
look_is stores state (Get call) means sound reads = ap replied.Get (get_of_stores stores state sound.ordered means call)
look_is stores state (Next call) means sound reads = ap replied.Next (next_of_stores stores state sound.ordered means call)
look_is stores state (Set call) means sound reads = cc
look_is stores state (Policy call) means sound reads = cc
look_is stores state ExitBoot means sound reads = cc

-- and so it is right there
pub look_right : (stores : Stores) (state : State) (call : Call) → Means stores state → IsSound state → is_read call ≡ true
    → IsReplyIn state call (look stores call)
unfolding look
look_right stores state call means sound reads = record {
  same = λ had done. look_is stores state call means sound reads;
  device = λ failed. let lost : true ≡ false = sym failed ∙ no_device_step (state_in stores) call in cc;
}

-- a reply of a read's kind is no change
kind_no_change : (call : Call) (reply : Reply) → is_read call ≡ true → IsOfKind call reply → is_change reply ≡ false
kind_no_change (Get call) (replied.Get reply) reads kind = refl
kind_no_change (Next call) (replied.Next reply) reads kind = refl
kind_no_change (Get call) (replied.Next reply) reads kind = absurd kind
kind_no_change (Get call) (replied.Set reply) reads kind = absurd kind
kind_no_change (Get call) (replied.Policy reply) reads kind = absurd kind
kind_no_change (Get call) (replied.Exit reply) reads kind = absurd kind
kind_no_change (Next call) (replied.Get reply) reads kind = absurd kind
kind_no_change (Next call) (replied.Set reply) reads kind = absurd kind
kind_no_change (Next call) (replied.Policy reply) reads kind = absurd kind
kind_no_change (Next call) (replied.Exit reply) reads kind = absurd kind
kind_no_change (Set call) reply reads kind = cc
kind_no_change (Policy call) reply reads kind = cc
kind_no_change ExitBoot reply reads kind = cc

-- no reply to a read is a change
pub read_no_change : (state : State) (call : Call) (reply : Reply) → is_read call ≡ true → IsReplyIn state call reply → is_change reply ≡ false
read_no_change state call reply reads right = kind_no_change call reply reads (IsOfKind-reply state call reply right)
