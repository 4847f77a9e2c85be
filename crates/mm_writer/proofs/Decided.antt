-- What a set comes to says what its edit may rely on, and what it is answered where there is none.
use Rattle.std.proofs.Common.{◌≡◌, ℕ, ◌≤◌, ◌<◌, ◌^◌, Bool, true, false, List, [], ◌++◌, length, drop, Option, Some, None, IfSome, refl, sym, ap, subst, ◌∙◌, true≢false, arith}
use Rattle.std.specs.Prelude.{IsSomeAnd}
use Rattle.mm_writer.specs.Edit.{MayRemoveFrom, MayWrite}
use Rattle.nv_store.specs.Outcome.{with_put, without}
use Rattle.var_types.specs.Attributes.{store_of}
use Rattle.var_types.specs.declared.call.Call.TheVariants.{Set as SetCalled}
use Rattle.var_types.specs.declared.call.SetCall.{SetCall}
use Rattle.var_types.specs.declared.decision.Decision.TheVariants.{Refuse, Remove, Same, Write}
use Rattle.var_types.specs.declared.reply.Reply.TheVariants.{Set as SetReplied}
use Rattle.var_types.specs.declared.reply.SetReply.{SetReply}
use Rattle.var_types.specs.declared.reply.SetReply.TheVariants.{Ok as Changed, Refused, Same as Unchanged}
use Rattle.var_types.specs.declared.set_reason.SetReason.{SetReason}
use Rattle.var_types.specs.declared.stamp.Stamp.{Stamp}
use Rattle.var_types.specs.declared.store.Store.{Store}
use Rattle.var_types.specs.declared.variable.Variable.{Variable}
use Rattle.var_types.specs.DeviceErrors.{IsReplyIn}
use Rattle.var_types.specs.Reading.{kept_bytes, made_of, reading_of, set_key}
use Rattle.var_types.specs.Room.{room_limit, room_needed}
use Rattle.var_types.specs.Set.{changed, decision, set_step, variable_by}
use Rattle.var_types.specs.SetLaws.{DecisionsDecide}
use Rattle.var_types.specs.State.{State, stored_at}
use Rattle.var_types.specs.Step.{step}

-- what is stored with the same attributes is kept in the same store
same_store : (attributes : ℕ) (found : Option Variable) → IfSome found (λ variable. variable.attributes ≡ attributes)
    → IfSome found (λ variable. store_of variable.attributes ≡ store_of attributes)
same_store attributes None h = tt
same_store attributes (Some variable) h = ap store_of h

-- a write that doesn't append keeps nothing of what is stored
none_kept : (found : Option Variable) → kept_bytes false found ≡ []
none_kept None = refl
none_kept (Some variable) = refl

-- its bytes are its payload
pub bytes_alone : (append : Bool) (found : Option Variable) (payload bytes : List ℕ) → append ≡ false → bytes ≡ payload
    → bytes ≡ kept_bytes append found ++ payload
bytes_alone append found payload bytes off is =
    is ∙ ap (λ (kept : List ℕ). kept ++ payload) (sym (ap (λ (b : Bool). kept_bytes b found) off ∙ none_kept found))

-- those of one that appends are what is stored and then its payload
pub bytes_joined : (append : Bool) (found : Option Variable) (payload bytes : List ℕ) → append ≡ true → bytes ≡ kept_bytes true found ++ payload
    → bytes ≡ kept_bytes append found ++ payload
bytes_joined append found payload bytes on is = is ∙ ap (λ (b : Bool). kept_bytes b found ++ payload) (sym on)

module _ (decide : DecisionsDecide) (state : State) (call : SetCall) where
  -- a write
  pub may_write : (attributes : ℕ) (stamp : Stamp) (skip : ℕ) (append : Bool) (bytes : List ℕ) → Write attributes stamp skip append ≡ decision state call
      → call.attributes < 2 ^ 32 → bytes ≡ kept_bytes append (stored_at state (set_key call)) ++ drop skip call.bytes
      → MayWrite state call (record { attributes = attributes; bytes = bytes; stamp = stamp })
  may_write attributes stamp skip append bytes e low joined =
      let both = decide state call (Write attributes stamp skip append) e in
      let may = both.1 in
      let variable : Variable = record { attributes = attributes; bytes = bytes; stamp = stamp } in
      let is : variable ≡ variable_by call (stored_at state (set_key call)) attributes stamp skip append =
      ap (λ (bs : List ℕ). let v : Variable = record { attributes = attributes; bytes = bs; stamp = stamp } in v) joined in
      let made : bytes ≡ (made_of (reading_of state call)).bytes = ap (λ (v : Variable). v.bytes) (is ∙ may.made) in
      record {
        named = may.named;
        known = omega (arith, may.known low);
        few = omega (arith, may.size, ap length made);
        alike = same_store attributes (stored_at state (set_key call)) may.alike;
        room = subst (λ (v : Variable). room_needed state (set_key call) v ≤ room_limit (store_of attributes)) (sym (is ∙ may.made)) may.room;
        step = both.0 ∙ ap (λ (v : Variable). (Changed, changed state (with_put (set_key call) v state.variables))) (sym is);
        more = may.more;
      }

  -- a deletion
  pub may_remove : (store : Store) → Remove store ≡ decision state call → MayRemoveFrom state store (set_key call)
  may_remove store e =
      let may = (decide state call (Remove store) e).1 in
      subst (λ (o : Option Variable). IsSomeAnd o (λ variable. store_of variable.attributes ≡ store)) (sym may.stored) may.in_store

  pub remove_step : (store : Store) → Remove store ≡ decision state call
      → set_step state call ≡ (Changed, changed state (without (set_key call) state.variables))
  remove_step store e = (decide state call (Remove store) e).0

  pub remove_more : (store : Store) → Remove store ≡ decision state call → state.made < state.limit
  remove_more store e = (decide state call (Remove store) e).1.more

  pub write_within : (attributes : ℕ) (stamp : Stamp) (skip : ℕ) (append : Bool) → Write attributes stamp skip append ≡ decision state call
      → skip ≤ length call.bytes
  write_within attributes stamp skip append e = (decide state call (Write attributes stamp skip append) e).1.within

  -- what the one-thread service replies
  replied : (reply : SetReply) (next : State) → set_step state call ≡ (reply, next) → SetReplied reply ≡ (step state (SetCalled call)).0
  unfolding step
  replied reply next is = ap (λ (o : SetReply × State). SetReplied o.0) (sym is)

  pub refused_right : (reason : SetReason) → Refuse reason ≡ decision state call → IsReplyIn state (SetCalled call) (SetReplied (Refused reason))
  refused_right reason e = record {
    same = λ _ _. replied (Refused reason) state (decide state call (Refuse reason) e).0;
    device = λ h. absurd (true≢false (sym h));
  }

  pub same_right : Same ≡ decision state call → IsReplyIn state (SetCalled call) (SetReplied Unchanged)
  same_right e = record {
    same = λ _ _. replied Unchanged state (decide state call Same e).0;
    device = λ h. absurd (true≢false (sym h));
  }
