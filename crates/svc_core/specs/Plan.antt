-- What a writer plans for a call.
use Rattle.std.specs.Prelude.{◌≡◌, ◌⊎◌, ℕ, ◌+◌, ◌<◌, ◌≤◌, true, false, List, [], ◌∷◌, ◌++◌, length, All, Option, Some, None}
use Rattle.var_trace.specs.declared.change.Change.{Change}
use Rattle.var_trace.specs.declared.piece.Piece.{Piece}
use Rattle.var_trace.specs.Pieces.{with_change}
use Rattle.var_types.specs.declared.call.Call.{Call}
use Rattle.var_types.specs.declared.reply.Reply.{Reply}
use Rattle.var_types.specs.declared.store.Store.{Store}
use Rattle.var_types.specs.declared.store.Store.TheVariants.{NonVolatile, Volatile}
use Rattle.var_types.specs.Kept.{kept}
use Rattle.var_types.specs.Layout.{volatile_size, volume_size}
use Rattle.var_types.specs.Stores.{Means}
use Rattle.var_types.specs.Step.{is_change, step}
use Rattle.svc_core.specs.declared.flash_step.FlashStep.{FlashStep}
use Rattle.svc_core.specs.FlashSteps.{Moments, StepsFit, after_steps}
use Rattle.svc_core.specs.Writer.{Opening, Writer, kept_after, state_at}

-- the reply to a call, the flash steps of its change in their order, and the change, if it makes one (this project's own)
pub record Plan : Type 0 where
  pub reply : Reply
  pub steps : List FlashStep
  pub change : Option Change

-- how many bytes a store has, headers counted
abbrev pub store_size : Store → ℕ
store_size NonVolatile = volume_size
store_size Volatile = volatile_size

-- a piece lies within its store
abbrev pub IsInStore : Piece → Type 0
IsInStore piece = piece.at + length piece.bytes ≤ store_size piece.store

-- an image keeps the non-volatile variables after changes, or after one change more
abbrev pub KeepsWithOrWithout : Opening → List Change → Change → List ℕ → Type 0
KeepsWithOrWithout opening log change image =
    (kept image ≡ kept_after opening log (length log))
    ⊎ (kept image ≡ kept_after opening (log ++ change ∷ []) (length log + 1))

-- a writer plans a change: its entry is this call's, its delta turns the stores into those of the state behind it, and its flash steps lead from
-- the image to one that keeps that state's non-volatile variables, at each moment with the change or without (this project's own)
pub record IsChangePlan (opening : Opening) (own : Writer) (processor index : ℕ) (call : Call) (steps : List FlashStep) (change : Change) (new : Writer) : Type 0 where
  pub entry : change.entry ≡ record { number = length own.log; processor = processor; index = index; call = call }
  pub room : length own.log < opening.start.limit
  pub log : new.log ≡ own.log ++ change ∷ []
  pub stores : new.stores ≡ with_change own.stores change.delta
  pub image : new.image ≡ after_steps steps own.image
  pub inside : All IsInStore change.delta.pieces
  pub fit : StepsFit steps
  pub means : Means new.stores (state_at opening new.log (length own.log + 1))
  pub moments : Moments (KeepsWithOrWithout opening own.log change) own.image steps
  pub end : kept new.image ≡ kept_after opening new.log (length own.log + 1)

-- what the writer does by whether there is a change: where there is none, no flash step, and all of its own stays
abbrev pub IsOutcome : Opening → Writer → ℕ → ℕ → Call → Reply → List FlashStep → Option Change → Writer → Type 0
IsOutcome opening own processor index call reply steps None new = (is_change reply ≡ false) × (steps ≡ []) × (new ≡ own)
IsOutcome opening own processor index call reply steps (Some change) new =
    (is_change reply ≡ true) × IsChangePlan opening own processor index call steps change new

-- a writer's plan for a call of a processor, and what is its own behind it: the reply is the one-thread service's after the writer's history
pub record IsPlan (opening : Opening) (own : Writer) (processor index : ℕ) (call : Call) (plan : Plan) (new : Writer) : Type 0 where
  pub reply : plan.reply ≡ (step (state_at opening own.log (length own.log)) call).0
  pub outcome : IsOutcome opening own processor index call plan.reply plan.steps plan.change new
