-- The text for refused words.
use Rattle.std.proofs.Common.{◌≡◌, Result, Ok, Err, refl, sym, subst}
use Rattle.varsvc.specs.declared.words.order.Order.{Order}
use Rattle.varsvc.specs.declared.words.order.Order.TheVariants as order
use Rattle.varsvc.specs.declared.output.plan.Plan.{Plan}
use Rattle.varsvc.specs.declared.output.plan.Plan.TheVariants.{NoMemory}
use Rattle.varsvc.specs.declared.words.usage.UsageFault.{UsageFault}
use Rattle.varsvc.specs.declared.words.usage.UsageFault.TheVariants as usage
use Rattle.varsvc.specs.Order.{IsUsage}
use Rattle.varsvc.specs.Outcome.{IsText, row, usage_row}
use Rattle.varsvc.specs.Plan.{status_of, text_of}
use Rattle.varsvc.specs.Runs.{LeavesUntouched}
use Rattle.varsvc.specs.Told.{Told}
use Rattle.varsvc.proofs.PlannedTexts.{text_memory}

-- what was not touched is not
pub row_untouched : (asked : Result Order UsageFault) (told : Told) → LeavesUntouched told → (row asked told).untouched
row_untouched (Ok (order.Run name)) told same = same
row_untouched (Ok order.Play) told same = tt
row_untouched (Ok (order.List name)) told same = tt
row_untouched (Ok (order.Check name)) told same = tt
row_untouched (Ok (order.Format name)) told same = tt
row_untouched (Ok (order.Make number)) told same = tt
row_untouched (Ok (order.Work number)) told same = tt
row_untouched (Ok order.Entries) told same = tt
row_untouched (Ok (order.Audit name)) told same = tt
row_untouched (Err fault) told same = tt

module _ (asked : Result Order UsageFault) (told : Told) (same : LeavesUntouched told) (plan : Plan) where
  -- the text of a fault is that of the words that have it
  usage_of : (fault : UsageFault) → asked ≡ Err fault → IsText (usage_row fault) (status_of plan) (text_of plan)
      → IsText (row asked told) (status_of plan) (text_of plan)
  usage_of fault is text = subst (λ (a : Result Order UsageFault). IsText (row a told) (status_of plan) (text_of plan)) (sym is) text

  -- so is the plan's for what was returned of words that are refused, or are accepted and out of memory
  pub usage_text : (fault : UsageFault) → IsUsage fault asked → (fault ≡ usage.OutOfMemory → plan ≡ NoMemory)
      → IsText (usage_row fault) (status_of plan) (text_of plan) → IsText (row asked told) (status_of plan) (text_of plan)
  usage_text usage.OutOfMemory is memory text =
      subst (λ (p : Plan). IsText (row asked told) (status_of p) (text_of p)) (sym (memory refl))
      (text_memory (row asked told) (row_untouched asked told same))
  usage_text usage.NoVerb is memory text = usage_of usage.NoVerb is text
  usage_text usage.UnknownVerb is memory text = usage_of usage.UnknownVerb is text
  usage_text (usage.Dash at) is memory text = usage_of (usage.Dash at) is text
  usage_text (usage.Missing want have) is memory text = usage_of (usage.Missing want have) is text
  usage_text (usage.Extra at) is memory text = usage_of (usage.Extra at) is text
  usage_text usage.Number is memory text = usage_of usage.Number is text
