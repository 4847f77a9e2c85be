-- What a call of the program prints and leaves, by what its words ask for and by the status that it ends with.
use Rattle.std.specs.Prelude.{◌≡◌, ◌≢◌, ◌⊎◌, ℕ, Bool, true, false, List, Option, Result, Ok, Err, IfSome, IsOk, IsTrue}
use Rattle.std.specs.Io.KnownBytes.{Appends, IsAtEnd}
use Rattle.flash_dev.specs.Blank.{blank_image}
use Rattle.flash_dev.specs.Formatting.{IsFormatLeft}
use Rattle.flash_dev.specs.Moments.{Stays}
use Rattle.flash_dev.specs.Rules.{IsKept, Leaves}
use Rattle.image_make.specs.Generated.{generated_script}
use Rattle.outside.specs.Faults.{HasRisen}
use Rattle.outside.specs.Written.{AppendsPart}
use Rattle.report_text.specs.Summary.{summary_line}
use Rattle.script_text.specs.Script.{script_of}
use Rattle.var_types.specs.Layout.{image_size}
use Rattle.varsvc.specs.declared.image.inspection.Inspection.{Inspection}
use Rattle.varsvc.specs.declared.image.inspection.Inspection.TheVariants as inspection
use Rattle.varsvc.specs.declared.words.order.Order.{Order}
use Rattle.varsvc.specs.declared.words.order.Order.TheVariants as order
use Rattle.varsvc.specs.declared.words.usage.UsageFault.{UsageFault}
use Rattle.varsvc.specs.FaultLines.{device_line, input_line, memory_line, usage_line}
use Rattle.varsvc.specs.Input.{TakesAtMost, most_read}
use Rattle.varsvc.specs.Images.{Formats, Inspects, IsImage, IsNoImage, RefusesFormat, RefusesList}
use Rattle.varsvc.specs.Order.{IsRunOrder}
use Rattle.policy_audit.specs.Text.{policies_of}
use Rattle.varsvc.specs.PolicyTexts.{Audits, IsNoPolicyText, IsPolicyText, RefusesPolicies, Registers}
use Rattle.varsvc.specs.Plays.{IsNoPlayScript, IsPlayScript, Plays, RefusesPlay}
use Rattle.varsvc.specs.Runs.{IsNoScript, IsScript, LeavesUntouched, LeavesVariables, RefusesScript, Reports, Runs}
use Rattle.varsvc.specs.Told.{Told, told_of}
use Rattle.varsvc.specs.Work.{work_summary}

-- no text
abbrev pub NoText : List ℕ → Type 0
NoText text = ⊥

-- what a verb does, as its line of the table of verbs
pub record Row : Type 1 where
  -- the texts that it prints where all is done, and where it refuses its words, its script or its image
  pub output : List ℕ → Type 0
  pub usage : List ℕ → Type 0
  pub script : List ℕ → Type 0
  pub image : List ℕ → Type 0
  -- the reports that it prints where replies are out of memory
  pub lacking : List ℕ → Type 0
  -- how the image stands where nothing was done, where a call of the flash failed before anything was, and where all was done but for the
  -- printing
  pub untouched : Type 0
  pub unopened : Type 0
  pub unprinted : Type 0
  -- whether it reads the source, opens the image, prints anything where all is done, and may say in a reply that the flash failed
  pub reads : Bool
  pub opens : Bool
  pub prints : Bool
  pub replies : Bool
  -- how the image stands to the one that it was given, unless that is said with the text: where all is done, and at any moment of the call
  pub done : List ℕ → List ℕ → Type 0
  pub leaves : List ℕ → List ℕ → Type 0
  -- it is given what it accepts, or what it refuses with a status
  pub accepted : Type 0
  pub refused : ℕ → Type 0

-- a verb that is given nothing to do: it reads and opens nothing, keeps the image, and has no text; each line of the table says what is its own
abbrev pub still_row : Row
still_row = record {
  output = NoText;
  usage = NoText;
  script = NoText;
  image = NoText;
  lacking = NoText;
  untouched = Unit {0};
  unopened = Unit {0};
  unprinted = Unit {0};
  reads = false;
  opens = false;
  prints = true;
  replies = false;
  done = IsKept;
  leaves = IsKept;
  accepted = ⊥;
  refused = λ _. ⊥;
}

-- running a script on an image
abbrev pub run_row : Told → Row
run_row told = record still_row {
  output = Reports told false;
  script = RefusesScript told.input;
  image = λ text. IfSome told.input (λ input. IsOk (script_of input)) × RefusesList told.image told.size text;
  lacking = Reports told true;
  untouched = LeavesUntouched told;
  unopened = LeavesVariables told;
  unprinted = Runs told;
  reads = true;
  opens = true;
  replies = true;
  done = λ _ _. Unit {0};
  leaves = λ _ _. Unit {0};
  accepted = IsScript told.input × IsImage told.image;
  refused = λ status. ((status ≡ 3) × IsNoScript told.input) ⊎ ((status ≡ 4) × IsScript told.input × IsNoImage told.image);
}

-- playing a script with a schedule, whatever the image is
abbrev pub play_row : Option (List ℕ) → Row
play_row input = record still_row {
  output = Plays input;
  script = RefusesPlay input;
  untouched = Unit {0};
  unopened = Unit {0};
  unprinted = Unit {0};
  reads = true;
  opens = false;
  prints = true;
  replies = false;
  done = IsKept;
  leaves = IsKept;
  accepted = IsPlayScript input;
  refused = λ status. (status ≡ 3) × IsNoPlayScript input;
}

-- listing or checking an image
abbrev pub inspection_row : Inspection → Option (List ℕ) → ℕ → Row
inspection_row what image size = record still_row {
  output = Inspects what image size;
  image = RefusesList image size;
  untouched = Unit {0};
  unopened = Unit {0};
  unprinted = Unit {0};
  reads = false;
  opens = true;
  prints = true;
  replies = false;
  done = IsKept;
  leaves = IsKept;
  accepted = IsImage image;
  refused = λ status. (status ≡ 4) × IsNoImage image;
}

-- formatting an image
abbrev pub format_row : ℕ → Row
format_row size = record still_row {
  output = Formats size;
  image = RefusesFormat size;
  untouched = Unit {0};
  unopened = Unit {0};
  unprinted = Unit {0};
  reads = false;
  opens = true;
  prints = false;
  replies = false;
  done = λ _ left. left ≡ blank_image;
  leaves = IsFormatLeft;
  accepted = size ≡ image_size;
  refused = λ status. (status ≡ 4) × (size ≢ image_size);
}

-- printing a text, whatever the source and the image are
abbrev pub text_row : List ℕ → Row
text_row wanted = record still_row {
  output = λ text. text ≡ wanted;
  untouched = Unit {0};
  unopened = Unit {0};
  unprinted = Unit {0};
  reads = false;
  opens = false;
  prints = true;
  replies = false;
  done = IsKept;
  leaves = IsKept;
  accepted = Unit {0};
  refused = λ _. ⊥;
}

-- printing the script that registers the policies of a text, whatever the image is
abbrev pub entries_row : Option (List ℕ) → Row
entries_row input = record still_row {
  output = Registers input;
  script = RefusesPolicies input;
  reads = true;
  accepted = IsPolicyText input;
  refused = λ status. (status ≡ 3) × IsNoPolicyText input;
}

-- holding an image against the policies of a text, which is read first
abbrev pub audit_row : Option (List ℕ) → Option (List ℕ) → ℕ → Row
audit_row input image size = record still_row {
  output = Audits input image size;
  script = RefusesPolicies input;
  image = λ text. IfSome input (λ bytes. IsOk (policies_of bytes)) × RefusesList image size text;
  reads = true;
  opens = true;
  accepted = IsPolicyText input × IsImage image;
  refused = λ status. ((status ≡ 3) × IsNoPolicyText input) ⊎ ((status ≡ 4) × IsPolicyText input × IsNoImage image);
}

-- words that are refused
abbrev pub usage_row : UsageFault → Row
usage_row fault = record still_row {
  usage = λ text. text ≡ usage_line fault;
  untouched = Unit {0};
  unopened = Unit {0};
  unprinted = Unit {0};
  reads = false;
  opens = false;
  prints = true;
  replies = false;
  done = IsKept;
  leaves = IsKept;
  accepted = ⊥;
  refused = λ status. status ≡ 2;
}

-- the table of verbs: what is done, by what the words ask for and by what is told of source and image (this project's own)
abbrev pub row : Result Order UsageFault → Told → Row
row (Ok (order.Run name)) told = run_row told
row (Ok order.Play) told = play_row told.input
row (Ok (order.List name)) told = inspection_row inspection.Listing told.image told.size
row (Ok (order.Check name)) told = inspection_row inspection.Check told.image told.size
row (Ok (order.Format name)) told = format_row told.size
row (Ok (order.Make number)) told = text_row (generated_script number)
row (Ok (order.Work number)) told = text_row (summary_line (work_summary number))
row (Ok order.Entries) told = entries_row told.input
row (Ok (order.Audit name)) told = audit_row told.input told.image told.size
row (Err fault) told = usage_row fault

-- a call that is out of memory: nothing was done, and the line says so; or all was done, and there is no memory to print it; or replies are out
-- of memory, and it is printed
abbrev pub LacksMemory : Row → List ℕ → Type 0
LacksMemory r text =
    ((text ≡ memory_line) × (r.untouched ⊎ r.unprinted)) ⊎ r.lacking text

-- the text that goes with a status; a failed write decides the status afterwards, so that this is never 5 (this project's own)
pub record IsText (r : Row) (status : ℕ) (text : List ℕ) : Type 0 where
  pub known : (status ≡ 0) ⊎ ((status ≡ 2) ⊎ ((status ≡ 3) ⊎ ((status ≡ 4) ⊎ ((status ≡ 6) ⊎ ((status ≡ 7) ⊎ (status ≡ 8))))))
  pub done : status ≡ 0 → r.output text
  pub usage : status ≡ 2 → r.usage text
  pub script : status ≡ 3 → r.script text × r.untouched
  pub image : status ≡ 4 → r.image text × r.untouched
  pub input : status ≡ 6 → IsTrue r.reads × (text ≡ input_line) × r.untouched
  pub device : status ≡ 7 → IsTrue r.opens × (text ≡ device_line) × r.unopened
  pub memory : status ≡ 8 → LacksMemory r text

-- a status comes exactly where a call of one kind failed: then the count of failed calls rose, and else it stands
pub record FailsAt (fault status before after : ℕ) : Type 0 where
  pub rose : status ≡ fault → HasRisen before after
  pub stands : status ≢ fault → after ≡ before

-- the same of a status of the flash, where no reply may say that the flash failed
pub record FlashFails (r : Row) (status before after : ℕ) : Type 0 where
  pub rose : status ≡ 7 → HasRisen before after
  pub stands : r.replies ≡ false → status ≢ 7 → after ≡ before

-- how often calls of source, sink and flash had failed before a call of the program, and have after it
pub record Counts : Type 0 where
  pub source_before : ℕ
  pub source_after : ℕ
  pub sink_before : ℕ
  pub sink_after : ℕ
  pub flash_before : ℕ
  pub flash_after : ℕ

-- a status that is planned, with its text and its cause
pub record IsPlanned (r : Row) (counts : Counts) (status : ℕ) (text : List ℕ) : Type 0 where
  pub is_text : IsText r status text
  pub source : FailsAt 6 status counts.source_before counts.source_after
  pub flash : FlashFails r status counts.flash_before counts.flash_after

-- what is printed: the text of the status; or, where the sink failed, a front of the text of a status that was planned
pub record Prints (r : Row) (counts : Counts) (status : ℕ) (old new : Option (List ℕ)) : Type 0 where
  pub sink : FailsAt 5 status counts.sink_before counts.sink_after
  pub whole : status ≢ 5 → (text : List ℕ) × IsPlanned r counts status text × Appends old new text
  pub part : status ≡ 5 → (planned : ℕ) × (text : List ℕ) × IsPlanned r counts planned text × AppendsPart old new text

-- how much is read of a source: no more than one byte more than a script may have, and all of it where a verb that reads is done
pub record ReadsInput (r : Row) (status : ℕ) (old new : Option (List ℕ)) : Type 0 where
  pub most : TakesAtMost most_read old new
  pub whole : IsTrue r.reads → status ≡ 0 → IsAtEnd new

-- what becomes of an image of so many bytes: where all is done, and where a call of the flash failed; it keeps its bytes where it is refused,
-- where its length is another than an image's, and where the call is out of memory
pub record LeavesImage (r : Row) (status size : ℕ) (old new : Option (List ℕ)) : Type 0 where
  pub done : status ≡ 0 → Leaves r.done old new
  pub device : status ≡ 7 → Leaves r.leaves old new
  pub refused : status ≡ 4 → new ≡ old
  pub other_size : size ≢ image_size → new ≡ old
  pub memory : status ≡ 8 → new ≡ old

-- what a call of the program does with its source, its sink and its flash, by what its words ask for (this project's own)
pub record Performs {S K F : Type 0} (left : S → Option (List ℕ)) (read_faults : S → ℕ) (printed : K → Option (List ℕ)) (write_faults : K → ℕ)
    (holds : F → Option (List ℕ)) (size flash_faults moment : F → ℕ) (left_since : F → ℕ → List ℕ → Type 0) (asked : Result Order UsageFault)
    (source source_after : S) (sink sink_after : K) (flash flash_after : F) (status : ℕ) : Type 0 where
  -- what is printed, with the cause of the status; with a report stands what the run leaves of the image
  pub prints : Prints (row asked (told_of holds size flash_faults moment left_since (left source) flash flash_after)) (record {
    source_before = read_faults source;
    source_after = read_faults source_after;
    sink_before = write_faults sink;
    sink_after = write_faults sink_after;
    flash_before = flash_faults flash;
    flash_after = flash_faults flash_after;
  }) status (printed sink) (printed sink_after)
  -- where nothing is to be printed, nothing is written
  pub quiet : (row asked (told_of holds size flash_faults moment left_since (left source) flash flash_after)).prints ≡ false → status ≡ 0
      → sink_after ≡ sink
  -- how much is read: nothing, but by a run, a play, entries or an audit
  pub reads : ReadsInput (row asked (told_of holds size flash_faults moment left_since (left source) flash flash_after)) status (left source) (left source_after)
  pub unread : (row asked (told_of holds size flash_faults moment left_since (left source) flash flash_after)).reads ≡ false → source_after ≡ source
  -- what becomes of the image, and what a power loss may leave of it, unless that is said with the text
  pub leaves : ¬ IsRunOrder asked
      → LeavesImage (row asked (told_of holds size flash_faults moment left_since (left source) flash flash_after)) status (size flash) (holds flash) (holds flash_after)
  pub at_any_moment : ¬ IsRunOrder asked
      → Stays (row asked (told_of holds size flash_faults moment left_since (left source) flash flash_after)).leaves moment left_since holds flash flash_after
  pub unopened : (row asked (told_of holds size flash_faults moment left_since (left source) flash flash_after)).opens ≡ false → flash_after ≡ flash
  pub same_size : size flash_after ≡ size flash

-- no call of what a verb touches failed
pub record IsCalm (r : Row) (counts : Counts) : Type 0 where
  pub source : IsTrue r.reads → ¬ HasRisen counts.source_before counts.source_after
  pub sink : ¬ HasRisen counts.sink_before counts.sink_after
  pub flash : IsTrue r.opens → ¬ HasRisen counts.flash_before counts.flash_after

-- where no call fails, what is accepted is done, and what is refused ends with its refusal, unless the call is out of memory (this project's own)
abbrev pub CallsAreJudged : {F : Type 0} → (F → Option (List ℕ)) → (F → ℕ) → (F → ℕ) → (F → ℕ) → (F → ℕ → List ℕ → Type 0) → Type 0
CallsAreJudged {F} holds size fault_count moment left_since =
    (asked : Result Order UsageFault) (input : Option (List ℕ)) (flash flash_after : F) (counts : Counts) (status : ℕ) (old new : Option (List ℕ))
    → Prints (row asked (told_of holds size fault_count moment left_since input flash flash_after)) counts status old new
    → IsCalm (row asked (told_of holds size fault_count moment left_since input flash flash_after)) counts
    → ((row asked (told_of holds size fault_count moment left_since input flash flash_after)).accepted → (status ≡ 0) ⊎ (status ≡ 8))
    × ((refusal : ℕ) → (row asked (told_of holds size fault_count moment left_since input flash flash_after)).refused refusal
    → (status ≡ refusal) ⊎ (status ≡ 8))
