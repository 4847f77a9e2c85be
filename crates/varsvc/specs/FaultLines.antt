use Rattle.std.specs.Prelude.{ℕ, List, [], ◌∷◌, decimal}
use Rattle.flash_dev.specs.declared.image_fault.ImageFault.{ImageFault}
use Rattle.flash_dev.specs.declared.image_fault.ImageFault.TheVariants as image
use Rattle.script_text.specs.declared.play_fault.PlayFault.{PlayFault}
use Rattle.script_text.specs.declared.play_fault.PlayFault.TheVariants as play
use Rattle.script_text.specs.declared.script_fault.ScriptFault.{ScriptFault}
use Rattle.script_text.specs.declared.script_fault.ScriptFault.TheVariants as script
use Rattle.script_text.specs.declared.line_reason.LineReason.{LineReason}
use Rattle.script_text.specs.declared.line_reason.LineReason.TheVariants as reason
use Rattle.varsvc.specs.declared.words.usage.UsageFault.{UsageFault}
use Rattle.varsvc.specs.declared.words.usage.UsageFault.TheVariants as usage
use Rattle.report_text.specs.declared.word.Word.{Word}
use Rattle.report_text.specs.declared.word.Word.TheVariants as word
use Rattle.report_text.specs.Line.{line_text}
use Rattle.report_text.specs.Word.{word_text}

-- the line that there is no memory
unfoldable pub memory_line : List ℕ
memory_line = line_text (word_text word.No ∷ word_text word.Memory ∷ [])

-- the line for a failed read of the input
unfoldable pub input_line : List ℕ
input_line = line_text (word_text word.Input ∷ word_text word.Fault ∷ [])

-- the line for a failed call of the flash
unfoldable pub device_line : List ℕ
device_line = line_text (word_text word.Device ∷ word_text word.Fault ∷ [])

-- the line for a refused image (this project's own)
unfoldable pub image_line : ImageFault → List ℕ
image_line (image.ImageSize have want) = line_text (word_text word.Image ∷ word_text word.Size ∷ decimal have ∷ decimal want ∷ [])
image_line (image.NotAVolume at) = line_text (word_text word.Image ∷ word_text word.Volume ∷ decimal at ∷ [])
image_line (image.BlockSize value) = line_text (word_text word.Image ∷ word_text word.Block ∷ decimal value ∷ [])
image_line (image.BadSum sum) = line_text (word_text word.Image ∷ word_text word.Sum ∷ decimal sum ∷ [])
image_line (image.NotAStore at) = line_text (word_text word.Image ∷ word_text word.Store ∷ decimal at ∷ [])
image_line image.Device = device_line

-- the line for an image of foreign work (this project's own)
unfoldable pub foreign_line : List ℕ
foreign_line = line_text (word_text word.Image ∷ word_text word.ForeignWork ∷ [])

-- the line for refused words (this project's own)
unfoldable pub usage_line : UsageFault → List ℕ
usage_line usage.NoVerb = line_text (word_text word.Usage ∷ word_text word.NoVerb ∷ [])
usage_line usage.UnknownVerb = line_text (word_text word.Usage ∷ word_text word.UnknownVerb ∷ [])
usage_line (usage.Dash at) = line_text (word_text word.Usage ∷ word_text word.Dash ∷ decimal at ∷ [])
usage_line (usage.Missing want have) = line_text (word_text word.Usage ∷ word_text word.Missing ∷ decimal want ∷ decimal have ∷ [])
usage_line (usage.Extra at) = line_text (word_text word.Usage ∷ word_text word.Extra ∷ decimal at ∷ [])
usage_line usage.Number = line_text (word_text word.Usage ∷ word_text word.Number ∷ [])
usage_line usage.OutOfMemory = memory_line

-- the word of a line's reason
abbrev pub reason_word : LineReason → Word
reason_word reason.Text = word.Text
reason_word reason.Processor = word.Processor
reason_word reason.Verb = word.Verb
reason_word reason.Words = word.Words
reason_word reason.Guid = word.Guid
reason_word reason.Name = word.Name
reason_word reason.Number = word.Number
reason_word reason.Hex = word.Hex
reason_word reason.Verdict = word.Verdict
reason_word reason.Schedule = word.Schedule

-- the line for a refused script (this project's own)
unfoldable pub script_line : ScriptFault → List ℕ
script_line (script.Line number reason) =
    line_text (word_text word.Script ∷ word_text word.Line ∷ decimal number ∷ word_text (reason_word reason) ∷ [])
script_line (script.TooLong bytes) = line_text (word_text word.Script ∷ word_text word.Bytes ∷ decimal bytes ∷ [])
script_line (script.TooManyCalls processor limit) =
    line_text (word_text word.Script ∷ word_text word.Calls ∷ decimal processor ∷ decimal limit ∷ [])
script_line script.OutOfMemory = memory_line

-- the line for a refused script with a schedule (this project's own)
unfoldable pub play_line : PlayFault → List ℕ
play_line (play.Line number reason) = script_line (script.Line number reason)
play_line (play.TooLong bytes) = script_line (script.TooLong bytes)
play_line (play.TooManyCalls processor limit) = script_line (script.TooManyCalls processor limit)
play_line play.OutOfMemory = script_line script.OutOfMemory
play_line (play.Actor line) = line_text (word_text word.Script ∷ word_text word.Line ∷ decimal line ∷ word_text word.Actor ∷ [])
