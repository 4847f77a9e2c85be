use Rattle.std.specs.Prelude.{ℕ, []}
use Rattle.image_make.specs.Generated.{generated_calls, script_calls}
use Rattle.report_text.specs.declared.summary.Summary.{Summary}
use Rattle.report_text.specs.Summary.{summary_from}
use Rattle.var_types.specs.State.{start}

-- what the calls of the script of a number come to where no variable was, of at most 4,000 changes (this project's own)
unfoldable pub work_summary : ℕ → Summary
work_summary number = summary_from (start [] script_calls) (generated_calls number)
