-- The check report of an image (this project's own).
use Rattle.std.specs.Prelude.{ℕ, Bool, true, false, List, [], ◌∷◌, ◌++◌, decimal}
use Rattle.var_types.specs.Census.{census_of}
use Rattle.var_types.specs.Region.{Region}
use Rattle.var_types.specs.declared.work_state.WorkState.{WorkState}
use Rattle.var_types.specs.declared.work_state.WorkState.TheVariants as work
use Rattle.report_text.specs.CheckWord.{check_word_text}
use Rattle.report_text.specs.declared.check.CheckFacts.{CheckFacts}
use Rattle.report_text.specs.declared.check_word.CheckWord.{CheckWord}
use Rattle.report_text.specs.declared.check_word.CheckWord.TheVariants as check
use Rattle.report_text.specs.declared.word.Word.TheVariants as word
use Rattle.report_text.specs.Line.{line_text}
use Rattle.report_text.specs.Word.{word_text}

-- the facts of an image of authenticated records, by the region of its content, what its work area says, and whether its spare is blank (this
-- project's own)
abbrev pub facts_of : Region → WorkState → Bool → CheckFacts
facts_of region work blank =
    let census = census_of region in
    record {
      plain = false;
      work = work;
      blank = blank;
      records = census.records;
      added = census.added;
      transition = census.transition;
      deleted = census.deleted;
      other = census.other;
      variables = census.variables;
      used = census.used;
      clean = census.clean;
    }

-- the form of the records
abbrev pub form_word : Bool → CheckWord
form_word true = check.Plain
form_word false = check.Authenticated

unfoldable pub store_line : Bool → List ℕ
store_line plain = line_text (word_text word.Store ∷ check_word_text (form_word plain) ∷ [])

-- what the work area says: that it was not made yet, how many slots are used, or of which a write is pending
unfoldable pub work_line : WorkState → List ℕ
work_line work.Unclean = line_text (check_word_text check.Work ∷ check_word_text check.Unmade ∷ [])
work_line (work.Clean slots) = line_text (check_word_text check.Work ∷ check_word_text check.Clean ∷ decimal slots ∷ [])
work_line (work.Pending slot) = line_text (check_word_text check.Work ∷ check_word_text check.Pending ∷ decimal slot ∷ [])

-- whether the spare is blank
abbrev pub spare_word : Bool → CheckWord
spare_word true = check.Blank
spare_word false = check.Used

unfoldable pub spare_line : Bool → List ℕ
spare_line blank = line_text (check_word_text check.Spare ∷ check_word_text (spare_word blank) ∷ [])

-- the records by their kind
unfoldable pub records_line : CheckFacts → List ℕ
records_line facts =
    line_text
    (check_word_text check.Records ∷ decimal facts.records ∷ check_word_text check.Added ∷ decimal facts.added ∷ check_word_text check.Transition
    ∷ decimal facts.transition ∷ check_word_text check.Deleted ∷ decimal facts.deleted ∷ check_word_text check.Other ∷ decimal facts.other ∷ [])

-- the variables, the room that they use, and all the room that there is
unfoldable pub room_line : CheckFacts → List ℕ
room_line facts =
    line_text
    (word_text word.Variables ∷ decimal facts.variables ∷ check_word_text check.Used ∷ decimal facts.used ∷ word_text word.Room ∷ decimal 57244 ∷ [])

-- whether all behind the records is erased
abbrev pub tail_word : Bool → CheckWord
tail_word true = check.Clean
tail_word false = check.Dirty

unfoldable pub tail_line : Bool → List ℕ
tail_line clean = line_text (check_word_text check.Tail ∷ check_word_text (tail_word clean) ∷ [])

-- the check report
unfoldable pub check_text : CheckFacts → List ℕ
check_text facts =
    line_text (word_text word.Image ∷ check_word_text check.Ok ∷ [])
    ++ (store_line facts.plain
    ++ (work_line facts.work
    ++ (spare_line facts.blank
    ++ (records_line facts ++ (room_line facts ++ (tail_line facts.clean ++ line_text (word_text word.End ∷ [])))))))
