-- The fixed words of the check report (this project's own).
use Rattle.std.specs.Prelude.{ℕ, List, codes}
use Rattle.report_text.specs.declared.check_word.CheckWord.{CheckWord}
use Rattle.report_text.specs.declared.check_word.CheckWord.TheVariants as word

-- the characters of a word of the check report
unfoldable pub check_word_text : CheckWord → List ℕ
check_word_text word.Ok = codes "ok"
check_word_text word.Authenticated = codes "authenticated"
check_word_text word.Plain = codes "plain"
check_word_text word.Work = codes "work"
check_word_text word.Unmade = codes "unmade"
check_word_text word.Clean = codes "clean"
check_word_text word.Pending = codes "pending"
check_word_text word.Spare = codes "spare"
check_word_text word.Blank = codes "blank"
check_word_text word.Used = codes "used"
check_word_text word.Records = codes "records"
check_word_text word.Added = codes "added"
check_word_text word.Transition = codes "transition"
check_word_text word.Deleted = codes "deleted"
check_word_text word.Other = codes "other"
check_word_text word.Tail = codes "tail"
check_word_text word.Dirty = codes "dirty"
