-- A change of one store, with its entry in the books.
use Rattle.std.specs.Prelude.{ℕ, List, length}
use Rattle.mm_writer.specs.Books.{Enters}
use Rattle.mm_writer.specs.declared.books.Books.{Books}
use Rattle.mm_writer.specs.declared.edit.Edit.{Edit}
use Rattle.mm_writer.specs.declared.prepared.Caller.{Caller}
use Rattle.mm_writer.specs.Edit.{IsEdited}
use Rattle.var_types.specs.declared.call.Call.TheVariants.{Set}
use Rattle.var_types.specs.declared.call.SetCall.{SetCall}
use Rattle.var_types.specs.declared.store.Store.{Store}
use Rattle.var_types.specs.History.{Entry}

-- the entry of a set behind the changes that the books have
abbrev pub entry_by : Caller → SetCall → Books → Entry
entry_by caller call books = record { number = length books.trace.log; processor = caller.processor; index = caller.index; call = Set call }

-- an edit of a store was made, and entered in the books
pub record IsEntered (store : Store) (edit : Edit) (old new : List ℕ) (entry : Entry) (before after : Books) : Type 0 where
  pub edited : IsEdited store edit old new
  pub enters : Enters store old new entry before after
