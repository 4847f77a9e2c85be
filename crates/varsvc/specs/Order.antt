use Rattle.std.specs.Prelude.{◌≡◌, ℕ, ◌+◌, ◌==◌, Bool, true, false, List, [], ◌∷◌, codes, position, if◌then◌else◌, map, string_bytes, String, Option, Some, None, Result, Ok, Err, IsOk}
use Rattle.std.specs.declared.alloc.Global.{Global}
use Rattle.varsvc.specs.declared.words.order.Order.{Order}
use Rattle.varsvc.specs.declared.words.order.Order.TheVariants as order
use Rattle.varsvc.specs.declared.words.usage.UsageFault.{UsageFault}
use Rattle.varsvc.specs.declared.words.usage.UsageFault.TheVariants as usage
use Rattle.varsvc.specs.declared.words.verb.Verb.{Verb}
use Rattle.varsvc.specs.declared.words.verb.Verb.TheVariants as verb
use Rattle.varsvc.specs.Number.{number_of}
use lib.Pointwise.{pointwise}

-- whether a word begins with a dash
abbrev pub is_dashed : List ℕ → Bool
is_dashed [] = false
is_dashed (c ∷ cs) = c == 45

-- the verb of a word
abbrev pub verb_of : List ℕ → Option Verb
verb_of word =
    if pointwise ◌==◌ word (codes "run") then Some verb.Run
    else if pointwise ◌==◌ word (codes "play") then Some verb.Play
    else if pointwise ◌==◌ word (codes "list") then Some verb.List
    else if pointwise ◌==◌ word (codes "check") then Some verb.Check
    else if pointwise ◌==◌ word (codes "format") then Some verb.Format
    else if pointwise ◌==◌ word (codes "make") then Some verb.Make
    else if pointwise ◌==◌ word (codes "work") then Some verb.Work
    else if pointwise ◌==◌ word (codes "entries") then Some verb.Entries
    else if pointwise ◌==◌ word (codes "audit") then Some verb.Audit
    else None

-- the number that is wanted, or that none was read (this project's own)
abbrev pub number_read : Option ℕ → Result ℕ UsageFault
number_read None = Err usage.Number
number_read (Some number) = Ok number

abbrev pub wanted_number : List ℕ → Result ℕ UsageFault
wanted_number word = number_read (number_of word)

-- an order by the number that is wanted
abbrev pub numbered : (ℕ → Order) → Result ℕ UsageFault → Result Order UsageFault
numbered order (Ok number) = Ok (order number)
numbered order (Err fault) = Err fault

-- the order of a verb with the word behind it: an image, or a number; some take none (this project's own)
abbrev pub order_with : Verb → List ℕ → Result Order UsageFault
order_with verb.Run image = Ok (order.Run image)
order_with verb.Play word = Err (usage.Extra 1)
order_with verb.List image = Ok (order.List image)
order_with verb.Check image = Ok (order.Check image)
order_with verb.Format image = Ok (order.Format image)
order_with verb.Make number = numbered order.Make (wanted_number number)
order_with verb.Work number = numbered order.Work (wanted_number number)
order_with verb.Entries word = Err (usage.Extra 1)
order_with verb.Audit image = Ok (order.Audit image)

-- the image that an order is about, if it is about one
abbrev pub image_of : Order → Option (List ℕ)
image_of (order.Run image) = Some image
image_of order.Play = None
image_of (order.List image) = Some image
image_of (order.Check image) = Some image
image_of (order.Format image) = Some image
image_of (order.Make number) = None
image_of (order.Work number) = None
image_of order.Entries = None
image_of (order.Audit image) = Some image

-- the words behind a verb that takes one alone
abbrev pub one_operand : Verb → List (List ℕ) → Result Order UsageFault
one_operand verb [] = Err (usage.Missing 1 0)
one_operand verb (word ∷ []) = order_with verb word
one_operand verb (word ∷ extra ∷ more) = Err (usage.Extra 2)

-- whether a verb takes a word: a play and the printing of entries take none (this project's own)
abbrev pub takes_word : Verb → Bool
takes_word verb.Play = false
takes_word verb.Entries = false
takes_word _ = true

-- the order of a verb that takes no word
abbrev pub bare_order : Verb → Order
bare_order verb.Entries = order.Entries
bare_order _ = order.Play

-- the words behind a verb that takes none
abbrev pub no_operand : Verb → List (List ℕ) → Result Order UsageFault
no_operand verb [] = Ok (bare_order verb)
no_operand verb (word ∷ more) = Err (usage.Extra 1)

-- the words behind a verb: one alone, or none (this project's own)
abbrev pub operand_order : Verb → List (List ℕ) → Result Order UsageFault
operand_order verb words = if takes_word verb then one_operand verb words else no_operand verb words

-- the words behind a verb, the first of which with a dash is at this place
abbrev pub dashed_order : Verb → List (List ℕ) → Option ℕ → Result Order UsageFault
dashed_order verb words None = operand_order verb words
dashed_order verb words (Some at) = Err (usage.Dash (at + 1))

-- the words behind a verb, of which none may begin with a dash
unfoldable pub verb_order : Verb → List (List ℕ) → Result Order UsageFault
verb_order verb words = dashed_order verb words (position is_dashed words)

-- the words behind a first one, if that is a verb
abbrev pub first_order : Option Verb → List (List ℕ) → Result Order UsageFault
first_order None words = Err usage.UnknownVerb
first_order (Some verb) words = verb_order verb words

-- what the words of the command line ask for, or the first refusal: no verb, an unknown verb, a later word that begins with a dash, too
-- few words, too many, a word that is no number where one is wanted (this project's own)
unfoldable pub order_of : List (List ℕ) → Result Order UsageFault
order_of [] = Err usage.NoVerb
order_of (verb ∷ words) = first_order (verb_of verb) words

-- a refusal is the one that the words have; the reading is out of memory only where they are accepted
abbrev pub IsUsage : UsageFault → Result Order UsageFault → Type 0
IsUsage usage.OutOfMemory read = IsOk read
IsUsage usage.NoVerb read = read ≡ Err usage.NoVerb
IsUsage usage.UnknownVerb read = read ≡ Err usage.UnknownVerb
IsUsage (usage.Dash at) read = read ≡ Err (usage.Dash at)
IsUsage (usage.Missing want have) read = read ≡ Err (usage.Missing want have)
IsUsage (usage.Extra at) read = read ≡ Err (usage.Extra at)
IsUsage usage.Number read = read ≡ Err usage.Number

-- what was returned is what the words ask for, but out of memory
abbrev pub GivesOrder : Result Order UsageFault → Result Order UsageFault → Type 0
GivesOrder (Ok order) read = read ≡ Ok order
GivesOrder (Err e) read = IsUsage e read

-- the words ask to run a script
abbrev pub IsRunOrder : Result Order UsageFault → Type 0
IsRunOrder read = (image : List ℕ) × (read ≡ Ok (order.Run image))

-- what the words of the command line ask for, as the program is given them
abbrev pub asked : List (String Global) → Result Order UsageFault
asked words = order_of (map (string_bytes {Z = Global}) words)
