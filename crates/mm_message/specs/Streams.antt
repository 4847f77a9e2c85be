-- Streams of request messages, and what reading and writing them says of any bytes and of every message.
use Rattle.std.specs.Prelude.{◌≡◌, ◌⊎◌, ℕ, ◌≤◌, false, List, [], ◌∷◌, ◌++◌, length}
use Rattle.mm_message.specs.declared.taken.Taken.{Taken}
use Rattle.mm_message.specs.declared.taken.Taken.TheVariants.{Request, More, Fault, OutOfMemory}
use Rattle.mm_message.specs.Messages.{Takes, is_request, left_by, taken_in}
use Rattle.mm_message.specs.Spellings.{Fits, spelling}
use Rattle.var_types.specs.declared.call.Call.{Call}
use Rattle.var_types.specs.Values.{AreBytes}

-- a message: whose call it is, and the call
pub record Message : Type 0 where
  pub processor : ℕ
  pub call : Call

-- messages that bytes can spell
abbrev pub AllFit : List Message → Type 0
AllFit [] = Unit {0}
AllFit (m ∷ messages) = Fits m.processor m.call × AllFit messages

-- the bytes of messages, one behind the other
abbrev pub spellings : List Message → List ℕ
spellings [] = []
spellings (m ∷ messages) = spelling m.processor m.call ++ spellings messages

-- what is done with an inbox: a feed, of which this front of the piece was taken in, and a take with what it gave
pub data Act : Type 0 where
  fed : List ℕ → Act
  took : Taken → Act

-- these acts, one after the other, go from these bytes in the inbox to those
abbrev pub Acts : List ℕ → List Act → List ℕ → Type 0
Acts held [] end = held ≡ end
Acts held (fed front ∷ acts) end = AreBytes front × Acts (held ++ front) acts end
Acts held (took taken ∷ acts) end = Takes taken (taken_in held) × Acts (left_by taken held) acts end

-- all bytes that were fed
abbrev pub all_fed : List Act → List ℕ
all_fed [] = []
all_fed (fed front ∷ acts) = front ++ all_fed acts
all_fed (took taken ∷ acts) = all_fed acts

-- the message that a take gave, before others
abbrev pub with_message : Taken → List Message → List Message
with_message (Request processor call) messages = record { processor = processor; call = call } ∷ messages
with_message More messages = messages
with_message (Fault fault) messages = messages
with_message OutOfMemory messages = messages

-- all messages that were taken, in order
abbrev pub all_taken : List Act → List Message
all_taken [] = []
all_taken (fed front ∷ acts) = all_taken acts
all_taken (took taken ∷ acts) = with_message taken (all_taken acts)

-- an inbox keeps all: what was fed is the spellings of what was taken, in order, and the bytes that are left, however it was cut
abbrev pub InboxKeepsAll : Type 0
InboxKeepsAll =
    (held end : List ℕ) (acts : List Act) → AreBytes held → Acts held acts end
    → (held ++ all_fed acts ≡ spellings (all_taken acts) ++ end) × AllFit (all_taken acts)

-- a message and its bytes, both ways: its spelling is taken as the message, whatever follows, and leaves what follows
abbrev pub MessagesReadBack : Type 0
MessagesReadBack =
    (processor : ℕ) (call : Call) (rest : List ℕ) → Fits processor call
    → (taken_in (spelling processor call ++ rest) ≡ Request processor call) × (left_by (Request processor call) (spelling processor call ++ rest) ≡ rest)

-- a message that is taken fits, and its spelling stood at the front
abbrev pub TakenAreSpelled : Type 0
TakenAreSpelled =
    (bytes : List ℕ) (processor : ℕ) (call : Call) → AreBytes bytes → taken_in bytes ≡ Request processor call
    → Fits processor call × (bytes ≡ spelling processor call ++ left_by (Request processor call) bytes)

-- no message's spelling is the front of another's, and no two have one
abbrev pub NoSpellingBeginsAnother : Type 0
NoSpellingBeginsAnother =
    (m n : Message) (rest : List ℕ) → Fits m.processor m.call → Fits n.processor n.call
    → spelling m.processor m.call ++ rest ≡ spelling n.processor n.call → (m ≡ n) × (rest ≡ [])

-- these messages are the longest list that bytes begin with, of no more than a limit, and this is what follows
pub record IsLongest (limit : ℕ) (bytes : List ℕ) (messages : List Message) (rest : List ℕ) : Type 0 where
  pub spelled : bytes ≡ spellings messages ++ rest
  pub fit : AllFit messages
  pub few : length messages ≤ limit
  pub last : (length messages ≡ limit) ⊎ (is_request (taken_in rest) ≡ false)

-- there is one longest list
abbrev pub LongestIsOne : Type 0
LongestIsOne =
    (limit : ℕ) (bytes : List ℕ) (messages others : List Message) (rest left : List ℕ) → IsLongest limit bytes messages rest
    → IsLongest limit bytes others left → (messages ≡ others) × (rest ≡ left)

-- the same bytes, fed in other pieces and taken at other times until no more can be taken, give the same messages and leave the same bytes
abbrev pub PiecesDontMatter : Type 0
PiecesDontMatter =
    (acts others : List Act) (end left : List ℕ) → Acts [] acts end → Acts [] others left → all_fed acts ≡ all_fed others
    → is_request (taken_in end) ≡ false → is_request (taken_in left) ≡ false → (all_taken acts ≡ all_taken others) × (end ≡ left)
