-- Which replies a text of records gets, and what they make of the account table.
use Rattle.std.specs.Prelude.{◌≡◌, ℕ, ◌+◌, ◌<◌, ◌≤◌, List, [], ◌∷◌, ◌++◌, length, drop, Some, None, Option, Ok, Err, Result}
use Rattle.std.specs.Option.{option_to_list}
use Rattle.measures.specs.declared.refusal.Refusal.TheVariants.{NoCall}
use Rattle.ends.specs.declared.table.AccountTable.{AccountTable}
use Rattle.records.specs.Grammar.{Record, FirstFault}
use Rattle.records.specs.Readers.{Taken}
use Rattle.records.specs.declared.fault.Fault.{Fault}
use Rattle.records.specs.declared.reader.Event.{Event}
use Rattle.desk.specs.Calls.{call_in, word_of}
use Rattle.desk.specs.Carrying.{Carries}
use Rattle.desk.specs.Replies.{unread, refusal_of}
use Rattle.desk.specs.declared.call.Call.{Call}
use Rattle.desk.specs.declared.service.Desk.{Desk}
use Rattle.desk.specs.declared.service.Turn.{Turn}
use Rattle.desk.specs.declared.service.Turn.TheVariants.{More, Reply as Answer, End}
use Rattle.desk.specs.declared.reply.Reply.{Reply}

-- the reply to a call, or to a record that asks for none, which leaves the table as it was
abbrev pub RepliedTo : Option Call → AccountTable → Reply → AccountTable → Type 0
RepliedTo None t reply t' = (reply ≡ unread NoCall) × (t' ≡ t)
RepliedTo (Some call) t reply t' = (reply.word ≡ Some (word_of call)) × Carries call t reply.answer t'

-- the reply to a record of these fields
abbrev pub Replied : List (List ℕ) → AccountTable → Reply → AccountTable → Type 0
Replied fields t reply t' = RepliedTo (call_in fields) t reply t'

-- the replies to a text, one for each record and one for a fault, which ends them, and the table that they leave
pub data Served : AccountTable → List ℕ → List Reply → AccountTable → Type 0 where
  over : {t : AccountTable} → Served t [] [] t
  next : {t t₁ t' : AccountTable} {text rest : List ℕ} {fields : List (List ℕ)} {reply : Reply} {replies : List Reply}
      → Record text fields rest → Replied fields t reply t₁ → Served t₁ rest replies t' → Served t text (reply ∷ replies) t'
  broken : {t : AccountTable} {text : List ℕ} {place : ℕ} {fault : Fault} → FirstFault text place fault → Served t text (unread (refusal_of fault) ∷ []) t

-- the replies that a desk owes to what it has taken in of a record and the text that is to come, and the table that they leave
abbrev pub Serves : Desk → List ℕ → List Reply → AccountTable → Type 0
Serves d text replies t = (p : List ℕ) → Taken d.reader p → Served d.table (p ++ text) replies t

-- what a part of a text does, whatever was taken in before it and whatever text comes after it
pub data TurnOn (e : Desk) (part : List ℕ) (r : Turn) (f : Desk) : Type 0 where
  -- all of it is taken in, and no record ends in it
  onward : r ≡ More → f.table ≡ e.table → ((p : List ℕ) → Taken e.reader p → Taken f.reader (p ++ part)) → TurnOn e part r f
  -- a record ends with what is used of it, and is replied to
  replied : (used : ℕ) (reply : Reply) (fields : List (List ℕ)) → r ≡ Answer used reply → 0 < used → used ≤ length part → Taken f.reader []
      → Replied fields e.table reply f.table
      → ((p : List ℕ) → Taken e.reader p → (rest : List ℕ) → Record (p ++ (part ++ rest)) fields (drop used part ++ rest)) → TurnOn e part r f
  -- a fault of the text lies in it
  faulty : (fault : Fault) (used : ℕ) → r ≡ End (unread (refusal_of fault)) → f.reader.status ≡ Err fault → f.table ≡ e.table → used < length part
      → ((p : List ℕ) → Taken e.reader p → (rest : List ℕ) → FirstFault (p ++ (part ++ rest)) (length p + used) fault) → TurnOn e part r f

-- what the end of the text does
pub data EndOn (e : Desk) (r : Option Reply) (f : Desk) : Type 0 where
  -- it comes between two records
  between : r ≡ None → f.table ≡ e.table → ((p : List ℕ) → Taken e.reader p → p ≡ []) → EndOn e r f
  -- it ends a record, which is replied to
  last : (reply : Reply) (fields : List (List ℕ)) → r ≡ Some reply → Replied fields e.table reply f.table
      → ((p : List ℕ) → Taken e.reader p → Record p fields []) → EndOn e r f
  -- it comes too soon
  cut_off : (fault : Fault) → r ≡ Some (unread (refusal_of fault)) → f.reader.status ≡ Err fault → f.table ≡ e.table
      → ((p : List ℕ) → Taken e.reader p → FirstFault p (length p) fault) → EndOn e r f

-- after a fault of the text the desk stays as it is, and replies the same again
abbrev pub TurnsAs : Result Event Fault → Desk → List ℕ → Turn → Desk → Type 0
TurnsAs (Ok v) e part r f = TurnOn e part r f
TurnsAs (Err fault) e part r f = (r ≡ End (unread (refusal_of fault))) × (f ≡ e)

abbrev pub EndsAs : Result Event Fault → Desk → Option Reply → Desk → Type 0
EndsAs (Ok v) e r f = EndOn e r f
EndsAs (Err fault) e r f = (r ≡ Some (unread (refusal_of fault))) × (f ≡ e)

abbrev pub Turns : Desk → List ℕ → Turn → Desk → Type 0
Turns e part r f = TurnsAs e.reader.status e part r f

abbrev pub Ends : Desk → Option Reply → Desk → Type 0
Ends e r f = EndsAs e.reader.status e r f

-- the replies that are owed to a part of a text and to what comes after it are the reply to the part, and those that the desk then owes
abbrev pub Continues : Desk → List ℕ → Turn → Desk → Type 0
Continues e part More f = (rest : List ℕ) (replies : List Reply) (t : AccountTable) → Serves f rest replies t → Serves e (part ++ rest) replies t
Continues e part (Answer used reply) f = (rest : List ℕ) (replies : List Reply) (t : AccountTable) → Serves f (drop used part ++ rest) replies t → Serves e (part ++ rest) (reply ∷ replies) t
Continues e part (End reply) f = (rest : List ℕ) → Serves e (part ++ rest) (reply ∷ []) f.table

-- the replies that are owed at the end of the text
abbrev pub Concludes : Desk → Option Reply → Desk → Type 0
Concludes e r f = Serves e [] (option_to_list r) f.table

-- a record that ends in a part of so many bytes uses some of them
abbrev pub Within : ℕ → Turn → Type 0
Within n More = Unit {0}
Within n (Answer used reply) = (0 < used) × (used ≤ n)
Within n (End reply) = Unit {0}
