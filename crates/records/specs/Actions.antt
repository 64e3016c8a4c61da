-- What one byte does to the record that is being read, by where it stands.
use Rattle.std.specs.Prelude.{ℕ, Bool, cond, ◌==◌}
use Rattle.records.specs.Grammar.{plain_byte, text_byte}
use Rattle.records.specs.declared.action.Mode.{Mode}
use Rattle.records.specs.declared.action.Mode.TheVariants.{Plain, Quoted, Closing, Returned}
use Rattle.records.specs.declared.action.Action.{Action}
use Rattle.records.specs.declared.action.Action.TheVariants.{Keep, OpenQuotes, CloseQuotes, Separate, Return, End, Refuse}

-- the byte's part: of the value, a quote, a comma, the record's end, or none; quotes open only a field that has no byte yet
abbrev pub action_of : Mode → Bool → ℕ → Action
action_of Plain fresh b = cond (b == 44) Separate (cond (b == 13) Return (cond (b == 34) (cond fresh OpenQuotes Refuse) (cond (plain_byte b) (Keep Plain) Refuse)))
action_of Quoted fresh b = cond (b == 34) CloseQuotes (cond (text_byte b) (Keep Quoted) Refuse)
action_of Closing fresh b = cond (b == 34) (Keep Quoted) (cond (b == 44) Separate (cond (b == 13) Return Refuse))
action_of Returned fresh b = cond (b == 10) End Refuse
