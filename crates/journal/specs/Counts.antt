-- The ledger of a page: what each accepted call moves into or out of a column, in cents. A refused call moves nothing.
use Rattle.std.specs.Prelude.{◌≡◌, ℕ, ◌+◌, cond, List, [], ◌∷◌, Ok, Err, ◌==◌, sum_by}
use Rattle.recovery.specs.Kinds.{is_costs, is_revenue}
use Rattle.journal.specs.Page.{RecoveryCall, enter, Call, of_unit, basic, of_recovery, AnswerTo, Line, noted, Page}

-- the columns
pub data Column : Type 0 where
  -- all costs ever entered
  costs : Column
  -- the costs that are not yet in the balance
  costs_waiting : Column
  -- all market revenue ever entered
  market_revenue : Column

-- the columns have different numbers
abbrev pub column_number : Column → ℕ
column_number costs = 0
column_number costs_waiting = 1
column_number market_revenue = 2

-- one side of an entry: cents that come into a column or go out of it
pub data Move : Type 0 where
  into : (column : Column) (cents : ℕ) → Move
  out_of : (column : Column) (cents : ℕ) → Move

-- entering costs adds to all costs and to those that wait; entering market revenue adds to market revenue
abbrev pub recovery_moves : RecoveryCall → List Move
recovery_moves (enter kind cents) =
    cond (is_costs kind) (into costs cents ∷ (into costs_waiting cents ∷ [])) (
    cond (is_revenue kind) (into market_revenue cents ∷ []) [])

-- what an accepted call moves
abbrev pub call_moves : (call : Call) → AnswerTo call → List Move
call_moves (of_unit unit call) answer = []
call_moves (basic class rate) answer = []
call_moves (of_recovery call) answer = recovery_moves call

-- what a line moves
abbrev pub moves : Line → List Move
moves (noted call (Ok answer)) = call_moves call answer
moves (noted call (Err refusal)) = []

-- the cents of a move that come into a column
abbrev pub coming_in : Column → Move → ℕ
coming_in column (into other cents) = cond (column_number column == column_number other) cents 0
coming_in column (out_of other cents) = 0

-- the cents of a move that go out of a column
abbrev pub going_out : Column → Move → ℕ
going_out column (into other cents) = 0
going_out column (out_of other cents) = cond (column_number column == column_number other) cents 0

-- all cents that came into a column along a page
abbrev pub came_in : Page → Column → ℕ
came_in [] column = 0
came_in (newest ∷ page) column = sum_by (coming_in column) (moves newest) + came_in page column

-- all cents that went out of a column along a page
abbrev pub went_out : Page → Column → ℕ
went_out [] column = 0
went_out (newest ∷ page) column = sum_by (going_out column) (moves newest) + went_out page column

-- a column's count: what came in, less what went out
abbrev pub Counts : Page → Column → ℕ → Type 0
Counts page column count = came_in page column ≡ went_out page column + count
