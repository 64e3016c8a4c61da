-- Which worlds are reached from an opened book along a page: a world is a book, and the billing ends around it, by name.
use Rattle.std.specs.Prelude.{◌≡◌, ℕ, [], ◌∷◌, Result}
use Rattle.measures.specs.declared.refusal.Refusal.{Refusal}
use Rattle.ledger.specs.Calls.{Opened, Enrols, Notices, SetsBasic, Forms, Enters}
use Rattle.ledger.specs.declared.book.Book.{Book}
use Rattle.journal.specs.Page.{enrol, notice, form, enter, Call, of_unit, basic, of_recovery, AnswerTo, noted, Page}

-- what a call on a book answers and leaves: for each call, just what its contract says
abbrev pub Does : (call : Call) → Book → Result (AnswerTo call) Refusal → Book → Type 0
Does (of_unit unit (enrol given)) b r b' = Enrols b unit given r b'
Does (of_unit unit (notice number day)) b r b' = Notices b unit number day r b'
Does (of_unit unit (form day lines)) b r b' = Forms b unit day lines r b'
Does (basic class rate) b r b' = SetsBasic b class rate r b'
Does (of_recovery (enter kind cents)) b r b' = Enters b kind cents r b'

-- a billing end, by what it shows: the credit of each account, and the most that it takes in one posting now
pub record End : Type 0 where
  pub credit : ℕ → ℕ
  pub reach : ℕ → ℕ

-- the billing ends, each by its name
abbrev pub Ends : Type 0
Ends = ℕ → End

-- at each end, each account has the credit that it had at the start
abbrev pub CreditedAs : (ℕ → ℕ → ℕ) → Ends → Type 0
CreditedAs start ends = (end account : ℕ) → (ends end).credit account ≡ start end account

-- from a book that is opened while the ends have these credits, this book and these ends are reached along this page
pub data Reached (start : ℕ → ℕ → ℕ) : Page → Book → Ends → Type 0 where
  -- at the opening nothing was called yet
  opening : (b : Book) (ends : Ends) → Opened b → CreditedAs start ends → Reached start [] b ends
  -- a call is made, and answered as its contract says
  called : (call : Call) (answer : Result (AnswerTo call) Refusal) (page : Page) (b b' : Book) (ends : Ends)
      → Reached start page b ends → Does call b answer b' → Reached start (noted call answer ∷ page) b' ends
  -- between two calls, reaches may change, and credits do not
  between : (page : Page) (b : Book) (ends ends' : Ends)
      → Reached start page b ends → ((end account : ℕ) → (ends' end).credit account ≡ (ends end).credit account) → Reached start page b ends'

-- a book is reached along the empty page, whatever the ends around it
abbrev pub ReachedAtOnce : Book → Type 0
ReachedAtOnce b = (ends : Ends) → Reached (λ end account. (ends end).credit account) [] b ends
