-- The documented number of each refusal, and what an answer of a check or a call stands for.
use Rattle.std.specs.Prelude.{ℕ, Result, Ok, Err}
use Rattle.laws.specs.Outcome.{Outcome, accepted, refused}
use Rattle.refusal.specs.declared.Refusal.{Refusal}
use Rattle.refusal.specs.declared.Refusal.TheVariants.{WishCount, UnknownKind, OutOfPlace, CutShort, Column, Figures}
use Rattle.refusal.specs.declared.Refusal.TheVariants.{TooMuch, OutsideBounds, TooManyNodes, NoRoom, OverBudget}
use Rattle.refusal.specs.declared.Refusal.TheVariants.{NoSuchRow, Shortlisted, NoMark, NoSheetRoom}

-- document 01, "When a number comes back", in its order and with its words; 14 and 15 are document 02's, order 1
abbrev pub number : Refusal → ℕ
-- "no wish, or a count above 8"
number WishCount = 1
-- "unknown kind"
number UnknownKind = 2
-- "record out of place, run before any wish, named value of no LAYERED wish or out of wish order"
number OutOfPlace = 3
-- "record cut short"
number CutShort = 4
-- "column above 7 or taken"
number Column = 5
-- "lo > hi, step 0, z or low..up not inside lo..hi, low > up, a layer outside its range"
number Figures = 6
-- "M above 65,535, a 65th named value, a 1,025th run"
number TooMuch = 7
-- "value outside lo..hi of its wish"
number OutsideBounds = 8
-- "more than 32,768 nodes"
number TooManyNodes = 9
-- "log not eights or too long, lent buffer too short, w not 1 to 1,024"
number NoRoom = 10
-- "budget below the crossings"
number OverBudget = 11
-- "no such row"
number NoSuchRow = 12
-- "row is on the shortlist"
number Shortlisted = 13
-- a mark that is neither 0 nor 1
number NoMark = 14
-- a sheet that is longer than its room
number NoSheetRoom = 15

-- the number that a check or a call is refused by, 0 where it is accepted
abbrev pub refusal_of : {A : Type 0} → Result A Refusal → ℕ
refusal_of (Ok value) = 0
refusal_of (Err r) = number r

-- how a call ends that answers so: with its value, or with the number
abbrev pub outcome_of : {A : Type 0} → Result A Refusal → Outcome A
outcome_of (Ok value) = accepted value
outcome_of (Err r) = refused (number r)
