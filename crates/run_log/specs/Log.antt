-- Document 01, "Runs and records": "A log is a lent list of such numbers, eight to a row, at most 1,024 rows".
use Rattle.std.specs.Prelude.{ℕ, ◌*◌, ◌/◌, ◌%◌, List, not, ◌||◌, get_or, length, take, drop, ltb, eqb, ℤ}
use Rattle.limits.specs.Limits.{columns, max_values}
use Rattle.laws.specs.Checks.{◌gives◌}
use Rattle.laws.specs.First.{any_below}
use Rattle.laws.specs.Lists.{passing}

-- what engines, marks and numbers are said of; a later order adds what else a log says of its rows as a field
pub record Log : Type 0 where
  pub values : List ℤ

-- the log that lent numbers are
abbrev pub log_of : List ℤ → Log
log_of numbers = record { values = numbers }

abbrev pub row_count : List ℤ → ℕ
row_count log = length log / columns

-- one row: "the part of the list that begins at 8 × its number"
abbrev pub row_at : List ℤ → ℕ → List ℤ
row_at log r = take columns (drop (columns * r) log)

-- 10: "log not eights or too long"
unfoldable pub log_refusal : List ℤ → ℕ
log_refusal log = not (eqb (length log % columns) 0) || ltb max_values (length log) gives 10

-- 10: "lent buffer too short": marks shorter than the rows
abbrev pub marks_refusal : List ℤ → ℕ → ℕ
marks_refusal log marks = ltb marks (row_count log) gives 10

-- document 02, orders 1 and 11: "14, a row's mark not 0 or 1"; a mark that is not there reads as 0
unfoldable pub mark_values_refusal : List ℤ → List ℕ → ℕ
mark_values_refusal log marks = any_below (λ r. ltb 1 (get_or marks r 0)) (row_count log) gives 14

-- the rows below n that a byte of 1 marks, in order
unfoldable pub marked_rows : List ℕ → ℕ → List ℕ
marked_rows marks n = passing (λ r. eqb (get_or marks r 0) 1) n
