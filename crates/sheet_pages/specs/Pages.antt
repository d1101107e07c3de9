-- Document 02, order 1, "Shortlist on the shift sheet": the pages of the marked runs of a log.
use Rattle.std.specs.Prelude.{ℕ, ◌+◌, ◌*◌, cond, List, [], ◌∷◌, ◌++◌, eqb, ℤ, length, take, drop}
use Rattle.laws.specs.Lists.{joined}
use Rattle.arith.specs.Ceil.{ceil_div}
use Rattle.run_log.specs.Log.{row_count, row_at, marked_rows}
use Rattle.sheet_lines.specs.Line.{heading_line, row_line, foot_line}

-- a line for each of some rows
unfoldable pub lines_of : List ℤ → List ℕ → List ℕ
lines_of log [] = []
lines_of log (r ∷ rows) = row_line r (row_at log r) ++ lines_of log rows

-- how many runs a full page has
abbrev pub page_runs : ℕ
page_runs = 50

-- how many pages s runs take; "An empty shortlist still gives one page."
unfoldable pub page_count : ℕ → ℕ
page_count s = cond (eqb s 0) 1 (ceil_div s page_runs)

-- "the next 50 shortlisted runs .. (fewer only on the last page)", pages counted from 0
unfoldable pub page_rows : List ℕ → ℕ → List ℕ
page_rows rows p = take page_runs (drop (page_runs * p) rows)

-- "A page is a heading, the next 50 shortlisted runs .. and a foot line"
unfoldable pub page_of : List ℤ → List ℕ → ℕ → List ℕ
page_of log rows p = heading_line ++ lines_of log (page_rows rows p) ++ foot_line (p + 1) (page_count (length rows))

-- the pages of some rows, one after the other
unfoldable pub pages_of : List ℤ → List ℕ → List ℕ
pages_of log rows = joined (page_of log rows) (page_count (length rows))

-- "shortlisted runs by row number": the rows that the bytes handed in mark
unfoldable pub sheet_of : List ℤ → List ℕ → List ℕ
sheet_of log marks = pages_of log (marked_rows marks (row_count log))
