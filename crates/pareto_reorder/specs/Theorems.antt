-- Document 01: "Where the rows of a log are put in another order, the mark at a row's new place equals the mark at its
-- old place, whichever engine, window and budget the two accepted calls had." An accepted call of either engine leaves
-- marks_of at the front of the lent bytes (marks_after), whatever its window or its budget.
use Rattle.std.specs.Prelude.{◌≡◌, ℕ, ◌<◌, List, get_or}
use Rattle.run_log.specs.Log.{Log, row_count}
use Rattle.preference.specs.declared.PreferenceList.{PreferenceList}
use Rattle.pareto.specs.Best.{mark_at, marks_of, marks_after}
use Rattle.pareto_reorder.specs.Reordered.{Reordered}
use Rattle.pareto_reorder.specs.Laws.Marks.{mark_same, marks_same, marks_after_same}

-- the mark of a row, wherever it stands
pub reordered_mark : (l : PreferenceList) (log log' : Log) (place origin : ℕ → ℕ) → Reordered log log' place origin
    → (r : ℕ) → r < row_count log.values → mark_at l log' (place r) ≡ mark_at l log r
reordered_mark = mark_same

-- the list of marks, read at a row's new and old place
pub reordered_marks : (l : PreferenceList) (log log' : Log) (place origin : ℕ → ℕ) → Reordered log log' place origin
    → (r : ℕ) → r < row_count log.values → get_or (marks_of l log') (place r) 0 ≡ get_or (marks_of l log) r 0
reordered_marks = marks_same

-- the lent bytes after two accepted calls
pub reordered_bytes : (l : PreferenceList) (log log' : Log) (place origin : ℕ → ℕ) → Reordered log log' place origin
    → (bytes bytes' : List ℕ) (r : ℕ) → r < row_count log.values
    → get_or (marks_after l log' bytes') (place r) 0 ≡ get_or (marks_after l log bytes) r 0
reordered_bytes = marks_after_same
