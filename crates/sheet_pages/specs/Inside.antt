-- Definitions that functions inside the crate are about; nothing that the call's contract says rests on them.
use Rattle.std.specs.Prelude.{ℕ, ◌+◌, ◌-◌, cond, List, [], ◌∷◌, ltb, eqb, get_or}
use Rattle.sheet_pages.specs.Pages.{page_runs}

-- what row r adds to the marked rows
abbrev pub picked : List ℕ → ℕ → List ℕ
picked marks r = cond (eqb (get_or marks r 0) 1) (r ∷ []) []

-- where the runs of the page end that begins with run number from, of s
unfoldable pub page_end : ℕ → ℕ → ℕ
page_end from s = cond (ltb (s - from) page_runs) s (from + page_runs)
