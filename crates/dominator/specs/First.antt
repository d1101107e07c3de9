-- The search: the first row of the shortlist that dominates the asked one.
use Rattle.std.specs.Prelude.{◌≡◌, ℕ, ◌<◌, ◌≤◌, Bool, not, ◌&&◌, cond, ltb, List, [], ◌∷◌}
use Rattle.limits.specs.Limits.{max_runs}
use Rattle.laws.specs.First.{first_at}
use Rattle.laws.specs.Lists.{any_of}
use Rattle.run_log.specs.Log.{Log, row_count}
use Rattle.preference.specs.Valid.{list_refusal}
use Rattle.preference.specs.declared.PreferenceList.{PreferenceList}
use Rattle.pareto.specs.Best.{row_dominates, is_best}
use Rattle.pareto.specs.Checked.{rows_refusal}
use Rattle.pareto.specs.Table.{first_dominates, compared}

-- row s is on the shortlist and betters row r
abbrev pub best_dominates : PreferenceList → Log → ℕ → ℕ → Bool
best_dominates l log r s = is_best l log s && row_dominates l log s r

-- the first such row; the number of rows where there is none
unfoldable pub first_dominator : PreferenceList → Log → ℕ → ℕ
first_dominator l log row = first_at (best_dominates l log row) (row_count log.values)

-- the same, and `none` where there is none
abbrev pub dominator_or : PreferenceList → Log → ℕ → ℕ → ℕ
dominator_or l log row none =
    cond (ltb (first_dominator l log row) (row_count log.values)) (first_dominator l log row) none

-- what the checks leave
pub record RowAsked (l : PreferenceList) (log : Log) (row : ℕ) : Type 0 where
  pub list : list_refusal l ≡ 0
  pub values : rows_refusal l log.values ≡ 0
  pub few : row_count log.values ≤ max_runs
  pub is_row : row < row_count log.values

-- ---- the search in a table and a list of its rows

-- row s of a table dominates row r
abbrev pub beats : List ℕ → ℕ → ℕ → Bool
beats table s r = first_dominates (compared table s r)

-- row s dominates row r, and no row of the list dominates s
unfoldable pub best_beats : List ℕ → List ℕ → ℕ → ℕ → Bool
best_beats table rows r s = beats table s r && not (any_of (λ q. beats table q s) rows)

-- the first row of a list with a property, or `none`
unfoldable pub first_of : (ℕ → Bool) → List ℕ → ℕ → ℕ
first_of p [] none = none
first_of p (s ∷ rows) none = cond (p s) s (first_of p rows none)
