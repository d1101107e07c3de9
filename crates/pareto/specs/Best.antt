-- Best matches (000, Def. 19; document 01: the shortlist) and marks.
use Rattle.std.specs.Prelude.{◌≡◌, ℕ, ◌<◌, Bool, true, not, ◌&&◌, cond, List, [], ◌∷◌, ◌++◌, map, drop}
use Rattle.laws.specs.Lists.{joined, passing, any_of}
use Rattle.run_log.specs.Log.{Log, row_count, row_at}
use Rattle.preference.specs.Parts.{levels}
use Rattle.preference.specs.declared.PreferenceList.{PreferenceList}
use Rattle.pareto.specs.Dominance.{dominates, Pareto}

-- "Every run competes."
unfoldable pub competes : Log → ℕ → Bool
competes log r = true

-- the competing rows, in order
unfoldable pub competing : Log → List ℕ
competing log = passing (competes log) (row_count log.values)

-- the level vector of row r, for every number: values past the log read as 0
unfoldable pub vector_at : PreferenceList → Log → ℕ → List ℕ
vector_at l log r = levels l (row_at log.values r)

-- the level vectors of the competing rows
unfoldable pub vectors : PreferenceList → Log → List (List ℕ)
vectors l log = map (vector_at l log) (competing log)

unfoldable pub row_dominates : PreferenceList → Log → ℕ → ℕ → Bool
row_dominates l log s r = dominates (vector_at l log s) (vector_at l log r)

-- "The shortlist is the rows that no row betters.": it competes, and no competing row dominates it
unfoldable pub is_best : PreferenceList → Log → ℕ → Bool
is_best l log r = competes log r && not (any_of (λ s. row_dominates l log s r) (competing log))

-- 000, Def. 19: it competes, and no competing row is better in the sense of Def. 15
pub record BestMatch (l : PreferenceList) (log : Log) (r : ℕ) : Type 0 where
  pub takes_part : competes log r ≡ true
  pub undominated : (s : ℕ) → s < row_count log.values → competes log s ≡ true
      → Pareto (vector_at l log s) (vector_at l log r) → ⊥

-- the shortlist: the rows that are best matches, in order
unfoldable pub best_matches : PreferenceList → Log → List ℕ
best_matches l log = passing (is_best l log) (row_count log.values)

-- "A mark is one byte per row, 1 for shortlisted, 0 not."
abbrev pub mark_at : PreferenceList → Log → ℕ → ℕ
mark_at l log r = cond (is_best l log r) 1 0

unfoldable pub marks_of : PreferenceList → Log → List ℕ
marks_of l log = joined (λ r. mark_at l log r ∷ []) (row_count log.values)

-- the lent bytes after an accepted call: "Bytes past the rows .. are unchanged."
unfoldable pub marks_after : PreferenceList → Log → List ℕ → List ℕ
marks_after l log marks = marks_of l log ++ drop (row_count log.values) marks
