-- "places past the counts .. are no part of the list": two lists with the same counted places have the same best
-- matches and marks.
use Rattle.std.specs.Prelude.{◌≡◌, ℕ, ◌&&◌}
use Rattle.std.proofs.Math.Path.{ap}
use Rattle.std.proofs.Math.Bool.{not, cond}
use mathlib.Core.List.{List, [], ◌∷◌, ◌++◌}
use Rattle.std.proofs.Math.ListN.{drop}
use Rattle.laws.specs.Lists.{joined, any_of}
use Rattle.run_log.specs.Log.{Log, row_count, row_at}
use Rattle.preference.specs.Same.{Same}
use Rattle.preference.specs.Laws.Counted.{levels_same}
use Rattle.preference.specs.declared.PreferenceList.{PreferenceList}
use Rattle.pareto.specs.Dominance.{dominates}
use Rattle.pareto.specs.Best.{competes, competing, vector_at, row_dominates, is_best, marks_of, marks_after}

module _ (l m : PreferenceList) (s : Same l m) (log : Log) where
  vector_counted : (r : ℕ) → vector_at l log r ≡ vector_at m log r
  unfolding vector_at
  vector_counted r = levels_same l m s (row_at log.values r)

  best_counted : (r : ℕ) → is_best l log r ≡ is_best m log r
  unfolding is_best row_dominates
  best_counted r =
      λ i. competes log r && not (any_of (λ q. dominates (vector_counted q i) (vector_counted r i)) (competing log))

  marks_counted : marks_of l log ≡ marks_of m log
  unfolding marks_of
  marks_counted = λ i. joined (λ r. cond (best_counted r i) 1 0 ∷ []) (row_count log.values)

  pub after_counted : (bytes : List ℕ) → marks_after l log bytes ≡ marks_after m log bytes
  unfolding marks_after
  after_counted bytes = ap (λ (marks : List ℕ). marks ++ drop (row_count log.values) bytes) marks_counted
