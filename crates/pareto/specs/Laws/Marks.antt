-- The lent bytes after an accepted call: the mark of each row, and the rows that they mark.
use Rattle.std.specs.Prelude.{◌≡◌, refl, ℕ, ◌<◌, Bool, true, false, List, [], ◌∷◌, get_or, drop}
use Rattle.std.proofs.Math.Path.{ap}
use Rattle.std.proofs.Common.{◌∙◌, arith}
use Rattle.std.proofs.Math.Bool.{cond}
use Rattle.std.proofs.Math.Dec.{eqb}
use Rattle.std.proofs.Math.ListN.{get_or-append}
use Rattle.laws.specs.Laws.Joined.{joined_cong, singles_at, singles_length}
use Rattle.run_log.specs.Log.{Log, row_count, marked_rows}
use Rattle.preference.specs.declared.PreferenceList.{PreferenceList}
use Rattle.pareto.specs.Best.{is_best, best_matches, mark_at, marks_of, marks_after}

module _ (l : PreferenceList) (log : Log) where
  -- a row's byte is its mark
  pub mark_there : (bytes : List ℕ) (r : ℕ) → r < row_count log.values
      → get_or (marks_after l log bytes) r 0 ≡ mark_at l log r
  unfolding marks_after marks_of
  mark_there bytes r b =
      get_or-append (marks_of l log) (drop (row_count log.values) bytes) 0 r
      (omega (arith, singles_length (mark_at l log) (row_count log.values)))
      ∙ singles_at (mark_at l log) (row_count log.values) r b

  one_best : (t : Bool) → eqb (cond t 1 0) 1 ≡ t
  one_best true = refl
  one_best false = refl

  -- the marked rows are the shortlist
  pub marked_best : (bytes : List ℕ) → marked_rows (marks_after l log bytes) (row_count log.values) ≡ best_matches l log
  unfolding marked_rows best_matches
  marked_best bytes =
      joined_cong (λ r. cond (eqb (get_or (marks_after l log bytes) r 0) 1) (r ∷ []) [])
      (λ r. cond (is_best l log r) (r ∷ []) []) (row_count log.values)
      (λ r b. ap (λ (t : Bool). cond t (r ∷ []) [])
      (ap (λ (k : ℕ). eqb k 1) (mark_there bytes r b) ∙ one_best (is_best l log r)))
