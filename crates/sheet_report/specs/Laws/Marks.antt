-- The marks that an engine leaves: 10 and 14 do not come, and the sheet is that of the shortlist.
use Rattle.std.specs.Prelude.{◌≡◌, refl, ℕ, ◌≤◌, Bool, true, false, cond, List, length, get_or}
use Rattle.std.proofs.Math.Path.{ap}
use Rattle.std.proofs.Common.{◌∙◌, le-ltb}
use Rattle.std.proofs.Math.Dec.{ltb}
use Rattle.laws.specs.Laws.Checks.{gives_no, then_next}
use Rattle.laws.specs.Laws.First.{none_any}
use Rattle.run_log.specs.Log.{Log, row_count, log_refusal, marks_refusal, mark_values_refusal}
use Rattle.preference.specs.declared.PreferenceList.{PreferenceList}
use Rattle.pareto.specs.Best.{is_best, best_matches, marks_after}
use Rattle.pareto.specs.Laws.Marks.{mark_there, marked_best}
use Rattle.sheet_pages.specs.Pages.{pages_of, sheet_of}
use Rattle.sheet_pages.specs.Call.{handed_refusal}

module _ (l : PreferenceList) (log : Log) (bytes : List ℕ) where
  -- the sheet has the shortlist
  pub sheet_of_best : sheet_of log.values (marks_after l log bytes) ≡ pages_of log.values (best_matches l log)
  unfolding sheet_of
  sheet_of_best = ap (pages_of log.values) (marked_best l log bytes)

  is_mark : (t : Bool) → ltb 1 (cond t 1 0) ≡ false
  is_mark true = refl
  is_mark false = refl

  pub best_marks : mark_values_refusal log.values (marks_after l log bytes) ≡ 0
  unfolding mark_values_refusal
  best_marks =
      gives_no _ 14
      (none_any (λ r. ltb 1 (get_or (marks_after l log bytes) r 0)) (row_count log.values)
      (λ r b. ap (λ (k : ℕ). ltb 1 k) (mark_there l log bytes r b) ∙ is_mark (is_best l log r)))

  -- where the log is accepted and there are bytes enough
  pub best_handed : log_refusal log.values ≡ 0 → row_count log.values ≤ length (marks_after l log bytes)
      → handed_refusal log.values (marks_after l log bytes) ≡ 0
  unfolding handed_refusal
  best_handed z h =
      then_next (log_refusal log.values) _ z
      ∙ then_next (marks_refusal log.values (length (marks_after l log bytes))) _ (gives_no _ 10 (le-ltb _ _ h))
      ∙ best_marks
