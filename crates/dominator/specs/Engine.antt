-- Which run beat a row: the call's checks in order, and what it answers.
use Rattle.std.specs.Prelude.{◌≡◌, ℕ, ◌<◌, true, leb, Result, Ok, Err}
use Rattle.laws.specs.Checks.{◌gives◌, ◌then◌}
use Rattle.run_log.specs.Log.{Log, row_count}
use Rattle.preference.specs.declared.PreferenceList.{PreferenceList}
use Rattle.pareto.specs.Best.{row_dominates, is_best}
use Rattle.pareto.specs.Checked.{checked_refusal}
use Rattle.refusal.specs.Refusal.{number}
use Rattle.refusal.specs.declared.Refusal.{Refusal}

-- the checks that engines share; 12: no such row; 13: the row is on the shortlist itself
unfoldable pub dominator_refusal : PreferenceList → Log → ℕ → ℕ
dominator_refusal l log row =
    checked_refusal l log 0 then leb (row_count log.values) row gives 12 then is_best l log row gives 13

-- a row of the shortlist that betters the asked one; which one is free
pub record Beaten (l : PreferenceList) (log : Log) (row s : ℕ) : Type 0 where
  pub accepted : dominator_refusal l log row ≡ 0
  pub is_row : s < row_count log.values
  pub shortlisted : is_best l log s ≡ true
  pub betters : row_dominates l log s row ≡ true

-- the first number that the checks give, which is none where it is 0
pub record RefusedBy (l : PreferenceList) (log : Log) (row k : ℕ) : Type 0 where
  pub refusal : k ≡ dominator_refusal l log row
  pub some : k ≡ 0 → ⊥

-- what a call answers: a row exactly where the checks give no number
unfoldable pub Answered : PreferenceList → Log → ℕ → Result ℕ Refusal → Type 0
Answered l log row (Ok s) = Beaten l log row s
Answered l log row (Err r) = RefusedBy l log row (number r)
