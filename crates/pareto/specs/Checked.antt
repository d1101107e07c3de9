-- Document 01, "When a number comes back": the checks that the engines share, "log, marks, w and work list 10; 8".
use Rattle.std.specs.Prelude.{ℕ, List, ℤ}
use Rattle.laws.specs.Checks.{◌then◌}
use Rattle.laws.specs.First.{first_refusal}
use Rattle.run_log.specs.Log.{Log, row_count, row_at, log_refusal}
use Rattle.preference.specs.Valid.{list_refusal}
use Rattle.preference.specs.Parts.{row_refusal}
use Rattle.preference.specs.declared.PreferenceList.{PreferenceList}

-- 8: a value of a row outside lo..hi of its wish
unfoldable pub rows_refusal : PreferenceList → List ℤ → ℕ
rows_refusal l log = first_refusal (λ r. row_refusal l (row_at log r)) (row_count log)

-- the list, the log, what a call adds under 10, then 8
unfoldable pub checked_refusal : PreferenceList → Log → ℕ → ℕ
checked_refusal l log more = list_refusal l then log_refusal log.values then more then rows_refusal l log.values
