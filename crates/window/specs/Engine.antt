-- Document 01, "Window machine": the window engine's call over a list and a log.
use Rattle.std.specs.Prelude.{ℕ, ◌+◌, ◌*◌, ◌≤◌, ◌≡◌, ◌||◌, List, ltb, eqb}
use Rattle.limits.specs.Limits.{max_window}
use Rattle.laws.specs.Checks.{◌gives◌, ◌then◌}
use Rattle.run_log.specs.Log.{Log, row_count, marks_refusal}
use Rattle.preference.specs.Valid.{list_refusal}
use Rattle.preference.specs.declared.PreferenceList.{PreferenceList}
use Rattle.pareto.specs.Best.{competing, row_dominates}
use Rattle.pareto.specs.Call.{Call}
use Rattle.pareto.specs.Checked.{rows_refusal, checked_refusal}
use Rattle.window_machine.specs.Machine.{State, machine}

-- 10: "lent buffer too short, w not 1 to 1,024", the work list "at least 2 × (rows + w) numbers"
unfoldable pub sizes_refusal : Log → ℕ → ℕ → ℕ → ℕ
sizes_refusal log marks work w =
    marks_refusal log.values marks then
    eqb w 0 || ltb max_window w gives 10 then
    ltb work (2 * (row_count log.values + w)) gives 10

-- the number of a call, from the lengths of its marks and its work list
unfoldable pub window_refusal : PreferenceList → Log → ℕ → ℕ → ℕ → ℕ
window_refusal l log marks work w = checked_refusal l log (sizes_refusal log marks work w)

-- the machine on a log
unfoldable pub machine_of : PreferenceList → Log → ℕ → State
machine_of l log w = machine (row_dominates l log) w (competing log) (row_count log.values)

-- a call with so many mark bytes and numbers in the work list; the value due is the machine's count
abbrev pub window_call : PreferenceList → Log → ℕ → ℕ → ℕ → Call
window_call l log marks work w =
    record { list = l; log = log; refusal = window_refusal l log marks work w; value = (machine_of l log w).count }

-- the work list before and after a call: "Nothing lent changes on a refusal"; it "is free after an accepted call"
abbrev pub WorkLeft : Call → List ℕ → List ℕ → Type 0
WorkLeft c work work' = (c.refusal ≡ 0 → ⊥) → work' ≡ work

-- what a call that no check refuses has
pub record Runnable (l : PreferenceList) (log : Log) (marks work w : ℕ) : Type 0 where
  pub list : list_refusal l ≡ 0
  pub values : rows_refusal l log.values ≡ 0
  pub few : row_count log.values ≤ 1024
  pub marked : row_count log.values ≤ marks
  pub some : 1 ≤ w
  pub narrow : w ≤ 1024
  pub room : 2 * (row_count log.values + w) ≤ work
