-- What checks that pass say.
use Rattle.std.specs.Prelude.{◌≡◌, ℕ, ◌≤◌, List, ltb, ℤ}
use Rattle.std.proofs.Common.{sym, length-take-le, ltb-false}
use Rattle.laws.specs.Checks.{◌gives◌, ◌then◌}
use Rattle.laws.specs.Laws.Checks.{gives_none, then_none}
use Rattle.run_log.specs.Log.{log_refusal}
use Rattle.preference.specs.Valid.{list_refusal}
use Rattle.preference.specs.declared.PreferenceList.{PreferenceList}

module _ (l : PreferenceList) (log : List ℤ) (z : 0 ≡ list_refusal l then log_refusal log) where
  pub list_passes : list_refusal l ≡ 0
  list_passes = (then_none _ _ (sym z)).0

  pub log_passes : log_refusal log ≡ 0
  log_passes = (then_none _ _ (sym z)).1

pub rows_fit : (marks rows : ℕ) → 0 ≡ ltb marks rows gives 10 → rows ≤ marks
rows_fit marks rows z = ltb-false marks rows (gives_none _ 9 (sym z))

pub ruleset passing = (list_passes, log_passes, rows_fit, length-take-le)
