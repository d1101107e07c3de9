-- Document 01, "The other calls": choosing the shortlisted rows of a list and a log, by an engine that brings its own
-- work space.
use Rattle.std.specs.Prelude.{ℕ, cond, List, [], ◌∷◌, eqb, length, get_or}
use Rattle.limits.specs.Limits.{max_nodes, enough_budget, max_work, program_window}
use Rattle.run_log.specs.Log.{Log}
use Rattle.preference.specs.declared.PreferenceList.{PreferenceList}
use Rattle.pareto.specs.Best.{best_matches}
use Rattle.pareto.specs.Call.{Call}
use Rattle.lattice.specs.Engine.{lattice_refusal}
use Rattle.window.specs.Engine.{window_refusal}

-- "the lattice engine with budget 262,144, or the window engine with w 64 where refusal 9 would come"
unfoldable pub either_refusal : PreferenceList → Log → ℕ → ℕ
either_refusal l log marks =
    cond (eqb (lattice_refusal l log marks max_nodes enough_budget) 9)
    (window_refusal l log marks max_work program_window)
    (lattice_refusal l log marks max_nodes enough_budget)

-- a call with so many mark bytes; the value due is the number of shortlisted rows
abbrev pub either_call : PreferenceList → Log → ℕ → Call
either_call l log marks =
    record { list = l; log = log; refusal = either_refusal l log marks; value = length (best_matches l log) }

-- what row r adds to the number of marked rows
abbrev pub one : List ℕ → ℕ → ℕ
one marks r = length (cond (eqb (get_or marks r 0) 1) (r ∷ []) [])
