-- A call that was accepted, as its contract tells it.
use Rattle.std.specs.Prelude.{ℕ, ◌≡◌, List, length}
use Rattle.laws.specs.Outcome.{accepted}
use Rattle.run_log.specs.Log.{Log}
use Rattle.preference.specs.Same.{Same}
use Rattle.preference.specs.declared.PreferenceList.{PreferenceList}
use Rattle.pareto.specs.Call.{Leaves}
use Rattle.lattice.specs.Engine.{lattice_call}
use Rattle.window.specs.Engine.{window_call}
use Rattle.selection.specs.Stream.{list_in, log_in}
use Rattle.console.specs.Flat.{flat_lattice_call, flat_window_call}

-- on a list and a log, leaving these mark bytes: by either engine, with any buffers, budget or window, or by a flat
-- call on a stream that says the log and, counted places compared, the list
pub data AcceptedCall (l : PreferenceList) (log : Log) (after : List ℕ) : Type 0 where
  by_lattice : (marks : List ℕ) (nodes budget count : ℕ)
      → Leaves (lattice_call l log (length marks) nodes budget) marks (accepted count) after → AcceptedCall l log after
  by_window : (marks : List ℕ) (work w count : ℕ)
      → Leaves (window_call l log (length marks) work w) marks (accepted count) after → AcceptedCall l log after
  by_flat_lattice : (s marks : List ℕ) (budget best : ℕ) → Same (list_in s) l → log_in s ≡ log
      → Leaves (flat_lattice_call s (length marks) budget) marks (accepted best) after → AcceptedCall l log after
  by_flat_window : (s marks : List ℕ) (w best : ℕ) → Same (list_in s) l → log_in s ≡ log
      → Leaves (flat_window_call s (length marks) w) marks (accepted best) after → AcceptedCall l log after
