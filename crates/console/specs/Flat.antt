-- Document 01, "The other calls": the flat calls. Their own node bytes and work list are long enough for every call.
use Rattle.std.specs.Prelude.{ℕ, suc, List, ℤ, pos, negsuc}
use Rattle.limits.specs.Limits.{max_nodes, max_work}
use Rattle.laws.specs.Outcome.{Outcome, accepted, refused}
use Rattle.pareto.specs.Call.{Call, counting}
use Rattle.lattice.specs.Engine.{lattice_call}
use Rattle.window.specs.Engine.{window_call}
use Rattle.selection.specs.Stream.{after_reading}

-- "the result is the number of shortlisted rows, or minus the refusal number"
abbrev pub signed_outcome : ℤ → Outcome ℕ
signed_outcome (pos n) = accepted n
signed_outcome (negsuc k) = refused (suc k)

-- on a stream, with so many mark bytes and a budget
abbrev pub flat_lattice_call : List ℕ → ℕ → ℕ → Call
flat_lattice_call s marks budget = after_reading s (λ l log. counting (lattice_call l log marks max_nodes budget))

-- on a stream, with so many mark bytes and a window's size
abbrev pub flat_window_call : List ℕ → ℕ → ℕ → Call
flat_window_call s marks w = after_reading s (λ l log. counting (window_call l log marks max_work w))
