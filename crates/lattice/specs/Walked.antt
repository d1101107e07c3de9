-- The lattice that the engine walks: its greatest levels, and the level vectors that hold its nodes. Everything that a
-- call promises of nodes, bytes, crossings and their bound is said of this lattice.
use Rattle.std.specs.Prelude.{ℕ, List, map}
use Rattle.run_log.specs.Log.{Log}
use Rattle.preference.specs.Parts.{max_levels}
use Rattle.preference.specs.declared.PreferenceList.{PreferenceList}
use Rattle.pareto.specs.Best.{competing, vector_at}

-- "Nodes are all combinations of levels": the greatest level of each part
unfoldable pub lattice_tops : PreferenceList → List ℕ
lattice_tops l = max_levels l

-- the vector of row r in it
unfoldable pub lattice_row : PreferenceList → Log → ℕ → List ℕ
lattice_row l log r = vector_at l log r

-- the vectors of the competing rows in it
unfoldable pub lattice_rows : PreferenceList → Log → List (List ℕ)
lattice_rows l log = map (lattice_row l log) (competing log)
