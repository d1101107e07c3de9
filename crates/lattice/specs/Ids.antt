-- What the engine's own functions promise of weights and node numbers.
use Rattle.std.specs.Prelude.{ℕ, zero, suc, ◌+◌, ◌*◌, ◌<◌, ◌≤◌, min, cond, List, [], ◌∷◌, ◌≡◌, ltb, ℤ, get_or, length, take, drop}
use Rattle.limits.specs.Limits.{columns, max_runs, max_values, max_nodes}
use Rattle.laws.specs.Lists.{joined}
use Rattle.run_log.specs.Log.{Log, row_count, log_refusal}
use Rattle.preference.specs.Valid.{list_refusal}
use Rattle.preference.specs.declared.PreferenceList.{PreferenceList}
use Rattle.pareto.specs.Best.{competes}
use Rattle.pareto.specs.Checked.{rows_refusal}
use Rattle.lattice_nodes.specs.Lattice.{node_count, node_id}
use Rattle.lattice_nodes.specs.Steps.{weights_of}
use Rattle.lattice.specs.Walked.{lattice_tops, lattice_row}

-- an accepted list whose lattice is not too large, and its weights
pub record Weighed (l : PreferenceList) (weights : List ℕ) : Type 0 where
  pub list_accepted : list_refusal l ≡ 0
  pub few : node_count (lattice_tops l) ≤ max_nodes
  pub weights_are : weights ≡ weights_of (lattice_tops l)

-- what the checks leave: a list, the weights of its lattice, and a log
pub record Accepted (l : PreferenceList) (weights : List ℕ) (log : List ℤ) : Type 0 where
  pub weighed : Weighed l weights
  pub log_accepted : log_refusal log ≡ 0
  pub rows_accepted : rows_refusal l log ≡ 0

-- the number of the node of row r's levels
abbrev pub levels_node : PreferenceList → Log → ℕ → ℕ
levels_node l log r = node_id (lattice_tops l) (lattice_row l log r)

-- stands for a node's number where there is none: it is past every lattice
abbrev pub no_node : ℕ
no_node = 65535

-- the number of the node that row r holds; a row that does not compete holds none
unfoldable pub row_node : PreferenceList → Log → ℕ → ℕ
row_node l log r = cond (competes log r) (levels_node l log r) no_node

unfoldable pub row_nodes : PreferenceList → Log → List ℕ
row_nodes l log = joined (λ r. row_node l log r ∷ []) (row_count log.values)

-- the sum of n levels, which stand at a place of a table, each times its weight
unfoldable pub weighed : List ℕ → List ℕ → ℕ → ℕ → ℕ
weighed weights table at zero = 0
weighed weights table at (suc n) = weighed weights table at n + get_or table (at + n) 0 * get_or weights n 0

-- as many levels as there are weights
abbrev pub node_at : List ℕ → List ℕ → ℕ → ℕ
node_at weights table at = weighed weights table at (length weights)

-- the number of the node of row r of a table: its levels in the first plane, and past eight those in the second
unfoldable pub node_by : List ℕ → List ℕ → ℕ → ℕ
node_by weights table r =
    cond (ltb columns (length weights))
    (node_at (take columns weights) table (columns * r) + node_at (drop columns weights) table
    (max_values + columns * r))
    (node_at weights table (columns * r))

-- the number of the node that row r of a table holds; a row that does not compete holds none
unfoldable pub id_by : List ℕ → List ℕ → Log → ℕ → ℕ
id_by weights table log r = cond (competes log r) (node_by weights table r) no_node

-- the numbers for the first n rows of a table
unfoldable pub ids_by : List ℕ → List ℕ → Log → ℕ → List ℕ
ids_by weights table log n = joined (λ r. id_by weights table log r ∷ []) n

-- row r stands in a table, with a level for each weight
pub record Placed (weights table : List ℕ) (r : ℕ) : Type 0 where
  pub near : columns * r + min (length weights) columns ≤ length table
  pub far : columns < length weights → max_values + columns * r + length (drop columns weights) ≤ length table

-- n rows stand in a table, and the numbers of their nodes are small
pub record Tabled (weights table : List ℕ) (n : ℕ) : Type 0 where
  pub few : n ≤ max_runs
  pub inside : (r : ℕ) → r < n → Placed weights table r
  pub small : (r : ℕ) → r < n → node_by weights table r < max_nodes
