-- The numbers of the nodes of a log's rows.
use Rattle.std.specs.Prelude.{◌≡◌, refl, ℕ, ◌+◌, ◌≤◌, List, [], ◌∷◌, ◌++◌, ℤ, length}
use Rattle.std.proofs.Common.{add-one}
use Rattle.laws.specs.Lists.{joined}
use Rattle.laws.specs.Laws.Joined.{singles_length}
use Rattle.run_log.specs.Log.{Log, log_of, row_count}
use Rattle.run_log.specs.Laws.Log.{accepted}
use Rattle.preference.specs.declared.PreferenceList.{PreferenceList}
use Rattle.level_table.specs.Table.{table_of}
use Rattle.lattice.specs.Ids.{Accepted, row_node, row_nodes, id_by, ids_by, Tabled}
use Rattle.lattice.specs.Laws.Ids.{rows_tabled, rows_numbered}

module _ (weights table : List ℕ) (log : Log) where
  pub none_numbered : ids_by weights table log 0 ≡ []
  unfolding ids_by joined
  none_numbered = refl

  pub one_numbered : (r : ℕ) → ids_by weights table log (r + 1) ≡ ids_by weights table log r ++ (id_by weights table log r ∷ [])
  unfolding ids_by joined
  one_numbered r = rw (add-one r)

  pub numbers_long : (n : ℕ) → length (ids_by weights table log n) ≡ n
  unfolding ids_by
  numbers_long n = singles_length (id_by weights table log) n

pub nodes_long : (l : PreferenceList) (log : List ℤ) → length (row_nodes l (log_of log)) ≡ row_count log
unfolding row_nodes
nodes_long l log = singles_length (row_node l (log_of log)) (row_count log)

-- of an accepted log
module _ {l : PreferenceList} {weights : List ℕ} {log : List ℤ} (a : Accepted l weights log) where
  few : row_count log ≤ 1024
  few = (accepted log a.log_accepted).few

  pub in_table : Tabled weights (table_of l log) (row_count log)
  in_table = rows_tabled l (log_of log) weights a.weighed a.rows_accepted few

  pub by_table : ids_by weights (table_of l log) (log_of log) (row_count log) ≡ row_nodes l (log_of log)
  unfolding ids_by
  by_table = rows_numbered l (log_of log) weights a.weighed a.rows_accepted few

pub ruleset numbers = (none_numbered, one_numbered, numbers_long)
