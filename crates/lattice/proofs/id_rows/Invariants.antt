use Rattle.std.proofs.Common.{◌≡◌}
use Rattle.run_log.specs.Log.{log_of}
use Rattle.lattice.specs.Ids.{ids_by}
use Rattle.lattice.proofs.id_rows.Given as goal

-- the numbers of the rows so far
abbrev pub invariant-loop-r : goal.invariant-loop-r
invariant-loop-r l = l.ids.items ≡ ids_by l.weights l.table (log_of l.log) l.r
