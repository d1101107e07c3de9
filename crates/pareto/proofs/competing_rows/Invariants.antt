use Rattle.run_log.specs.Log.{log_of}
use Rattle.pareto.specs.Best.{competes}
use Rattle.pareto.specs.Laws.Competing.{Listed}
use Rattle.pareto.proofs.competing_rows.Given as goal

abbrev pub invariant-loop-r : goal.invariant-loop-r
invariant-loop-r l = Listed (competes (log_of l.log)) l.initial.rows l.r l.found l.rows
