use Rattle.std.proofs.Common.{◌≡◌, take}
use Rattle.laws.specs.Lists.{passing}
use Rattle.run_log.specs.Log.{log_of}
use Rattle.pareto.specs.Best.{competes}
use Rattle.pareto.proofs.competing_list.Given as goal

-- the rows so far that compete, as many as find room
abbrev pub invariant-loop-row : goal.invariant-loop-row
invariant-loop-row l = l.rows.items ≡ take 1024 (passing (competes (log_of l.log)) l.row)
