use Rattle.std.proofs.Common.{◌≡◌}
use Rattle.run_log.specs.Log.{marked_rows}
use Rattle.sheet_pages.proofs.marked_rows.Given as goal

abbrev pub invariant-loop-r : goal.invariant-loop-r
invariant-loop-r l = l.rows.items ≡ marked_rows l.marks l.r
