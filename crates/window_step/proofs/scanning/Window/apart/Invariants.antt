use Rattle.window_step.specs.Work.{table_dominates}
use Rattle.window_step.specs.Scans.{Apart}
use Rattle.window_step.proofs.scanning.Window.apart.Given as goal

abbrev pub invariant-loop-at : goal.invariant-loop-at
invariant-loop-at l = Apart (table_dominates l.self.table.now) l.row l.self.work.now l.self.occupied l.at
