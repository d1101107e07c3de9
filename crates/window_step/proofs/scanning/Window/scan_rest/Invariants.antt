use Rattle.window_step.proofs.Compares.{Scanning}
use Rattle.window_step.proofs.scanning.Window.scan_rest.Given as goal

abbrev pub invariant-loop-at : goal.invariant-loop-at
invariant-loop-at l = Scanning l.self.table.now l.row l.self.work.now l.self.occupied l.front.at l.flags l.at l.dominates
