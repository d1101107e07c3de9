use Rattle.window_entries.proofs.Releasing.{Releasing}
use Rattle.window_entries.proofs.release_older.Given as goal

abbrev pub invariant-loop-i : goal.invariant-loop-i
invariant-loop-i l = Releasing l.timestamp l.occupied l.initial.work l.initial.marks l.work l.marks l.i l.stay
