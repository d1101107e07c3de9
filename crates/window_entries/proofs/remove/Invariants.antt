use Rattle.std.proofs.Common.{◌≤◌}
use Rattle.window_entries.specs.Entries.{Test, Flags}
use Rattle.window_entries.proofs.Packed.{Packed}
use Rattle.window_entries.proofs.remove.Given as goal

abbrev pub invariant-loop-i : goal.invariant-loop-i
invariant-loop-i l =
    (l.stay ≤ l.i)
    × ((p : Test) → Flags p l.initial.work l.from l.occupied l.flags → Packed p l.initial.work l.work l.occupied l.i l.stay)
