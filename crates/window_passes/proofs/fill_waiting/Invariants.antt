use Rattle.std.proofs.Common.{◌≡◌, map, take}
use Rattle.window_machine.specs.Machine.{unread}
use Rattle.window_entries.specs.Entries.{entries}
use Rattle.window_passes.proofs.fill_waiting.Given as goal

abbrev pub invariant-loop-i : goal.invariant-loop-i
invariant-loop-i l = entries l.work l.w l.i ≡ map unread (take l.i l.rows)
