use Rattle.std.proofs.Common.{◌≡◌, ◌-◌}
use Rattle.window_machine.specs.Machine.{marked}
use Rattle.window_entries.specs.Entries.{entries}
use Rattle.window_passes.proofs.release_all.Given as goal

abbrev pub invariant-loop-i : goal.invariant-loop-i
invariant-loop-i l = marked (entries l.work l.i (l.occupied - l.i)) l.marks ≡ marked (entries l.work 0 l.occupied) l.initial.marks
