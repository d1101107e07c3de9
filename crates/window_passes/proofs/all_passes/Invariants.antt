use Rattle.std.proofs.Common.{◌-◌}
use Rattle.window_passes.proofs.Running.{Running}
use Rattle.window_passes.proofs.all_passes.Given as goal

abbrev pub invariant-loop-pass : goal.invariant-loop-pass
invariant-loop-pass l = Running l.n l.fuel l.initial.machine l.machine (l.fuel - l._pass) l.waiting
