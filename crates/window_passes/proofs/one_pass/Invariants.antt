use Rattle.window_passes.proofs.Passing.{Passing}
use Rattle.window_passes.proofs.one_pass.Given as goal

abbrev pub invariant-loop-i : goal.invariant-loop-i
invariant-loop-i l = Passing l.n l.initial.machine l.machine l.i
