use Rattle.std.specs.Prelude.{◌≤◌}
use Rattle.test_record_trials.proofs.damage.values.Given as goal

abbrev pub invariant-loop-value : goal.invariant-loop-value
invariant-loop-value l = l.differing ≤ l.value
