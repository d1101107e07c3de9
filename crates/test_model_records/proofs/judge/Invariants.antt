use Rattle.std.proofs.Common.{◌≤◌, length}
use Rattle.test_model_records.proofs.judge.Given as goal

abbrev pub invariant-loop-kind : goal.invariant-loop-kind
invariant-loop-kind l = length l.rest ≤ length l.stream

abbrev pub decreases-loop-kind : goal.decreases-loop-kind
decreases-loop-kind l = length l.rest
