use Rattle.std.proofs.Common.{◌≡◌}
use Rattle.lattice.specs.Ids.{weighed}
use Rattle.lattice.proofs.node_at.Given as goal

abbrev pub invariant-loop-k : goal.invariant-loop-k
invariant-loop-k l = l.sum ≡ weighed l.weights l.table l.at l.k
