use Rattle.std.proofs.Common.{◌≡◌, ◌≤◌, drop, reverse}
use Rattle.limits.specs.Limits.{max_nodes}
use Rattle.lattice_nodes.specs.Lattice.{node_count}
use Rattle.lattice_nodes.specs.Steps.{weights_of}
use Rattle.lattice.specs.Walked.{lattice_tops}
use Rattle.lattice.proofs.weigh.Given as goal

-- the weights of the parts from i on, the last first, and the number of nodes over them
abbrev pub invariant-loop-i : goal.invariant-loop-i
invariant-loop-i l =
    record {
      weights_are : l.weights.items ≡ reverse (weights_of (drop l.i (lattice_tops l.list)));
      nodes_are : l.nodes ≡ node_count (drop l.i (lattice_tops l.list));
      small : l.nodes ≤ max_nodes;
    }
