use Rattle.std.proofs.Common.{◌*◌, Ok, length}
use Rattle.lattice_nodes.specs.Steps.{trail}
use Rattle.lattice_stretch.specs.Crossed.{Crosses}
use Rattle.lattice_walk.proofs.+walk.Given as goal

-- the number of parts falls
abbrev pub decreases-walk : goal.decreases-walk
decreases-walk l = length l.weights.now

-- the blocks so far are walked
abbrev pub invariant-loop-block : goal.invariant-loop-block
invariant-loop-block l = Crosses (trail l.weights l.initial.nodes (l.block * l.weight)) l.initial.budget l.initial.nodes l.nodes (Ok l.budget)
