use Rattle.std.proofs.Common.{◌*◌, Ok}
use Rattle.lattice_nodes.specs.Steps.{trail}
use Rattle.lattice_stretch.specs.Crossed.{Crosses}
use Rattle.lattice_walk.proofs.walk_rows.Given as goal

-- the rows so far are walked
abbrev pub invariant-loop-row : goal.invariant-loop-row
invariant-loop-row l = Crosses (trail l.weights l.initial.nodes (l.row * l.weight)) l.initial.budget l.initial.nodes l.nodes (Ok l.budget)
