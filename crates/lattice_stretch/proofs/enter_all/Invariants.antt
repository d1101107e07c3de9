use Rattle.std.proofs.Common.{◌≡◌, ◌++◌, map, take, drop}
use Rattle.lattice_nodes.specs.Steps.{entered_byte}
use Rattle.lattice_stretch.proofs.enter_all.Given as goal

abbrev pub invariant-loop-b : goal.invariant-loop-b
invariant-loop-b l = l.nodes ≡ map entered_byte (take l.b-index l.initial.nodes) ++ drop l.b-index l.initial.nodes
