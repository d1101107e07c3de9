use Rattle.std.proofs.Common.{◌≡◌}
use Rattle.lattice_nodes.specs.Steps.{stage_edges, updated, entered_byte}
use Rattle.lattice_crossing.proofs.enter_next.Given as goal

-- the edges from the first i nodes are crossed
abbrev pub invariant-loop-i : goal.invariant-loop-i
invariant-loop-i l = l.nodes ≡ updated entered_byte (stage_edges l.w l.initial.nodes l.i) l.initial.nodes
