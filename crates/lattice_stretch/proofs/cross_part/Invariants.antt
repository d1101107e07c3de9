use Rattle.std.proofs.Common.{Ok}
use Rattle.lattice_nodes.specs.Steps.{part_edges}
use Rattle.lattice_stretch.specs.Crossed.{Crosses}
use Rattle.lattice_stretch.proofs.cross_part.Given as goal

-- the edges of the blocks so far are crossed
abbrev pub invariant-loop-block : goal.invariant-loop-block
invariant-loop-block l = Crosses (part_edges l.span l.w l.block) l.initial.budget l.initial.nodes l.nodes (Ok l.budget)
