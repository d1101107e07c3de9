use Rattle.std.proofs.Common.{◌≡◌, take}
use Rattle.lattice_nodes.specs.Steps.{updated, held_byte}
use Rattle.lattice_marks.proofs.hold.Given as goal

-- the nodes of the rows so far are held
abbrev pub invariant-loop-id : goal.invariant-loop-id
invariant-loop-id l = l.nodes ≡ updated held_byte (take l.id-index l.ids) l.initial.nodes
