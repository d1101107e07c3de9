use Rattle.std.proofs.Common.{◌≡◌, ℕ, ◌<◌, get_or}
use Rattle.lattice_nodes.specs.Steps.{byte_mark}
use Rattle.lattice_marks.proofs.write_marks.Given as goal

-- the marks of the rows so far are written
abbrev pub invariant-loop-r : goal.invariant-loop-r
invariant-loop-r l = (k : ℕ) → k < l.r → get_or l.marks k 0 ≡ byte_mark (get_or l.nodes (get_or l.ids k 0) 0)
