use mathlib.Core.Path.{◌≡◌}
use Prim.Native.Nat.{◌+◌, ◌/◌}
use lib.ListN.{length}
use Rattle.level_table.specs.Table.{part_at}
use Rattle.level_table.specs.Filled.{with_parts}
use Rattle.level_table.proofs.fill_plane.Given as goal

abbrev pub invariant-loop-k : goal.invariant-loop-k
invariant-loop-k l = l.table ≡ with_parts (λ j. part_at l.list l.log (l.first + j)) l.k (length l.log / 8) l.initial.table
