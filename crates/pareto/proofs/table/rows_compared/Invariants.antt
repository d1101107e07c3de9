use Rattle.std.proofs.Common.{◌≡◌}
use Rattle.laws.specs.First.{any_below}
use Rattle.pareto.specs.Table.{lower}
use Rattle.pareto.proofs.table.rows_compared.Given as goal

abbrev pub invariant-loop-k : goal.invariant-loop-k
invariant-loop-k l = (l.found.first ≡ any_below (lower l.table l.p l.q) l.k) × (l.found.second ≡ any_below (lower l.table l.q l.p) l.k)
