use Rattle.pareto.proofs.Looks.{plane_past, plane_seen}
use Rattle.pareto.proofs.table.plane_levels.Goals as goal

pub returns-then-rows-a : goal.returns-then-rows-a
returns-then-rows-a c = plane_past _ _ _ _ c.then-rows-a.either c.default.ensures

pub returns : goal.returns
returns c = plane_seen _ _ _ _ c.if-rows-a.false c.if-rows-b.false c.rows_compared.ensures
