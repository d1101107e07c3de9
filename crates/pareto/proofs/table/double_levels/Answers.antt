use Rattle.std.proofs.Common.{◌∙◌}
use Rattle.pareto.proofs.Looks.{double_past, double_seen, near_tells}
use Rattle.pareto.proofs.table.double_levels.Goals as goal

pub returns-then-rows-a : goal.returns-then-rows-a
returns-then-rows-a c = double_past _ _ _ _ c.then-rows-a.either c.default.ensures

pub returns-then-near : goal.returns-then-near
returns-then-near c = near_tells _ _ _ _ c.if-rows-a.false c.if-rows-b.false c.rows_compared-near.ensures c.if-near.true

pub returns : goal.returns
returns c =
    let near = c.rows_compared-near.ensures in
    let far = c.rows_compared.ensures in
    double_seen _ _ _ _ c.if-rows-a.false c.if-rows-b.false (c.or.ensures.0 ∙ rw (near.0, far.0)) (c.or.ensures.1 ∙ rw (near.1, far.1))
