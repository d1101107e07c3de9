use Rattle.arith.specs.Laws.Gap.{outside_small, gap_small}
use Rattle.arith.specs.Laws.Local.{num}
use Rattle.arith.proofs.outside.Goals as goal

pub overflow_cast-result : goal.overflow_cast-result
overflow_cast-result c =
    let a = c.args in
    let f = c.ranges in
    let m = outside_small a.low a.up a.v 4294967296 (gap_small a.low a.v f.low.sfits f.v.sfits)
    (gap_small a.v a.up f.v.sfits f.up.sfits) (gap_small a.low a.up f.low.sfits f.up.sfits) in
    rw (c.signed_gap.ensures.0, c.signed_gap-2.ensures.0, num a.low f.low.sfits, num a.v f.v.sfits, num a.up f.up.sfits)
    (record { fits = m })
