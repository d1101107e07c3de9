use Rattle.std.proofs.Common.{rules}
use Rattle.arith.specs.Laws.Local.{num}
use Rattle.level_table.specs.Filled.{with_part}
use Rattle.level_table.specs.Laws.Part.{with_part_more}
use Rattle.level_table.proofs.fill_column.Goals as goal

pub loop-r-init : goal.loop-r-init
unfolding with_part
loop-r-init g c f h = search rules

pub loop-r-preserved : goal.loop-r-preserved
loop-r-preserved g c f h =
    let l = c.loop-r in
    let v = c.value_at in
    let e = h l.r v.result _ v.ensures v.type_inv (search rules) (rw (num v.result v.type_inv) at c.level_of.ensures) in
    rw (e, l.invariant f h) (with_part_more f c.args.into c.args.table.now l.r)
