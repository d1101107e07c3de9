use Rattle.std.proofs.Common.{refl}
use Rattle.lattice_stretch.specs.Laws.Crossing.{exit, cut_off, then_more}
use Rattle.lattice_stretch.proofs.Stretches.{one_more, grows}
use Rattle.lattice_stretch.proofs.cross_part.Goals as goal

pub returns-in_err-budget : goal.returns-in_err-budget
returns-in_err-budget c =
    let more = then_more _ _ _ _ _ c.loop-block.invariant _ _ _ c.in_err-budget.ensures in
    exit _ _ c.from_residual.ensures.1 (cut_off _ _ _ _ _ more refl _ _ _ (grows c.args.span c.args.w c.loop-block.block _ c.loop-block-test.true))

pub loop-block-preserved : goal.loop-block-preserved
loop-block-preserved c = rw one_more (then_more _ _ _ _ _ c.loop-block.invariant _ _ _ c.in_ok-budget.ensures)
