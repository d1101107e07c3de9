use Rattle.std.proofs.Common.{arith, length-set}
use Rattle.pareto.specs.Laws.Relation.{same_first, same_second}
use Rattle.window_step.proofs.Compares.{scanning_start, scanning_hit, scanning_more, scanning_some, scanning_none}
use Rattle.window_step.proofs.scanning.Window.scan_rest.Goals as goal

pub loop-at-init : goal.loop-at-init
loop-at-init c =
    let front = c.requires.front_known in
    rw (c.eq-dominates.ensures, same_second)
    (scanning_more (scanning_start c.args.flags.now front) front.is_entry front.relation_is c.requires.front_spared c.requires.room)

pub returns-then-eq : goal.returns-then-eq
returns-then-eq c = scanning_hit c.loop-at.invariant c.loop-at-test.true (grind (arith, same_first))

pub loop-at-preserved : goal.loop-at-preserved
loop-at-preserved c =
    rw (c.eq-dominates-in-loop-at.ensures, same_second)
    (scanning_more c.loop-at.invariant c.loop-at-test.true c.compare-relation.ensures
    (grind (arith, same_first))
    (omega (arith, length-set c.args.flags.now c.args.front.at c.args.front.relation)))

pub returns-then-dominates : goal.returns-then-dominates
returns-then-dominates c = scanning_some c.loop-at.invariant (omega arith) (omega arith)

pub returns-else-dominates : goal.returns-else-dominates
returns-else-dominates c = scanning_none c.loop-at.invariant (omega arith) c.if-dominates.false
