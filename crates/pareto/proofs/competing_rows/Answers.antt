use Rattle.std.proofs.Common.{◌≡◌, ◌∙◌, ◌/◌, arith, rules, length}
use Rattle.run_log.specs.Log.{log_of}
use Rattle.pareto.specs.Best.{competes, competing}
use Rattle.pareto.specs.Laws.Competing.{listed_none, listed_one, listed_other}
use Rattle.pareto.proofs.competing_rows.Goals as goal
use Rattle.pareto.proofs.competing_rows.Goals.{then-row_competes, else-row_competes}

pub loop-r-init : goal.loop-r-init
loop-r-init c = listed_none (competes (log_of c.args.log.now)) c.args.rows.now

pub loop-r-preserved : goal.loop-r-preserved
loop-r-preserved c =
    let l = c.loop-r in
    let p = competes (log_of c.args.log.now) in
    elim c.if-row_competes.branch [
      | then-row_competes w ↦ rw (w.found-is, w.rows-is ∙ w.put.ensures) (listed_one p _ l.r l.found l.rows l.invariant (search rules))
      | else-row_competes w ↦ rw (w.found-is, w.rows-is) (listed_other p _ l.r l.found l.rows l.invariant (search rules))
    ]

pub returns : goal.returns
unfolding competing
returns c =
    let l = c.loop-r in
    let e : l.r ≡ length c.args.log.now / 8 = omega arith in
    (l.invariant.counted ∙ rw e, l.invariant.stored ∙ rw e)
