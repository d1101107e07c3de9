use Rattle.std.proofs.Common.{sym, ◌∙◌}
use Rattle.run_log.specs.Log.{log_of}
use Rattle.pareto.specs.Best.{competes}
use Rattle.pareto.proofs.Listing.{has_room, is_filled, listed, left_out, passed}
use Rattle.pareto.proofs.competing_list.Goals as goal
use Rattle.pareto.proofs.competing_list.Goals.{then-row_competes+then-not-is_full, else-row_competes}
use Rattle.pareto.proofs.competing_list.Goals.{else-row_competes-via-then-row_competes+else-not-is_full}
use Rattle.pareto.proofs.competing_list.Goals.{else-row_competes-via-else-row_competes}

pub loop-row-preserved : goal.loop-row-preserved
loop-row-preserved c =
    let l = c.loop-row in
    let p = competes (log_of c.args.log.now) in
    let told = sym c.row_competes.ensures in
    elim c.if-row_competes.branch [
      | then-row_competes+then-not-is_full w ↦
          let room = has_room _ _ 1024 w.is_full.ensures.value w.if-not-is_full.true w.is_full.ensures.fits in
          rw (w.rows-is, w.push.ensures.items) (listed p 1024 l.row _ l.invariant (told ∙ w.if-row_competes.true) room)
      | else-row_competes w ↦
          elim w.else-row_competes.branch [
            | else-row_competes-via-then-row_competes+else-not-is_full w' ↦
                rw w.rows-is (left_out p 1024 l.row _ l.invariant (told ∙ w'.if-row_competes.true)
                (is_filled _ _ 1024 w'.is_full.ensures.value w'.if-not-is_full.false))
            | else-row_competes-via-else-row_competes w' ↦
                rw w.rows-is (passed p 1024 l.row _ l.invariant (told ∙ w'.if-row_competes.false))
          ]
    ]
