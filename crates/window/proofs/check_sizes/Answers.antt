use Rattle.std.specs.Prelude.{◌+◌, ◌*◌}
use Rattle.std.proofs.Common.{sym, arith, lt-ltb, le-ltb}
use Rattle.run_log.specs.Log.{row_count}
use Rattle.laws.specs.Laws.Checks.{gives_yes, gives_no}
use Rattle.refusal.specs.Laws.Refusal.{exit, passes, stops, then_err, then_ok}
use Rattle.refusal.specs.declared.Refusal.TheVariants.{NoRoom}
use Rattle.window.specs.Engine.{sizes_refusal}
use Rattle.window.proofs.check_sizes.Goals as goal

pub returns-in_err-check_marks : goal.returns-in_err-check_marks
unfolding sizes_refusal
returns-in_err-check_marks c = exit _ _ _ c.from_residual.ensures.1 (then_err _ _ _ c.in_err-check_marks.ensures)

pub returns-then-w : goal.returns-then-w
unfolding sizes_refusal
returns-then-w c = then_ok _ _ _ c.in_ok-check_marks.ensures (stops NoRoom _ _ c.if-w.true)

pub returns-then-work-row_count : goal.returns-then-work-row_count
unfolding sizes_refusal
returns-then-work-row_count c =
    let a = c.args in
    let m = lt-ltb a.work (2 * (row_count a.log.now + a.w)) (omega (arith, c.row_count.ensures, c.if-work-row_count.true)) in
    then_ok _ _ _ c.in_ok-check_marks.ensures (passes _ _ _ _ c.if-w.false (sym (gives_yes _ 10 m)))

pub returns : goal.returns
unfolding sizes_refusal
returns c =
    let a = c.args in
    let m = le-ltb a.work (2 * (row_count a.log.now + a.w)) (omega (arith, c.row_count.ensures, c.if-work-row_count.false)) in
    then_ok _ _ _ c.in_ok-check_marks.ensures (passes _ _ _ _ c.if-w.false (sym (gives_no _ 10 m)))
