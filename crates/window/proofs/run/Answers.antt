use Rattle.std.specs.Prelude.{◌≡◌, length}
use Rattle.std.proofs.Common.{sym}
use Rattle.run_log.specs.Log.{log_of}
use Rattle.pareto.specs.Laws.Call.{leaves_exit, leaves_accepted}
use Rattle.pareto.specs.Laws.Checked.{refused_first, refused_more, by_rows}
use Rattle.window.specs.Engine.{window_refusal}
use Rattle.window.specs.Laws.Accepted.{accepted}
use Rattle.window.proofs.run.Goals.{In_ok-check_rows}
use Rattle.window.proofs.run.Goals as goal

-- the checks have passed
checked : (c : In_ok-check_rows)
    → window_refusal c.args.list (log_of c.args.log.now) (length c.args.marks.now) (length c.args.work.now) c.args.w ≡ 0
unfolding window_refusal
checked c = sym (by_rows _ _ _ _ c.in_ok-check.ensures c.in_ok-check_sizes.ensures c.in_ok-check_rows.ensures)

pub returns-in_err-check-clause-leaves : goal.returns-in_err-check-clause-leaves
unfolding window_refusal
returns-in_err-check-clause-leaves c =
    leaves_exit _ _ _ _ c.from_residual.ensures.1 (refused_first _ _ _ _ c.in_err-check.ensures)

pub returns-in_err-check_sizes-clause-leaves : goal.returns-in_err-check_sizes-clause-leaves
unfolding window_refusal
returns-in_err-check_sizes-clause-leaves c =
    leaves_exit _ _ _ _ c.from_residual-in_err-check_sizes.ensures.1
    (refused_more _ _ _ _ c.in_ok-check.ensures c.in_err-check_sizes.ensures)

pub returns-in_err-check_rows-clause-leaves : goal.returns-in_err-check_rows-clause-leaves
unfolding window_refusal
returns-in_err-check_rows-clause-leaves c =
    leaves_exit _ _ _ _ c.from_residual-in_err-check_rows.ensures.1
    (by_rows _ _ _ _ c.in_ok-check.ensures c.in_ok-check_sizes.ensures c.in_err-check_rows.ensures)

pub run_accepted-requires : goal.run_accepted-requires
run_accepted-requires c = accepted _ _ _ _ _ (checked (goal.at.run_accepted-requires c).In_ok-check_rows)

pub returns : goal.returns
returns c =
    let z = checked (goal.at.returns c).In_ok-check_rows in
    let r = c.run_accepted.ensures in
    record { leaves = leaves_accepted _ _ _ _ z r.0 r.1; work_left = λ h. absurd (h z) }
