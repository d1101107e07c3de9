use Rattle.std.proofs.Common.{ap, ◌∙◌}
use Rattle.selection.specs.Laws.Exit.{exit}
use Rattle.run_log.specs.Log.{log_of}
use Rattle.refusal.specs.Refusal.{outcome_of}
use Rattle.sheet_report.specs.Laws.Report.{unread_left, read_left}
use Rattle.sheet_report.proofs.print.Goals as goal

pub returns-in_err-held : goal.returns-in_err-held
returns-in_err-held c =
    let a = c.args in
    rw (exit c.from_residual.result _ c.from_residual.ensures.1) (unread_left a.stream.now a.out.now _ c.in_err-held.ensures.refused)

pub returns : goal.returns
returns c =
    let a = c.args in
    let h = c.in_ok-held.ensures in
    let log = ap log_of (c.log.ensures ∙ h.held.1) in
    read_left a.stream.now a.out.now _ _ (outcome_of c.print_selected.result) _ h.refused h.held.0 log c.print_selected.ensures
