use Rattle.std.specs.Prelude.{ℕ, ◌≡◌, List, replicate, length}
use Rattle.std.proofs.Common.{rules}
use Rattle.std.proofs.lemmas.List.{length-replicate}
use Rattle.selection.specs.Laws.Exit.{exit}
use Rattle.run_log.specs.Log.{log_of}
use Rattle.refusal.specs.Refusal.{outcome_of}
use Rattle.sheet_report.specs.Laws.Report.{selected_refused, selected_printed}
use Rattle.sheet_report.proofs.print_selected.Goals as goal

abbrev zeros : List ℕ
zeros = replicate 1024 0

long : length zeros ≡ 1024
long = length-replicate {A = ℕ} 1024 0

pub returns-in_err-by_either : goal.returns-in_err-by_either
returns-in_err-by_either c =
    let a = c.args in
    let e = selected_refused a.list (log_of a.log.now) zeros c.by_either.new.marks a.out.now long _ c.in_err-by_either.ensures in
    rw (exit c.from_residual.result _ c.from_residual.ensures.1) e

pub returns : goal.returns
returns c =
    let a = c.args in
    let after = c.by_either.new.marks in
    selected_printed a.list (log_of a.log.now) zeros after a.out.now long _ (outcome_of c.print.result) _ (search rules) c.in_ok-by_either.ensures
    c.print.ensures
