use Rattle.refusal.specs.Laws.Refusal.{number_small}
use Rattle.sheet_report.specs.Laws.Report.{printed_text, refused_printed}
use Rattle.sheet_report.proofs.report.Goals as goal

pub returns-in-Ok : goal.returns-in-Ok
returns-in-Ok c =
    let a = c.args in
    let e = printed_text a.stream.now a.out.now _ _ c.in-Ok.ensures in
    record { puts = e.0; upper_bound = e.1 }

pub returns-in-Err : goal.returns-in-Err
returns-in-Err c =
    let a = c.args in
    let e = refused_printed a.stream.now a.out.now _ _ _ _ (number_small c.in-Err.refusal) c.in-Err.ensures c.print_refused.ensures in
    record { puts = e.0; upper_bound = e.1 }
