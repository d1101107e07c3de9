use Rattle.std.specs.Prelude.{◌≡◌, []}
use Rattle.std.proofs.Common.{arith, ap, ◌∙◌}
use Rattle.run_log.specs.Log.{log_of}
use Rattle.pareto.specs.Call.{Call}
use Rattle.refusal.specs.Refusal.{number}
use Rattle.refusal.specs.Laws.Refusal.{number_small, then_err}
use Rattle.selection.specs.Selection.{either_call}
use Rattle.selection.specs.Stream.{program_call}
use Rattle.selection.specs.Laws.Stream.{stream_call}
use Rattle.report.specs.Laws.Report.{unread_text, read_text}
use Rattle.report.proofs.put_report.Goals as goal

pub returns-in-Ok : goal.returns-in-Ok
returns-in-Ok c =
    let s = c.args.stream.now in
    let h = c.in-Ok.ensures in
    let e = stream_call s (λ l rows. either_call l rows 1024) [] _ _ h.refused h.held.0 (ap log_of (c.log.ensures ∙ h.held.1)) in
    record {
      writes = rw (read_text s _ _ h.refused h.held.0 (ap log_of (c.log.ensures ∙ h.held.1))) at c.put_selected.ensures.writes;
      number_bound = omega (arith, ap (λ (x : Call). x.refusal) e, c.put_selected.ensures.max_runs_bound);
    }

pub returns-in-Err : goal.returns-in-Err
returns-in-Err c =
    let s = c.args.stream.now in
    let r = c.in-Err.unread in
    let e = c.in-Err.ensures.refused in
    let k : number r ≡ (program_call s).refusal = then_err r _ _ e in
    record {
      writes = rw (unread_text s r e) at c.put_refusal.ensures;
      number_bound = omega (arith, k, number_small r);
    }
