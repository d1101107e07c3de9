use Rattle.std.specs.Prelude.{ℕ, List, replicate}
use Rattle.std.proofs.Common.{arith}
use Rattle.output.specs.Laws.Stored.{writes_then}
use Rattle.pareto.specs.Laws.Call.{refused_leaves, accepted_leaves}
use Rattle.refusal.specs.Laws.Refusal.{number_small}
use Rattle.report.specs.Laws.Report.{refused_text_lem, listed_text}
use Rattle.report.proofs.put_selected.Goals as goal

abbrev zeros : List ℕ
zeros = replicate 1024 0

pub returns-in-Ok : goal.returns-in-Ok
returns-in-Ok c =
    let t = c.in-Ok.ensures in
    record {
      writes =
          rw (← listed_text _ zeros _ _ t)
          (rw (c.row_count-rows.ensures, c.from.ensures) at (writes_then c.put_head.ensures c.put_lines.ensures));
      max_runs_bound = omega (arith, (accepted_leaves _ zeros _ _ t).0);
    }

pub returns-in-Err : goal.returns-in-Err
returns-in-Err c =
    let t = c.in-Err.ensures in
    record {
      writes =
          rw (← refused_text_lem _ zeros _ _ t) c.put_refusal.ensures;
      max_runs_bound = omega (arith, (refused_leaves _ zeros _ _ t).0, number_small c.in-Err.refusal);
    }
