use mathlib.Core.Path.{sym, ap, subst, ◌∙◌}
use mathlib.Core.List.{List}
use Prim.Native.Nat.{ℕ}
use lib.ListN.{length, take}
use lib.Seq.{length-take-le}
use Rattle.output.specs.Puts.{Puts}
use Rattle.sheet_report.specs.Sheet.{sheet_report}
use Rattle.sheet_report.specs.Laws.Report.{text_for_all, report_cut}
use Rattle.sheet.proofs.sheet_front.Goals as goal

pub slice_bounds-report-end : goal.slice_bounds-report-end
slice_bounds-report-end c = sym (length-take-le c.args.n c.args.buffer.now c.requires.1)

pub returns : goal.returns
returns c =
    let front = take c.args.n c.args.buffer.now in record {
      sheet_front = λ stream e.
          subst (λ (text : List ℕ). Puts c.args.out.now c.report.new.out 0 c.report.result text)
          (text_for_all front (length c.args.out.now) c.requires.2
          ∙ ap sheet_report e
          ∙ report_cut (length c.args.buffer.now) stream c.requires.0)
          c.report.ensures.puts;
      upper_bound = c.report.ensures.upper_bound;
    }
