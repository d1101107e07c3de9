use mathlib.Core.Path.{sym, ap, subst, ◌∙◌}
use mathlib.Core.List.{List}
use Prim.Native.Nat.{ℕ}
use lib.ListN.{length}
use lib.Seq.{length-take-le}
use Rattle.report.specs.Report.{Reported, report_of}
use Rattle.report.specs.Laws.Cut.{report_cut}
use Rattle.shortlist.proofs.report_front.Goals as goal

pub slice_bounds-report-end : goal.slice_bounds-report-end
slice_bounds-report-end c = sym (length-take-le c.args.n c.args.buffer.now c.requires.1)

pub returns : goal.returns
returns c =
    record {
      reports_front = λ stream e.
          subst (λ (text : List ℕ). Reported c.args.out.now c.report.new.out c.report.result text)
          (ap report_of e ∙ report_cut (length c.args.buffer.now) stream c.requires.0) c.report.ensures;
      upper_bound = c.report.ensures.short;
    }
