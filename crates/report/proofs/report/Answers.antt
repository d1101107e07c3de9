use Rattle.std.proofs.Common.{rules}
use Rattle.output.specs.Laws.Stored.{writes_prints}
use Rattle.report.specs.Laws.Report.{text_reported}
use Rattle.report.proofs.report.Goals as goal

pub returns : goal.returns
returns c =
    let p = rw (c.new-text.ensures.bytes, c.new-text.ensures.start) at (writes_prints c.put_report.ensures.writes c.new-text.ensures.limit) in
    let r = text_reported c.args.stream.now (λ i. (c.type_inv.stream i).fits) c.put_report.ensures.number_bound p in
    record { end_is = r.end_is; last_is = rw (← r.last_is) (search rules); short = r.short }
