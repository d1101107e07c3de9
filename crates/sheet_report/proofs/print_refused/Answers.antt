use Rattle.std.proofs.Common.{rules}
use Rattle.output.specs.Laws.Stored.{writes_prints}
use Rattle.sheet_report.proofs.print_refused.Goals as goal

pub returns : goal.returns
returns c =
    let p =
    rw (c.new-text.ensures.bytes, c.new-text.ensures.start, c.from.ensures)
    at (writes_prints c.put_refused.ensures c.new-text.ensures.limit) in
    record { puts = record { next_is = p.puts.next_is; last_is = rw (← p.puts.last_is) (search rules) } }
