use Rattle.std.proofs.Common.{ℕ, ◌+◌, ◌*◌, length, ap, rules}
use Rattle.output.specs.Laws.Stored.{writes_prints}
use Rattle.sheet_pages.specs.Laws.Left.{rows_refused, rows_printed}
use Rattle.sheet_pages.proofs.print_rows.Goals as goal

pub returns-then-out-length : goal.returns-then-out-length
returns-then-out-length c =
    let a = c.args in
    let long = ap (λ (k : ℕ). 102 * (length a.rows.now + 2 * k)) c.page_count.ensures in
    rows_refused a.log.now a.rows.now a.out.now _ long c.if-out-length.true

pub returns : goal.returns
returns c =
    let a = c.args in
    let long = ap (λ (k : ℕ). 102 * (length a.rows.now + 2 * k)) c.page_count.ensures in
    let prints = rw (c.new.ensures.bytes, c.new.ensures.start) at (writes_prints c.put_pages.ensures c.new.ensures.limit) in
    let left = rows_printed a.log.now a.rows.now a.out.now _ long _ _ c.if-out-length.false c.requires prints in
    record { answer_is = left.answer_is; out_is = rw (← left.out_is) (search rules) }
