use Rattle.std.proofs.Common.{◌∙◌, length, ap, arith, rules}
use Rattle.std.specs.Fn.{FnOnceReturnsAtMut}
use Rattle.output.specs.Laws.Stored.{written_whole}
use Rattle.sheet_lines.proofs.put_right.Goals as goal

pub returns : goal.returns
returns g c = λ x short writes.
    let ran : FnOnceReturnsAtMut g.F.FnOnce c.args.put c.new-text.result tt c.put.new.arg2 = search rules in
    let room = ap length c.new-text.ensures.bytes in
    let whole = written_whole (writes _ _ ran) c.new-text.ensures.start (omega arith) (omega arith) in
    rw (c.written.ensures ∙ whole) at c.put_padded.ensures
