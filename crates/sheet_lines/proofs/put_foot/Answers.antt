use Rattle.std.proofs.Common.{arith, rules}
use Rattle.output.specs.Laws.Stored.{writes_then}
use Rattle.sheet_lines.specs.Line.{foot_line}
use Rattle.sheet_lines.specs.Laws.Fields.{foot_short}
use Rattle.sheet_lines.proofs.put_foot.Goals as goal

pub returns : goal.returns
unfolding foot_line
returns c =
    let a = c.args in
    let short = foot_short a.page a.pages c.ranges.page.fits c.ranges.pages.fits in
    writes_then (c.put_right.ensures _ (omega arith) (λ a b h. search rules)) c.put_byte.ensures
