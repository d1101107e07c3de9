use Rattle.std.proofs.Common.{◌+◌}
use Rattle.laws.specs.Lists.{joined}
use Rattle.output.specs.Writes.{Writes}
use Rattle.sheet_lines.specs.Line.{padded, field_width, field_text}
use Rattle.sheet_lines.proofs.put_row.Given as goal

-- field 0 is the number, and column k is field k + 1
abbrev pub invariant-loop-column : goal.invariant-loop-column
invariant-loop-column l = Writes l.fn.out l.out (joined (λ k. padded (field_width k) (field_text l.fn.r l.fn.row k)) (l.column + 1))
