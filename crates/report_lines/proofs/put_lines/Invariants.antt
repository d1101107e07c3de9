use Rattle.laws.specs.Lists.{joined}
use Rattle.output.specs.Writes.{Writes}
use Rattle.report_lines.specs.Lines.{marked_text}
use Rattle.report_lines.proofs.put_lines.Given as goal

abbrev pub invariant-loop-r : goal.invariant-loop-r
invariant-loop-r l = Writes l.initial.out l.out (joined (marked_text l.marks l.log) l.r)
