use Rattle.std.proofs.Common.{rules}
use Rattle.output.specs.Laws.Writes.{with_then}
use Rattle.report_lines.specs.Lines.{head_text}
use Rattle.report_lines.proofs.put_head.Goals as goal

pub returns : goal.returns
unfolding head_text
returns c = record { same = search rules; holds = simp with_then (cc) }
