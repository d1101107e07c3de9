use Rattle.std.proofs.Common.{rules}
use Rattle.output.specs.Laws.Writes.{with_then}
use Rattle.report_lines.specs.Lines.{refused_text}
use Rattle.report_lines.proofs.put_refused.Goals as goal

pub returns : goal.returns
unfolding refused_text
returns c = record { same = search rules; holds = simp with_then (cc) }
