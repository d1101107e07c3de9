use Rattle.std.proofs.Common.{rules}
use Rattle.output.specs.Laws.Writes.{with_then}
use Rattle.sheet_lines.specs.Line.{foot_text}
use Rattle.sheet_lines.proofs.put_foot_text.Goals as goal

pub returns : goal.returns
unfolding foot_text
returns c = record { same = search rules; holds = simp with_then (cc) }
