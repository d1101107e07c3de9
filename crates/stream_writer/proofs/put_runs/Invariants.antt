use Rattle.laws.specs.Lists.{joined}
use Rattle.output.specs.Writes.{Writes}
use Rattle.stream_format.specs.Write.{row_bytes}
use Rattle.stream_writer.proofs.put_runs.Given as goal

abbrev pub invariant-loop-r : goal.invariant-loop-r
invariant-loop-r l = Writes l.initial.out l.out (joined (row_bytes l.log) l.r)
