use Rattle.laws.specs.Lists.{joined}
use Rattle.output.specs.Writes.{Writes}
use Rattle.stream_format.specs.Write.{preference_records}
use Rattle.stream_writer.proofs.put_preferences.Given as goal

abbrev pub invariant-loop-i : goal.invariant-loop-i
invariant-loop-i l = Writes l.initial.out l.out (joined (preference_records l.list) l.i)
