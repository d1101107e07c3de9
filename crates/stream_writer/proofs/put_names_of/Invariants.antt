use Rattle.laws.specs.Lists.{joined}
use Rattle.output.specs.Writes.{Writes}
use Rattle.stream_format.specs.Write.{named_bytes_of}
use Rattle.stream_writer.proofs.put_names_of.Given as goal

abbrev pub invariant-loop-naming : goal.invariant-loop-naming
invariant-loop-naming l = Writes l.initial.out l.out (joined (named_bytes_of l.list l.i) l.naming-index)
