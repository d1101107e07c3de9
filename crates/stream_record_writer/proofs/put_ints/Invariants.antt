use Rattle.std.proofs.Common.{take}
use Rattle.output.specs.Writes.{Writes}
use Rattle.stream_format.specs.Write.{ints_bytes}
use Rattle.stream_record_writer.proofs.put_ints.Given as goal

abbrev pub invariant-loop-v : goal.invariant-loop-v
invariant-loop-v l = Writes l.initial.out l.out (ints_bytes (take l.v-index l.row))
