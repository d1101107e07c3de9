use Rattle.stream_format.specs.Midway.{Midway, to_read}
use Rattle.stream_record_reader.specs.Reading.{so_far}
use Rattle.stream_reader.proofs.read_records.Given as goal

abbrev pub invariant-loop-reading : goal.invariant-loop-reading
invariant-loop-reading l = Midway l.stream (so_far l.reading)

abbrev pub decreases-loop-reading : goal.decreases-loop-reading
decreases-loop-reading l = to_read l.stream (so_far l.reading)
