use Rattle.std.specs.Prelude.{◌<◌, ◌≤◌, ◌-◌, length}
use Rattle.stream_format.specs.Midway.{Midway, to_read}
use Rattle.stream_record_reader.specs.Reading.{so_far}
use Rattle.stream_reader.proofs.pass_runs.Given as goal

abbrev pub invariant-loop-reading : goal.invariant-loop-reading
invariant-loop-reading l =
    (0 < l.reading.list.count) × Midway l.stream (so_far l.reading)
    × (to_read l.stream (so_far l.reading) ≤ to_read l.stream (so_far l.initial.reading))

abbrev pub decreases-loop-reading : goal.decreases-loop-reading
decreases-loop-reading l = length l.stream - l.reading.place
