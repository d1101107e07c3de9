use Rattle.std.proofs.Common.{◌≡◌, ◌+◌, ◌-◌, ◌*◌}
use Rattle.std.proofs.lemmas.List.Edits.{sets}
use Rattle.stream_format.specs.Read.{ints_at}
use Rattle.stream_record_reader.proofs.values.put_run.Given as goal

abbrev pub invariant-loop-i : goal.invariant-loop-i
invariant-loop-i l =
    sets l.log (l.to + l.i) (ints_at (8 - l.i) l.bytes (1 + 4 * l.i)) ≡ sets l.initial.log l.to (ints_at 8 l.bytes 1)
