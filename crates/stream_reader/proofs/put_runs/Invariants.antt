use Rattle.std.proofs.Common.{◌≡◌, ◌-◌, ◌*◌, drop}
use Rattle.std.proofs.lemmas.List.Edits.{sets}
use Rattle.stream_reader.specs.Runs.{run_values}
use Rattle.stream_reader.proofs.put_runs.Given as goal

abbrev pub invariant-loop-row : goal.invariant-loop-row
invariant-loop-row l =
    sets l.log (8 * l.row) (run_values (l.rows - l.row) (drop (33 * l.row) l.runs)) ≡ sets l.initial.log 0 (run_values l.rows l.runs)
