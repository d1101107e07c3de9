-- Document 01: "A flat call reads its stream first." What a stream says, read where there is room for every log.
use Rattle.std.specs.Prelude.{ℕ, List}
use Rattle.limits.specs.Limits.{max_runs, max_values}
use Rattle.laws.specs.Checks.{◌then◌}
use Rattle.run_log.specs.Log.{Log, log_of}
use Rattle.preference.specs.declared.PreferenceList.{PreferenceList}
use Rattle.stream_format.specs.Read.{read_of, values_of}
use Rattle.pareto.specs.Call.{Call}
use Rattle.selection.specs.Selection.{either_call}

abbrev pub list_in : List ℕ → PreferenceList
list_in s = (read_of s max_values).list

abbrev pub log_in : List ℕ → Log
log_in s = log_of (values_of s)

-- a call on a stream: reading's number, then that of the call on what was read
abbrev pub after_reading : List ℕ → (PreferenceList → Log → Call) → Call
after_reading s call =
    let c = call (list_in s) (log_in s) in
    record { list = c.list; log = c.log; refusal = (read_of s max_values).refusal then c.refusal; value = c.value }

-- a program's call on a stream: it has a mark byte for each row that a log can have
abbrev pub program_call : List ℕ → Call
program_call s = after_reading s (λ l log. either_call l log max_runs)
