-- Document 01, "Runs and records": "Writing an accepted list and log gives the stream that reads back as the same,
-- counted places compared; writing what was read gives the same bytes."
use Rattle.std.specs.Prelude.{◌≡◌, ℕ, ◌≤◌, List, ℤ, length}
use Rattle.word.specs.Laws.Word.{Bytes}
use Rattle.run_log.specs.Log.{log_refusal}
use Rattle.preference.specs.Valid.{list_refusal}
use Rattle.preference.specs.declared.PreferenceList.{PreferenceList}
use Rattle.stream_format.specs.Read.{read_of, values_of}
use Rattle.stream_format.specs.Write.{stream_of, write_refusal}
use Rattle.stream_roundtrip.specs.Terms.{Fits, ReadsAs, WritesAs, stream_in, log_in}
use Rattle.stream_roundtrip.specs.Laws.ReadBack.{read_back}
use Rattle.stream_roundtrip.specs.Laws.WriteBack.{write_back}
use Rattle.stream_roundtrip.specs.Laws.Calls.{write_read, read_write}
use Rattle.stream_roundtrip.specs.Laws.Longest.{longest, longest_long, longest_accepted}

-- ---- of lists, logs and streams

-- the stream of an accepted list and log reads back as the same
pub written_reads_back : (l : PreferenceList) (log : List ℤ) (room : ℕ) → Fits l log → list_refusal l ≡ 0
    → log_refusal log ≡ 0 → length log ≤ room → ReadsAs (stream_of l log) room l log
written_reads_back = read_back

-- what was read is accepted, and its stream is what was read
pub read_writes_back : (s : List ℕ) (room : ℕ) → Bytes s → (read_of s room).refusal ≡ 0
    → WritesAs (read_of s room).list (values_of s) s
read_writes_back = write_back

-- ---- of the calls: what each leaves in the list that it is lent is handed to the other

pub write_then_read : (l : PreferenceList) (log : List ℤ) (out : List ℕ) (lent : List ℤ) → Fits l log
    → write_refusal l log (length out) ≡ 0 → length log ≤ length lent
    → ReadsAs (stream_in l log out) (length lent) l log × (log_in (stream_in l log out) lent ≡ log)
write_then_read = write_read

pub read_then_write : (s : List ℕ) (lent : List ℤ) (out : List ℕ) → Bytes s → (read_of s (length lent)).refusal ≡ 0
    → length s ≤ length out
    → (write_refusal (read_of s (length lent)).list (log_in s lent) (length out) ≡ 0)
    × (stream_in (read_of s (length lent)).list (log_in s lent) out ≡ s)
read_then_write = read_write

-- ---- the longest accepted stream: no accepted one is longer (format, Laws/Longest.antt), and one has this length

pub longest_stream : (length longest ≡ 34334) × ((read_of longest 8192).refusal ≡ 0)
longest_stream = (longest_long, longest_accepted)
