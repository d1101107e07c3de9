-- What the checks of a list and a log say of how long their stream is.
use Rattle.std.specs.Prelude.{◌≡◌, refl, ℕ, zero, suc, ◌*◌, ◌≤◌, List, ℤ, length}
use Rattle.std.proofs.Common.{arith, length-append}
use Rattle.laws.specs.Lists.{joined}
use Rattle.run_log.specs.Log.{row_at, row_count, log_refusal}
use Rattle.run_log.specs.Laws.Log as logs
use Rattle.preference.specs.Valid.{list_refusal}
use Rattle.preference.specs.Laws.Valid as preferences
use Rattle.preference.specs.declared.PreferenceList.{PreferenceList}
use Rattle.stream_format.specs.Write.{preference_records, row_bytes, stream_of}
use Rattle.stream_format.specs.Laws.Lengths.{parts_short, rows_short, run_long}

pub list_few : (l : PreferenceList) → list_refusal l ≡ 0 → l.count ≤ 8
list_few l z = (preferences.accepted l z).few

pub list_few_named : (l : PreferenceList) → list_refusal l ≡ 0 → l.namedcount ≤ 64
list_few_named l z = (preferences.accepted l z).few_named

pub ruleset few = (list_few, list_few_named)

pub stream_short : (l : PreferenceList) (log : List ℤ) → list_refusal l ≡ 0 → log_refusal log ≡ 0
    → length (stream_of l log) ≤ 37040
unfolding stream_of
stream_short l log z y =
    omega (
      arith,
      length-append (joined (preference_records l) l.count) (joined (row_bytes log) (row_count log)),
      parts_short l l.count (list_few_named l z),
      list_few l z,
      rows_short log (row_count log),
      (logs.accepted log y).few,
    )

-- every run is of one length
pub rows_whole : (log : List ℤ) (n : ℕ) → n ≤ row_count log → length (joined (row_bytes log) n) ≡ 33 * n
unfolding joined
rows_whole log zero h = refl
rows_whole log (suc n) h =
    omega (
      arith,
      length-append (joined (row_bytes log) n) (row_bytes log n),
      rows_whole log n (omega arith),
      run_long (row_at log n),
      logs.row_long log n (omega arith),
    )
