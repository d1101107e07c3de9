-- What each of the calls leaves in the list that it is lent is handed to the other.
use Rattle.std.specs.Prelude.{◌≡◌, ℕ, ◌≤◌, List, ltb, ℤ, length}
use Rattle.std.proofs.Common.{ap, ◌∙◌, arith, eq-eqb, le-ltb, ltb-false}
use Rattle.word.specs.Laws.Word.{Bytes}
use Rattle.laws.specs.Checks.{◌gives◌, ◌then◌}
use Rattle.laws.specs.Laws.Stores.{stored_front}
use Rattle.laws.specs.Laws.Checks.{then_none, then_next, gives_none, gives_no}
use Rattle.run_log.specs.Log.{log_refusal}
use Rattle.preference.specs.Valid.{list_refusal}
use Rattle.preference.specs.declared.PreferenceList.{PreferenceList}
use Rattle.stream_format.specs.Read.{read_of, values_of}
use Rattle.stream_format.specs.Write.{stream_of, write_refusal, out_after}
use Rattle.stream_format.specs.Laws.Rows.{log_read}
use Rattle.stream_roundtrip.specs.Terms.{Fits, ReadsAs, WritesAs, stream_in, log_in}
use Rattle.stream_roundtrip.specs.Laws.ReadBack.{read_back}
use Rattle.stream_roundtrip.specs.Laws.WriteBack.{write_back}

record Written (l : PreferenceList) (log : List ℤ) (room : ℕ) : Type 0 where
  list_refusal_lem : list_refusal l ≡ 0
  log_refusal_lem : log_refusal log ≡ 0
  fits : length (stream_of l log) ≤ room

written : (l : PreferenceList) (log : List ℤ) (room : ℕ) → write_refusal l log room ≡ 0 → Written l log room
unfolding write_refusal
written l log room e =
    let short = ltb room (length (stream_of l log)) in
    let a = then_none (list_refusal l) (log_refusal log then short gives 10) e in
    let b = then_none (log_refusal log) (short gives 10) a.1 in
    record {
      list_refusal_lem = a.0;
      log_refusal_lem = b.0;
      fits = ltb-false room (length (stream_of l log)) (gives_none short 9 b.1);
    }

-- the output begins with the stream
stream_in_lem : (l : PreferenceList) (log : List ℤ) (out : List ℕ) → write_refusal l log (length out) ≡ 0
    → stream_in l log out ≡ stream_of l log
unfolding out_after
stream_in_lem l log out e =
    rw (eq-eqb (write_refusal l log (length out)) 0 e)
    (stored_front out (stream_of l log) (written l log (length out) e).fits)

-- what is written as s is accepted where the output has room for s
room_enough : (l : PreferenceList) (log : List ℤ) (s : List ℕ) (room : ℕ) → WritesAs l log s → length s ≤ room
    → write_refusal l log room ≡ 0
unfolding write_refusal
room_enough l log s room w h =
    let short = ltb room (length (stream_of l log)) in
    then_next (list_refusal l) (log_refusal log then short gives 10) w.list_refusal_lem
    ∙ then_next (log_refusal log) (short gives 10) w.log_refusal_lem
    ∙ gives_no short 10 (le-ltb room (length (stream_of l log)) (omega (arith, ap length w.stream)))

pub write_read : (l : PreferenceList) (log : List ℤ) (out : List ℕ) (lent : List ℤ) → Fits l log
    → write_refusal l log (length out) ≡ 0 → length log ≤ length lent
    → ReadsAs (stream_in l log out) (length lent) l log × (log_in (stream_in l log out) lent ≡ log)
write_read l log out lent f e h =
    let w = written l log (length out) e in
    let r = read_back l log (length lent) f w.list_refusal_lem w.log_refusal_lem h in
    let s = stream_of l log in
    rw (stream_in_lem l log out e) (r, log_read s lent r.refusal ∙ r.values)

pub read_write : (s : List ℕ) (lent : List ℤ) (out : List ℕ) → Bytes s → (read_of s (length lent)).refusal ≡ 0
    → length s ≤ length out
    → (write_refusal (read_of s (length lent)).list (log_in s lent) (length out) ≡ 0)
    × (stream_in (read_of s (length lent)).list (log_in s lent) out ≡ s)
read_write s lent out by e h =
    let m = (read_of s (length lent)).list in
    let w = write_back s (length lent) by e in
    let n = room_enough m (values_of s) s (length out) w h in
    rw (log_read s lent e) (n, stream_in_lem m (values_of s) out n ∙ w.stream)
