-- Reading record by record: the record at the place that was read up to, and the end.
use Rattle.std.specs.Prelude.{◌≡◌, ℕ, ◌<◌, ◌≤◌, List, length, true, false}
use Rattle.std.proofs.Common.{ap, ◌∙◌}
use borrow.Author.Tests.{lt-ltb, le-ltb, ne_eqb}
use Rattle.refusal.specs.Refusal.{number}
use Rattle.refusal.specs.Laws.Refusal.{number_some}
use Rattle.refusal.specs.declared.Refusal.{Refusal}
use Rattle.preference.specs.declared.PreferenceList.{PreferenceList}
use Rattle.stream_format.specs.Read.{refused_at, reading, take_record, goes, step, records}
use Rattle.stream_format.specs.ReadAnswer.{ReadAnswer}
use Rattle.stream_format.specs.Midway.{Midway, to_read}
use Rattle.stream_format.specs.Laws.Read.{midway_step, midway_end, to_read_falls}
use Rattle.stream_reader.proofs.Part.{lent, part}

module _ (s : List ℕ) (r : ReadAnswer) (m : Midway s r) where
  module _ (z : r.refusal ≡ 0) (more : r.place < length s) where
    here : goes s r ≡ true
    here = rw (z, lt-ltb r.place (length s) more)

    -- the record that is lent is the one at the place
    stepped : (q : ReadAnswer) → q ≡ take_record r (lent s r.place) → q ≡ step s r
    unfolding step
    stepped q e = rw here (e ∙ ap (take_record r) (part s r.place))

    pub read_on : (q : ReadAnswer) → q ≡ take_record r (lent s r.place) → Midway s q × (to_read s q < to_read s r)
    read_on q e = rw (stepped q e) (midway_step s r here m, to_read_falls s r here)

    pub read_off : (e : Refusal) (place : ℕ) → refused_at (number e) place ≡ take_record r (lent s r.place)
        → refused_at (number e) place ≡ records s
    read_off e place q =
        let ended : goes s (refused_at (number e) place) ≡ false = rw (ne_eqb (number e) 0 (number_some e)) in
        midway_end s (refused_at (number e) place) ended (read_on (refused_at (number e) place) q).0

-- the end of the stream
pub read_out : (s : List ℕ) (place rows : ℕ) (l : PreferenceList) → Midway s (reading place rows l) → length s ≤ place
    → reading place rows l ≡ records s
read_out s place rows l m end = midway_end s (reading place rows l) (le-ltb place (length s) end) m
