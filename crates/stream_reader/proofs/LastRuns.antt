-- The runs of an accepted stream come last: after one run each record is a run.
use Rattle.std.specs.Prelude.{◌≡◌, ℕ, zero, suc, ◌+◌, ◌-◌, ◌*◌, ◌<◌, ◌≤◌, Bool, true, false, not, ltb, List, [], length, drop}
use Rattle.std.proofs.Common.{refl, sym, ap, ◌∙◌, arith, drop-drop, length-drop, eq-eqb, ltb-false}
use Rattle.laws.specs.Laws.Bools.{false_true, neither}
use Rattle.stream_format.specs.Kinds.{kind_byte, class_of, body_of}
use Rattle.stream_format.specs.Read.{ends_layered, out_of_place, rows_after, values_under, values_from, values_of}
use Rattle.stream_format.specs.Read.{with_record, goes, steps, start, records, read_of}
use Rattle.stream_format.specs.ReadAnswer.{ReadAnswer}
use Rattle.stream_format.specs.Laws.Accepted.{read_accepted}
use Rattle.stream_format.specs.Laws.Kinds.{body_short, body_holds}
use Rattle.stream_format.specs.Laws.Read.{Accepts, accepts, step_goes, steps_ended}
use Rattle.stream_format.specs.Laws.Rows.{refused_stays}
use Rattle.stream_format.specs.Laws.Values.{values_end}
use Rattle.stream_format.specs.Kinds.{Class}
use Rattle.stream_format.specs.Kinds.{Unknown, PreferenceRecord, NamedRecord, RunRecord}
use Rattle.stream_reader.specs.Runs.{run_values}

-- what n more steps read from r on: so many runs, which stand from a place to the end
record Last (s : List ℕ) (n : ℕ) (r : ReadAnswer) : Type 0 where
  runs : ℕ
  at : ℕ
  rows_are : (steps n s r).rows ≡ r.rows + runs
  values_are : values_from n (drop r.place s) ≡ run_values runs (drop at s)
  ends : length s ≡ at + 33 * runs
  follow : 0 < r.rows → at ≡ r.place

run_body_is : (bs : List ℕ) → class_of bs ≡ RunRecord → body_of bs ≡ 32
run_body_is bs e = let h = body_holds (kind_byte bs) in omega (arith, rw e at h, body_short (kind_byte bs))

module _ (s : List ℕ) where
  -- nothing is left to read
  ended : (n : ℕ) (r : ReadAnswer) → steps n s r ≡ r → length s ≡ r.place → Last s n r
  unfolding run_values
  ended n r e h =
      record {
        runs = 0;
        at = r.place;
        rows_are = rw e (omega arith);
        values_are = values_end n r.place s (omega arith);
        ends = omega arith;
        follow = λ z. refl;
      }

  module _ (n : ℕ) (r : ReadAnswer) where
    abbrev bs : List ℕ
    bs = drop r.place s

    -- a record that was accepted, and then the others
    module _ (a : Accepts r bs) (more : Last s n (with_record r bs)) (stepped : steps (suc n) s r ≡ steps n s (with_record r bs)) where
      further : values_from n (drop (1 + body_of bs) bs) ≡ run_values more.runs (drop more.at s)
      unfolding with_record
      further = ap (values_from n) (drop-drop (1 + body_of bs) r.place s) ∙ more.values_are

      a_run : class_of bs ≡ RunRecord → Last s (suc n) r
      unfolding values_from with_record run_values
      a_run e =
          let k = more.runs in
          let body = run_body_is bs e in
          let grown = ap (λ (x : Class). rows_after x r.rows) e in
          let values = ap (λ (x : Class). values_under x bs) e in
          let next : more.at ≡ r.place + 33 = omega (arith, body, grown, more.follow) in
          let rest : drop more.at s ≡ drop 33 bs = ap (λ (i : ℕ). drop i s) next ∙ sym (drop-drop 33 r.place s) in
          record {
            runs = suc k;
            at = r.place;
            rows_are = omega (arith, ap (λ (q : ReadAnswer). q.rows) stepped, more.rows_are, grown);
            values_are = rw (values, further, rest);
            ends = omega (arith, more.ends, next);
            follow = λ z. refl;
          }

      no_run : values_under (class_of bs) bs ≡ [] → rows_after (class_of bs) r.rows ≡ r.rows → r.rows ≡ 0 → Last s (suc n) r
      unfolding values_from with_record
      no_run v e z =
          record {
            runs = more.runs;
            at = more.at;
            rows_are = omega (arith, ap (λ (q : ReadAnswer). q.rows) stepped, more.rows_are, e);
            values_are = rw (v, further);
            ends = more.ends;
            follow = λ h. absurd (omega arith);
          }

      by_class : (class : Class) → class_of bs ≡ class → Last s (suc n) r
      unfolding out_of_place
      by_class Unknown e = false_true (sym (rw e at a.known))
      by_class PreferenceRecord e =
          let none = ltb-false 0 r.rows (rw e at a.placed) in
          no_run (ap (λ (x : Class). values_under x bs) e) (ap (λ (x : Class). rows_after x r.rows) e) (omega arith)
      by_class NamedRecord e =
          let none = ltb-false 0 r.rows (neither (ltb 0 r.rows) (not (ends_layered r.list)) (rw e at a.placed)).0 in
          no_run (ap (λ (x : Class). values_under x bs) e) (ap (λ (x : Class). rows_after x r.rows) e) (omega arith)
      by_class RunRecord e = a_run e

  -- the place is within the stream, and the steps are enough
  last : (n : ℕ) (r : ReadAnswer) → r.refusal ≡ 0 → r.place ≤ length s → length s ≤ r.place + n
      → (steps n s r).refusal ≡ 0 → Last s n r
  unfolding steps with_record
  last zero r z w k e = ended 0 r refl (omega arith)
  last (suc n) r z w k e = by_going (goes s r) refl (last n)
    where
      by_going : (b : Bool) → goes s r ≡ b
          → ((q : ReadAnswer) → q.refusal ≡ 0 → q.place ≤ length s → length s ≤ q.place + n → (steps n s q).refusal ≡ 0 → Last s n q)
          → Last s (suc n) r
      by_going true g more =
          let bs = drop r.place s in
          step_goes
          (λ (q : ReadAnswer). (steps n s q).refusal ≡ 0 → steps (suc n) s r ≡ steps n s q → Last s (suc n) r) s r g
          (λ none f stepped. let a = accepts r bs none in
          let length_is = length-drop r.place s in
          by_class n r a (more (with_record r bs) refl (omega (arith, a.whole, length_is)) (omega (arith, a.whole, k)) f)
          stepped (class_of bs) refl)
          (λ m q f stepped. absurd (refused_stays n s m r.place f)) e refl
      by_going false g more =
          let past = ltb-false r.place (length s) (rw (eq-eqb r.refusal 0 z) at g) in
          ended (suc n) r (steps_ended (suc n) s r g) (omega arith)

-- the runs of an accepted stream stand at its end
pub record AtEnd (s : List ℕ) (rows : ℕ) : Type 0 where
  pub within : 33 * rows ≤ length s
  pub values : values_of s ≡ run_values rows (drop (length s - 33 * rows) s)

pub runs_last : (s : List ℕ) (room : ℕ) → (read_of s room).refusal ≡ 0 → AtEnd s (read_of s room).rows
unfolding records values_of
runs_last s room e =
    let a = read_accepted s room e in
    let l = last s (length s) start refl (omega arith) (omega arith) a.going_on in
    let rows : (read_of s room).rows ≡ l.runs = omega (arith, ap (λ (q : ReadAnswer). q.rows) a.answer, l.rows_are) in
    let at : l.at ≡ length s - 33 * l.runs = omega (arith, l.ends) in
    rw rows record { within = omega (arith, l.ends); values = l.values_are ∙ ap (λ (i : ℕ). run_values l.runs (drop i s)) at }
