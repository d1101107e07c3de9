-- An accepted stream has at most 34,334 bytes: seven preferences of 22 bytes and a LAYERED one of 4, 64 named values of
-- 6 bytes and 1,024 runs of 33.
use Rattle.std.specs.Prelude.{◌≡◌, refl, ℕ, zero, suc, ◌+◌, ◌-◌, ◌*◌, ◌<◌, ◌≤◌, true, ◌||◌, List, drop}
use Rattle.std.proofs.Common.{sym, ◌∙◌, arith, get_or-set_same}
use Rattle.std.proofs.Math.Path.{ap}
use Rattle.std.proofs.Math.Decide.{dec_lt}
use Rattle.std.proofs.Math.Bool.{false, not}
use Rattle.std.proofs.Math.Dec.{ltb}
use Rattle.std.proofs.Math.ListN.{length}
use Rattle.std.proofs.lemmas.Bool.{not-false}
use Rattle.laws.specs.Laws.Bools.{both, neither, false_true}
use Rattle.constructor.specs.Level.{layering_of}
use Rattle.preference.specs.List.{zero_preference, constructor_at}
use Rattle.preference.specs.declared.Preference.{Preference}
use Rattle.preference.specs.declared.PreferenceList.{PreferenceList}
use Rattle.stream_format.specs.Kinds.{kinds, kind_of, kind_byte, class_of, body_of}
use Rattle.stream_format.specs.Read.{constructor_of, preference_of, last_constructor, is_layers, ends_layered}
use Rattle.stream_format.specs.Read.{out_of_place}
use Rattle.stream_format.specs.Read.{is_unknown, add_preference, with_record, step, start, records, read_of}
use Rattle.stream_format.specs.Laws.Kinds.{longest, body_longest}
use Rattle.stream_format.specs.Midway.{Columns}
use Rattle.stream_format.specs.Laws.Columns.{columns_zero, columns_few}
use Rattle.stream_format.specs.Laws.Read.{Accepts, accepts, preference_room, named_room, run_room, going}
use Rattle.stream_format.specs.Laws.Read.{step_keeps}
use Rattle.stream_format.specs.Laws.Read.{steps_keep, columns_step}
use Rattle.stream_format.specs.Laws.Accepted.{read_accepted, records_end}
use Rattle.stream_format.specs.Kinds.{Class}
use Rattle.stream_format.specs.Kinds.{Unknown, PreferenceRecord, NamedRecord, RunRecord}
use Rattle.stream_format.specs.ReadAnswer.{ReadAnswer}

-- a LAYERED record has a body of 3
layered_short : (k : ℕ) (bs : List ℕ) → (kind_of k).class ≡ PreferenceRecord
    → is_layers (layering_of (constructor_of k bs)) ≡ true → (kind_of k).body ≤ 3
unfolding kind_of kinds constructor_of
layered_short zero bs e y = absurd (omega (arith, ap longest e))
layered_short (suc zero) bs e y = false_true y
layered_short (suc (suc zero)) bs e y = false_true y
layered_short (suc (suc (suc zero))) bs e y = false_true y
layered_short (suc (suc (suc (suc zero)))) bs e y = false_true y
layered_short (suc (suc (suc (suc (suc zero))))) bs e y = omega arith
layered_short (suc (suc (suc (suc (suc (suc zero)))))) bs e y = absurd (omega (arith, ap longest e))
layered_short (suc (suc (suc (suc (suc (suc (suc zero))))))) bs e y = absurd (omega (arith, ap longest e))
layered_short (suc (suc (suc (suc (suc (suc (suc (suc zero)))))))) bs e y = false_true y
layered_short (suc (suc (suc (suc (suc (suc (suc (suc (suc k))))))))) bs e y = absurd (omega (arith, ap longest e))

-- at most so many bytes: 22 for each preference, 6 for each named value, 33 for each run
abbrev most : ReadAnswer → ℕ
most r = 33 * r.rows + 6 * r.list.namedcount + 22 * r.list.count

-- a LAYERED preference saves 18 of them, and no named value comes without one
record Short (r : ReadAnswer) : Type 0 where
  rows_few : r.rows ≤ 1024
  names_few : r.list.namedcount ≤ 64
  short : r.place ≤ most r
  layered : ends_layered r.list ≡ true → r.place + 18 ≤ most r
  named : 0 < r.list.namedcount → r.place + 18 ≤ most r

-- where a list ends LAYERED with the preference that was added, that one is LAYERED
ends_added : (l : PreferenceList) (p : Preference) → l.count < length l.preferences
    → ends_layered (add_preference l p) ≡ true → is_layers (layering_of p.constructor) ≡ true
unfolding ends_layered
ends_added l p h y =
    let e : l.count + 1 - 1 ≡ l.count = omega arith in
    let last : last_constructor (add_preference l p) ≡ p.constructor =
    ap (constructor_at (add_preference l p)) e
    ∙ ap (λ (q : Preference). q.constructor) (get_or-set_same l.preferences l.count p zero_preference h) in
    rw last at (both (ltb 0 (l.count + 1)) (is_layers (layering_of (last_constructor (add_preference l p)))) y).1

module _ (r : ReadAnswer) (bs : List ℕ) (h : Columns r.list) (a : Accepts r bs) (b : Short r) where
  preference_short : class_of bs ≡ PreferenceRecord → Short (with_record r bs)
  unfolding with_record
  preference_short e =
      let l = r.list in
      let body : body_of bs ≤ 21 = omega (arith, body_longest (kind_byte bs), ap longest e) in
      let room : l.count < length l.preferences = omega (arith, h.places, preference_room r bs a h e) in
      rw e (record {
        rows_few = b.rows_few;
        names_few = b.names_few;
        short = omega (arith, b.short);
        layered =
            λ y. omega (arith, b.short, layered_short (kind_byte bs) bs e (ends_added l (preference_of bs) room y));
        named = λ k. omega (arith, b.named k);
      })

  named_short : class_of bs ≡ NamedRecord → Short (with_record r bs)
  unfolding with_record out_of_place
  named_short e =
      let l = r.list in
      let body : body_of bs ≤ 5 = omega (arith, body_longest (kind_byte bs), ap longest e) in
      let placed : ltb 0 r.rows || not (ends_layered l) ≡ false = rw e at a.placed in
      let y = b.layered (not-false (ends_layered l) (neither (ltb 0 r.rows) (not (ends_layered l)) placed).1) in
      rw e (record {
        rows_few = b.rows_few;
        names_few = omega (arith, named_room r bs a e);
        short = omega (arith, y);
        layered = λ z. omega (arith, y);
        named = λ z. omega (arith, y);
      })

  run_short : class_of bs ≡ RunRecord → Short (with_record r bs)
  unfolding with_record
  run_short e =
      let body : body_of bs ≤ 32 = omega (arith, body_longest (kind_byte bs), ap longest e) in
      rw e (record {
        rows_few = omega (arith, run_room r bs a e);
        names_few = b.names_few;
        short = omega (arith, b.short);
        layered = λ y. omega (arith, b.layered y);
        named = λ k. omega (arith, b.named k);
      })

  with_short : (class : Class) → class_of bs ≡ class → is_unknown class ≡ false → Short (with_record r bs)
  with_short Unknown e k = false_true (sym k)
  with_short PreferenceRecord e k = preference_short e
  with_short NamedRecord e k = named_short e
  with_short RunRecord e k = run_short e

-- as long as reading goes on
pub record Kept (r : ReadAnswer) : Type 0 where
  columns : Columns r.list
  short : r.refusal ≡ 0 → Short r

pub kept_step : (s : List ℕ) (r : ReadAnswer) → Kept r → Kept (step s r)
kept_step s r h =
    record {
      columns = columns_step s r h.columns;
      short =
          let bs = drop r.place s in
          step_keeps (λ (a : ReadAnswer). a.refusal ≡ 0 → Short a) s r
          (λ g e z. with_short r bs h.columns (accepts r bs e) (h.short (going s r g).0) (class_of bs) refl
          (accepts r bs e).known)
          (λ k n z. absurd (omega arith))
          (λ g. h.short);
    }

pub kept_start : Kept start
unfolding ends_layered
kept_start =
    record {
      columns = columns_zero;
      short =
          λ z. record {
            rows_few = omega arith;
            names_few = omega arith;
            short = omega arith;
            layered = λ y. false_true y;
            named = λ k. absurd (omega arith);
          };
    }

records_kept : (s : List ℕ) → Kept (records s)
unfolding records
records_kept s = steps_keep Kept s (kept_step s) (length s) start kept_start

bytes_most : (r : ReadAnswer) → r.list.count ≤ 8 → Short r → r.place ≤ 34334
bytes_most r few b = elim (dec_lt 0 r.list.namedcount) [
  | yes k ↦ omega (arith, few, b.rows_few, b.names_few, b.named k)
  | no k ↦ omega (arith, few, k, b.rows_few, b.short)
]

pub kept_small : (r : ReadAnswer) → Kept r → r.refusal ≡ 0 → r.place ≤ 34334
kept_small r k z = bytes_most r (columns_few r.list k.columns) (k.short z)

pub longest_accepted : (s : List ℕ) (room : ℕ) → (read_of s room).refusal ≡ 0 → length s ≤ 34334
longest_accepted s room e =
    let z = (read_accepted s room e).going_on in
    omega (arith, records_end s z, kept_small (records s) (records_kept s) z)

pub rows_at_most : (s : List ℕ) → (records s).refusal ≡ 0 → (records s).rows ≤ 1024
rows_at_most s z = ((records_kept s).short z).rows_few
