-- A ninth preference is refused by 5, or by 4 where it is cut short: a count above 8 never comes out of a stream.
use Rattle.std.specs.Prelude.{◌≡◌, refl, ℕ, min, Bool, true, false, List, leb, ltb, length}
use Rattle.std.proofs.Common.{arith}
use borrow.Author.Tests.{le-ltb, ltb-false}
use Rattle.laws.specs.Checks.{◌gives◌, ◌then◌}
use Rattle.preference.specs.Valid.{taken, column_refusal, preference_refusal}
use Rattle.preference.specs.declared.PreferenceList.{PreferenceList}
use Rattle.stream_format.specs.Kinds.{class_of, body_of}
use Rattle.stream_format.specs.Read.{preference_of, out_of_place, figures_refusal, record_refusal, steps, start}
use Rattle.stream_format.specs.Midway.{Columns}
use Rattle.stream_format.specs.Laws.Columns.{columns_free}
use Rattle.stream_format.specs.Laws.Read.{columns_steps}
use Rattle.stream_format.specs.Kinds.{PreferenceRecord}
use Rattle.stream_format.specs.ReadAnswer.{ReadAnswer}

column_five : (l : PreferenceList) (column : ℕ) → Columns l → l.count ≡ 8 → column_refusal l l.count column ≡ 5
unfolding column_refusal ◌gives◌ ◌then◌
column_five l column h full = by_tests (ltb 7 column) (taken l (min l.count 8) column) refl refl
  where
    by_tests : (t u : Bool) → ltb 7 column ≡ t → taken l (min l.count 8) column ≡ u
        → column_refusal l l.count column ≡ 5
    by_tests true u e f = rw e
    by_tests false true e f = rw (e, f)
    by_tests false false e f = absurd (omega (arith, columns_free l column h (ltb-false 7 column e) f))

module _ (r : ReadAnswer) (bs : List ℕ) (h : Columns r.list) (full : r.list.count ≡ 8) where
  figures_five : figures_refusal PreferenceRecord r bs ≡ 5
  unfolding figures_refusal preference_refusal ◌then◌
  figures_five = rw (column_five r.list (preference_of bs).column h full)

  ninth_five : class_of bs ≡ PreferenceRecord → r.rows ≡ 0
      → record_refusal r bs ≡ leb (length bs) (body_of bs) gives 4 then 5
  unfolding record_refusal out_of_place ◌gives◌ ◌then◌
  ninth_five e z = rw (e, figures_five, le-ltb 0 r.rows (omega arith))

-- at any step of reading, before any run
pub ninth : (s : List ℕ) (n : ℕ) (bs : List ℕ) → (steps n s start).list.count ≡ 8 → (steps n s start).rows ≡ 0
    → class_of bs ≡ PreferenceRecord
    → record_refusal (steps n s start) bs ≡ leb (length bs) (body_of bs) gives 4 then 5
ninth s n bs full z e = ninth_five (steps n s start) bs (columns_steps s n) full e z
