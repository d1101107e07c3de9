-- A record that was checked: what is accepted has room, and reading goes on with it.
use Rattle.std.specs.Prelude.{◌≡◌, refl, ℕ, ◌+◌, ◌<◌, ◌≤◌, List}
use Rattle.std.proofs.Common.{sym, ap, ◌∙◌}
use Rattle.limits.specs.Limits.{max_runs, max_wishes, max_named}
use Rattle.preference.specs.declared.PreferenceList.{PreferenceList}
use Rattle.refusal.specs.Refusal.{number}
use Rattle.refusal.specs.Laws.Refusal.{number_some}
use Rattle.refusal.specs.declared.Refusal.{Refusal}
use Rattle.stream_format.specs.Kinds.{kind_of, kind_byte, class_of}
use Rattle.stream_format.specs.Kinds.{Class, Unknown, PreferenceRecord, NamedRecord, RunRecord}
use Rattle.stream_format.specs.Read.{out_of_place, figures_refusal, record_refusal, reading, refused_at}
use Rattle.stream_format.specs.Read.{list_after, rows_after, with_record, take_record}
use Rattle.stream_format.specs.Midway.{Columns}
use Rattle.stream_format.specs.RecordKind.{kind_number, row_of}
use Rattle.stream_format.specs.Laws.Columns.{columns_few, columns_added}
use Rattle.stream_format.specs.Laws.Read.{Accepts, accepts, preference_room, named_room, run_room, unless_none, unless_some}
use Rattle.stream_format.specs.declared.RecordKind.{RecordKind}

-- a record is refused at each place as at the first
placed : (class : Class) (place rows : ℕ) (l : PreferenceList)
    → out_of_place class (reading 0 rows l) ≡ out_of_place class (reading place rows l)
unfolding out_of_place
placed Unknown place rows l = refl
placed PreferenceRecord place rows l = refl
placed NamedRecord place rows l = refl
placed RunRecord place rows l = refl

figured : (class : Class) (place rows : ℕ) (l : PreferenceList) (bs : List ℕ)
    → figures_refusal class (reading 0 rows l) bs ≡ figures_refusal class (reading place rows l) bs
unfolding figures_refusal
figured Unknown place rows l bs = refl
figured PreferenceRecord place rows l bs = refl
figured NamedRecord place rows l bs = refl
figured RunRecord place rows l bs = refl

anywhere : (place rows : ℕ) (l : PreferenceList) (bs : List ℕ)
    → record_refusal (reading 0 rows l) bs ≡ record_refusal (reading place rows l) bs
unfolding record_refusal
anywhere place rows l bs = rw (placed (class_of bs) place rows l, figured (class_of bs) place rows l bs) refl

pub refused : (e : Refusal) (place rows : ℕ) (l : PreferenceList) (bs : List ℕ)
    → number e ≡ record_refusal (reading 0 rows l) bs
    → refused_at (number e) place ≡ take_record (reading place rows l) bs
unfolding take_record
refused e place rows l bs h =
    let read = with_record (reading place rows l) bs in
    rw (← (h ∙ anywhere place rows l bs)) (sym (unless_some (number e) place read (number_some e)))

columns_by : (class : Class) (rows : ℕ) (l : PreferenceList) (bs : List ℕ) → Columns l
    → figures_refusal class (reading 0 rows l) bs ≡ 0 → Columns (list_after class l bs)
unfolding figures_refusal
columns_by Unknown rows l bs h e = h
columns_by PreferenceRecord rows l bs h e = columns_added l _ h e
columns_by NamedRecord rows l bs h e = record { places = h.places; low = h.low; apart = h.apart }
columns_by RunRecord rows l bs h e = h

module _ (rows : ℕ) (l : PreferenceList) (bs : List ℕ) (kind : RecordKind)
    (known : kind_number kind ≡ kind_byte bs) (none : 0 ≡ record_refusal (reading 0 rows l) bs) where
  accepted : Accepts (reading 0 rows l) bs
  accepted = accepts (reading 0 rows l) bs (sym none)

  same : (class : Class) → (row_of kind).class ≡ class → class_of bs ≡ class
  same class e = sym (ap (λ (k : ℕ). (kind_of k).class) known) ∙ e

  pub wish_room : Columns l → (row_of kind).class ≡ PreferenceRecord → l.count < 8
  wish_room h e = preference_room (reading 0 rows l) bs accepted h (same _ e)

  pub name_room : Columns l → (row_of kind).class ≡ NamedRecord
      → (l.count ≤ max_wishes) × (l.namedcount < max_named)
  name_room h e = (columns_few l h, named_room (reading 0 rows l) bs accepted (same _ e))

  pub row_room : (row_of kind).class ≡ RunRecord → rows < max_runs
  row_room e = run_room (reading 0 rows l) bs accepted (same _ e)

  pub columns_kept : Columns l → (m : PreferenceList) → m ≡ list_after (row_of kind).class l bs → Columns m
  columns_kept h m e = rw (e, known) (columns_by (class_of bs) rows l bs h accepted.figures)

  pub added : (place : ℕ)
      → reading (place + (1 + (row_of kind).body)) (rows_after (row_of kind).class rows)
      (list_after (row_of kind).class l bs)
      ≡ take_record (reading place rows l) bs
  unfolding take_record with_record
  added place =
      let read = with_record (reading place rows l) bs in
      rw known (sym (unless_none _ place read (sym (none ∙ anywhere place rows l bs))))

pub ruleset taken = (columns_few, refused, wish_room, name_room, row_room, added)
