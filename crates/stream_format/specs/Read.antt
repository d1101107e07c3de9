-- Document 01, "When a number comes back": "Reading checks record by record: 2, 3, 4, 5, 6, 7; then 1; then 10".
use Rattle.std.specs.Prelude.{ℕ, zero, suc, Result, Ok, Err, ◌+◌, ◌-◌, ◌*◌, List, [], ◌∷◌, ◌++◌, Bool, true, false, cond, not, ◌&&◌, ◌||◌, length, get_or, drop, set, replicate, ltb, leb, eqb, ℤ}
use Rattle.std.proofs.lemmas.List.Edits.{sets}
use Rattle.limits.specs.Limits.{columns, max_runs, max_wishes, max_named}
use Rattle.word.specs.Word.{word_at, int_at}
use Rattle.laws.specs.Checks.{◌gives◌, ◌then◌}
use Rattle.constructor.specs.Level.{layering_of}
use Rattle.constructor.specs.Valid.{layer_refusal}
use Rattle.constructor.specs.declared.Constructor.{Constructor}
use Rattle.constructor.specs.declared.Constructor.TheVariants.{Lowest, Highest, Around, Between, Layered}
use Rattle.constructor.specs.declared.Constructor.TheVariants.{BetweenTrivial}
use Rattle.constructor.specs.declared.Layering.{Layering}
use Rattle.constructor.specs.declared.Layering.TheVariants.{Numeric, Layers}
use Rattle.preference.specs.List.{zero_preference, zero_named, constructor_at}
use Rattle.preference.specs.Valid.{preference_refusal}
use Rattle.preference.specs.declared.Preference.{Preference}
use Rattle.preference.specs.declared.Named.{Named}
use Rattle.preference.specs.declared.PreferenceList.{PreferenceList}
use Rattle.refusal.specs.Refusal.{number}
use Rattle.stream_format.specs.Kinds.{kind_byte, class_of, body_of}
use Rattle.stream_format.specs.Kinds.{Class}
use Rattle.stream_format.specs.Kinds.{Unknown, PreferenceRecord, NamedRecord, RunRecord}
use Rattle.stream_format.specs.ReadAnswer.{ReadAnswer}
use Rattle.stream_format.specs.declared.StreamRead.{StreamRead}
use Rattle.stream_format.specs.declared.ReadRefusal.{ReadRefusal}

-- ---- the figures of the record that bs begins with

-- the form of kind k; document 02, order 2: "Kind 08, refused by 2 until now, has BETWEEN's body."
unfoldable pub constructor_of : ℕ → List ℕ → Constructor
constructor_of k bs =
    cond (eqb k 1) (Lowest (int_at bs 2) (int_at bs 6) (word_at bs 10))
    (cond (eqb k 2) (Highest (int_at bs 2) (int_at bs 6) (word_at bs 10))
    (cond (eqb k 3) (Around (int_at bs 2) (int_at bs 6) (word_at bs 10) (int_at bs 14))
    (cond (eqb k 4) (Between (int_at bs 2) (int_at bs 6) (word_at bs 10) (int_at bs 14) (int_at bs 18))
    (cond (eqb k 8) (BetweenTrivial (int_at bs 2) (int_at bs 6) (word_at bs 10) (int_at bs 14) (int_at bs 18))
    (Layered (get_or bs 2 0) (get_or bs 3 0))))))

abbrev pub preference_of : List ℕ → Preference
preference_of bs = record { column = get_or bs 1 0; constructor = constructor_of (kind_byte bs) bs }

-- a named value, of the preference at place i
abbrev pub named_of : ℕ → List ℕ → Named
named_of i bs = record { preference = i; value = int_at bs 1; layer = get_or bs 5 0 }

-- n numbers of four bytes, the first at a place
unfoldable pub ints_at : ℕ → List ℕ → ℕ → List ℤ
ints_at zero bs at = []
ints_at (suc n) bs at = int_at bs at ∷ ints_at n bs (at + 4)

-- ---- the numbers of a record

abbrev pub last_constructor : PreferenceList → Constructor
last_constructor l = constructor_at l (l.count - 1)

abbrev pub is_layers : Layering → Bool
is_layers Numeric = false
is_layers (Layers top others) = true

-- the last preference is LAYERED: until a run comes, what was read last is LAYERED or NAMED
unfoldable pub ends_layered : PreferenceList → Bool
ends_layered l = ltb 0 l.count && is_layers (layering_of (last_constructor l))

-- 3: a wish after a run; "NAMED follows directly on LAYERED or NAMED"; a "run before any wish"
unfoldable pub out_of_place : Class → ReadAnswer → Bool
out_of_place Unknown r = false
out_of_place PreferenceRecord r = ltb 0 r.rows
out_of_place NamedRecord r = ltb 0 r.rows || not (ends_layered r.list)
out_of_place RunRecord r = eqb r.list.count 0

-- 6 for the layer of a named value, 7 for the 65th
unfoldable pub naming_refusal : PreferenceList → ℕ → ℕ
naming_refusal l layer = layer_refusal (last_constructor l) layer then leb max_named l.namedcount gives 7

-- 5, 6, 7 of a wish; 6, 7 of a named value; 7 for the 1,025th run
unfoldable pub figures_refusal : Class → ReadAnswer → List ℕ → ℕ
figures_refusal Unknown r bs = 0
figures_refusal PreferenceRecord r bs = preference_refusal r.list r.list.count (preference_of bs)
figures_refusal NamedRecord r bs = naming_refusal r.list (get_or bs 5 0)
figures_refusal RunRecord r bs = leb max_runs r.rows gives 7

abbrev pub is_unknown : Class → Bool
is_unknown Unknown = true
is_unknown PreferenceRecord = false
is_unknown NamedRecord = false
is_unknown RunRecord = false

-- the record that bs begins with, after what was read
unfoldable pub record_refusal : ReadAnswer → List ℕ → ℕ
record_refusal r bs =
    is_unknown (class_of bs) gives 2 then
    out_of_place (class_of bs) r gives 3 then
    leb (length bs) (body_of bs) gives 4 then
    figures_refusal (class_of bs) r bs

-- ---- what was read

-- "After reading, places past the counts are zero"
abbrev pub zero_list : PreferenceList
zero_list =
    record {
      count = 0;
      preferences = replicate max_wishes zero_preference;
      namedcount = 0;
      named = replicate max_named zero_named;
    }

abbrev pub add_preference : PreferenceList → Preference → PreferenceList
add_preference l p =
    record {
      count = l.count + 1;
      preferences = set l.preferences l.count p;
      namedcount = l.namedcount;
      named = l.named;
    }

abbrev pub add_named : PreferenceList → Named → PreferenceList
add_named l e =
    record {
      count = l.count;
      preferences = l.preferences;
      namedcount = l.namedcount + 1;
      named = set l.named l.namedcount e;
    }

-- NAMED "belongs to that wish": the last one
abbrev pub list_after : Class → PreferenceList → List ℕ → PreferenceList
list_after Unknown l bs = l
list_after PreferenceRecord l bs = add_preference l (preference_of bs)
list_after NamedRecord l bs = add_named l (named_of (l.count - 1) bs)
list_after RunRecord l bs = l

abbrev pub rows_after : Class → ℕ → ℕ
rows_after Unknown rows = rows
rows_after PreferenceRecord rows = rows
rows_after NamedRecord rows = rows
rows_after RunRecord rows = rows + 1

-- what was read with the record that bs begins with; its place is that of the next one
unfoldable pub with_record : ReadAnswer → List ℕ → ReadAnswer
with_record r bs =
    record {
      refusal = 0;
      place = r.place + (1 + body_of bs);
      rows = rows_after (class_of bs) r.rows;
      list = list_after (class_of bs) r.list bs;
    }

-- a refusal: "the number .., the byte place of the record .., the rows read and the wish list, both zero"
abbrev pub refused_at : ℕ → ℕ → ReadAnswer
refused_at n place = record { refusal = n; place = place; rows = 0; list = zero_list }

-- reading goes on at a place
abbrev pub reading : ℕ → ℕ → PreferenceList → ReadAnswer
reading place rows l = record { refusal = 0; place = place; rows = rows; list = l }

-- what a call's answer says of a stream
abbrev pub read_answer : Result StreamRead ReadRefusal → ReadAnswer
read_answer (Ok r) = reading r.place r.rows r.list
read_answer (Err e) = refused_at (number e.refusal) e.place

-- before the first record
abbrev pub start : ReadAnswer
start = refused_at 0 0

-- r where the checks give no number, else a refusal at the place
abbrev pub unless_refused : ℕ → ℕ → ReadAnswer → ReadAnswer
unless_refused zero place r = r
unless_refused (suc n) place r = refused_at (suc n) place

-- ---- record by record

-- the record that bs begins with, refused at its own place
unfoldable pub take_record : ReadAnswer → List ℕ → ReadAnswer
take_record r bs = unless_refused (record_refusal r bs) r.place (with_record r bs)

-- nothing is refused, and there is a record to read
abbrev pub goes : List ℕ → ReadAnswer → Bool
goes s r = eqb r.refusal 0 && ltb r.place (length s)

-- one record more, unless reading has ended
unfoldable pub step : List ℕ → ReadAnswer → ReadAnswer
step s r = cond (goes s r) (take_record r (drop r.place s)) r

unfoldable pub steps : ℕ → List ℕ → ReadAnswer → ReadAnswer
steps zero s r = r
steps (suc n) s r = steps n s (step s r)

-- every record: a stream has no more records than bytes
unfoldable pub records : List ℕ → ReadAnswer
records s = steps (length s) s start

-- "then 1; then 10, here only for a lent log shorter than the runs"
unfoldable pub end_refusal : ReadAnswer → ℕ → ℕ
end_refusal r room = eqb r.list.count 0 gives 1 then ltb room (columns * r.rows) gives 10

-- what was read of a stream of so many bytes, with a lent log of so many numbers
unfoldable pub finish : ReadAnswer → ℕ → ℕ → ReadAnswer
finish r len room = cond (eqb r.refusal 0) (unless_refused (end_refusal r room) len r) r

-- what reading a stream gives, with a lent log of so many numbers
unfoldable pub read_of : List ℕ → ℕ → ReadAnswer
read_of s room = finish (records s) (length s) room

-- ---- the log

abbrev pub values_under : Class → List ℕ → List ℤ
values_under Unknown bs = []
values_under PreferenceRecord bs = []
values_under NamedRecord bs = []
values_under RunRecord bs = ints_at 8 bs 1

-- the values of the runs among the first n records
unfoldable pub values_from : ℕ → List ℕ → List ℤ
values_from zero bs = []
values_from (suc n) bs = values_under (class_of bs) bs ++ values_from n (drop (1 + body_of bs) bs)

unfoldable pub values_of : List ℕ → List ℤ
values_of s = values_from (length s) s

-- "Its numbers past the runs are unchanged." "Nothing lent changes on a refusal"
unfoldable pub log_after : List ℕ → List ℤ → List ℤ
log_after s log = cond (eqb (read_of s (length log)).refusal 0) (sets log 0 (values_of s)) log
