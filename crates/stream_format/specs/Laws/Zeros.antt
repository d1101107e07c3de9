-- Document 01: "After reading, places past the counts are zero", whatever the stream was.
use Rattle.std.specs.Prelude.{◌≡◌, refl, ℕ, zero, suc, ◌-◌, ◌≤◌, Bool, true, false, cond, List, eqb, length, get_or, drop, replicate}
use Rattle.std.proofs.Common.{◌∙◌, arith, get_or-set_other}
use Rattle.preference.specs.List.{zero_preference, zero_named, preference_at, named_at}
use Rattle.preference.specs.declared.Named.{Named}
use Rattle.preference.specs.declared.Preference.{Preference}
use Rattle.preference.specs.declared.PreferenceList.{PreferenceList}
use Rattle.stream_format.specs.Kinds.{class_of}
use Rattle.stream_format.specs.Read.{preference_of, named_of, zero_list, add_preference, add_named, list_after}
use Rattle.stream_format.specs.Read.{with_record, unless_refused, step, start, records, end_refusal, finish, read_of}
use Rattle.stream_format.specs.Laws.Read.{step_keeps, steps_keep}
use Rattle.stream_format.specs.Kinds.{Class}
use Rattle.stream_format.specs.Kinds.{Unknown, PreferenceRecord, NamedRecord, RunRecord}
use Rattle.stream_format.specs.ReadAnswer.{ReadAnswer}

-- what stands past the counts of a list is zero
pub record ZeroPast (l : PreferenceList) : Type 0 where
  pub preferences_zero : (i : ℕ) → l.count ≤ i → preference_at l i ≡ zero_preference
  pub named_zero : (k : ℕ) → l.namedcount ≤ k → named_at l k ≡ zero_named

all_one : {A : Type 0} (n i : ℕ) (x : A) → get_or (replicate n x) i x ≡ x
all_one zero i x = refl
all_one (suc n) zero x = refl
all_one (suc n) (suc i) x = all_one n i x

list_zero : ZeroPast zero_list
list_zero =
    record { preferences_zero = λ i h. all_one 8 i zero_preference; named_zero = λ k h. all_one 64 k zero_named }

module _ (l : PreferenceList) (z : ZeroPast l) where
  preference_added : (p : Preference) → ZeroPast (add_preference l p)
  preference_added p = record {
    preferences_zero = λ i h.
        get_or-set_other l.preferences l.count i p zero_preference (λ e. omega arith)
        ∙ z.preferences_zero i (omega arith);
    named_zero = z.named_zero;
  }

  named_added : (n : Named) → ZeroPast (add_named l n)
  named_added n = record {
    preferences_zero = z.preferences_zero;
    named_zero =
        λ k h. get_or-set_other l.named l.namedcount k n zero_named (λ e. omega arith)
        ∙ z.named_zero k (omega arith);
  }

  zero_after : (class : Class) (bs : List ℕ) → ZeroPast (list_after class l bs)
  zero_after Unknown bs = z
  zero_after PreferenceRecord bs = preference_added (preference_of bs)
  zero_after NamedRecord bs = named_added (named_of (l.count - 1) bs)
  zero_after RunRecord bs = z

zero_step : (s : List ℕ) (r : ReadAnswer) → ZeroPast r.list → ZeroPast (step s r).list
unfolding with_record
zero_step s r z =
    let bs = drop r.place s in
    step_keeps (λ (a : ReadAnswer). ZeroPast a.list) s r (λ g e. zero_after r.list z (class_of bs) bs)
    (λ k e. list_zero) (λ g. z)

zero_records : (s : List ℕ) → ZeroPast (records s).list
unfolding records
zero_records s = steps_keep (λ (a : ReadAnswer). ZeroPast a.list) s (zero_step s) (length s) start list_zero

unless_zero : (n place : ℕ) (r : ReadAnswer) → ZeroPast r.list → ZeroPast (unless_refused n place r).list
unless_zero zero place r z = z
unless_zero (suc n) place r z = list_zero

pub read_zero : (s : List ℕ) (room : ℕ) → ZeroPast (read_of s room).list
unfolding read_of finish
read_zero s room = go (eqb (records s).refusal 0)
  where
    go : (t : Bool)
        → ZeroPast (cond t (unless_refused (end_refusal (records s) room) (length s) (records s)) (records s)).list
    go true = unless_zero (end_refusal (records s) room) (length s) (records s) (zero_records s)
    go false = zero_records s
