-- Reading record by record: what an accepted record has, what each step keeps, and that reading that has ended stays.
use Rattle.std.specs.Prelude.{◌≡◌, refl, Bool, true, false, leb, ltb, eqb, List, length, get_or}
use Rattle.std.proofs.Common.{ap, ◌∙◌, sym, arith, zero-add, suc-add}
use Prim.Native.Nat.{ℕ, zero, suc, ◌+◌, ◌≤◌, ◌<◌}
use borrow.Author.Tests.{eq-eqb, ne_eqb, leb-false, eqb-true, ltb-true, ltb-false}
use Rattle.std.proofs.Math.ListN.{drop}
use Rattle.laws.specs.Checks.{◌gives◌}
use Rattle.laws.specs.Laws.Bools.{both}
use Rattle.laws.specs.Laws.Checks.{gives_none, then_none}
use Rattle.constructor.specs.Valid.{layer_refusal}
use Rattle.preference.specs.declared.PreferenceList.{PreferenceList}
use Rattle.stream_format.specs.Kinds.{class_of, body_of}
use Rattle.stream_format.specs.Read.{preference_of, last_constructor, out_of_place, naming_refusal, figures_refusal}
use Rattle.stream_format.specs.Read.{is_unknown, record_refusal, list_after, refused_at, unless_refused, with_record}
use Rattle.stream_format.specs.Read.{take_record, goes, step, steps, start, records}
use Rattle.stream_format.specs.Midway.{Columns, to_read, Enough, Midway}
use Rattle.stream_format.specs.Laws.Columns.{columns_zero, columns_room, columns_added}
use Rattle.stream_format.specs.Kinds.{Class}
use Rattle.stream_format.specs.Kinds.{Unknown, PreferenceRecord, NamedRecord, RunRecord}
use Rattle.stream_format.specs.ReadAnswer.{ReadAnswer}

-- a record that is not refused
pub record Accepts (r : ReadAnswer) (bs : List ℕ) : Type 0 where
  pub known : is_unknown (class_of bs) ≡ false
  pub placed : out_of_place (class_of bs) r ≡ false
  pub whole : body_of bs < length bs
  pub figures : figures_refusal (class_of bs) r bs ≡ 0

pub accepts : (r : ReadAnswer) (bs : List ℕ) → record_refusal r bs ≡ 0 → Accepts r bs
unfolding record_refusal
accepts r bs e =
    let a = then_none (is_unknown (class_of bs) gives 2) _ e in
    let b = then_none (out_of_place (class_of bs) r gives 3) _ a.1 in
    let d = then_none (leb (length bs) (body_of bs) gives 4) (figures_refusal (class_of bs) r bs) b.1 in
    record {
      known = gives_none (is_unknown (class_of bs)) 1 a.0;
      placed = gives_none (out_of_place (class_of bs) r) 2 b.0;
      whole = leb-false (length bs) (body_of bs) (gives_none (leb (length bs) (body_of bs)) 3 d.0);
      figures = d.1;
    }

-- there is room for it
pub naming_room : (l : PreferenceList) (layer : ℕ) → naming_refusal l layer ≡ 0 → l.namedcount < 64
unfolding naming_refusal
naming_room l layer e =
    leb-false 64 l.namedcount
    (gives_none (leb 64 l.namedcount) 6 (then_none (layer_refusal (last_constructor l) layer) _ e).1)

module _ (r : ReadAnswer) (bs : List ℕ) (a : Accepts r bs) where
  pub preference_room : Columns r.list → class_of bs ≡ PreferenceRecord → r.list.count < 8
  unfolding figures_refusal
  preference_room h e = columns_room r.list (preference_of bs) h (rw e at a.figures)

  pub named_room : class_of bs ≡ NamedRecord → r.list.namedcount < 64
  unfolding figures_refusal
  named_room e = naming_room r.list (get_or bs 5 0) (rw e at a.figures)

  pub run_room : class_of bs ≡ RunRecord → r.rows < 1024
  unfolding figures_refusal
  run_room e = leb-false 1024 r.rows (gives_none (leb 1024 r.rows) 6 (rw e at a.figures))

pub unless_none : (n place : ℕ) (r : ReadAnswer) → n ≡ 0 → unless_refused n place r ≡ r
unless_none zero place r e = refl
unless_none (suc n) place r e = absurd (omega arith)

pub unless_some : (n place : ℕ) (r : ReadAnswer) → (n ≡ 0 → ⊥) → unless_refused n place r ≡ refused_at n place
unless_some zero place r h = absurd (h refl)
unless_some (suc n) place r h = refl

-- ---- what a step keeps

module _ (P : ReadAnswer → Type 0) (s : List ℕ) where
  taken : (place : ℕ) (y : ReadAnswer) (n : ℕ) → (n ≡ 0 → P y) → ((k : ℕ) → n ≡ suc k → P (refused_at (suc k) place))
      → P (unless_refused n place y)
  taken place y zero f g = f refl
  taken place y (suc n) f g = g n refl

  -- a step goes on with the record, or refuses it
  pub step_goes : (r : ReadAnswer) → goes s r ≡ true
      → (record_refusal r (drop r.place s) ≡ 0 → P (with_record r (drop r.place s)))
      → ((k : ℕ) → record_refusal r (drop r.place s) ≡ suc k → P (refused_at (suc k) r.place)) → P (step s r)
  unfolding step take_record
  step_goes r e f g = let bs = drop r.place s in rw e (taken r.place (with_record r bs) (record_refusal r bs) f g)

  step_stays : (r : ReadAnswer) → goes s r ≡ false → P r → P (step s r)
  unfolding step
  step_stays r e p = rw e p

  pub step_keeps : (r : ReadAnswer)
      → (goes s r ≡ true → record_refusal r (drop r.place s) ≡ 0 → P (with_record r (drop r.place s)))
      → ((k : ℕ) → record_refusal r (drop r.place s) ≡ suc k → P (refused_at (suc k) r.place))
      → (goes s r ≡ false → P r) → P (step s r)
  step_keeps r f g p = by_going (goes s r) refl
    where
      by_going : (b : Bool) → goes s r ≡ b → P (step s r)
      by_going true e = step_goes r e (f e) g
      by_going false e = step_stays r e (p e)

  pub steps_keep : ((r : ReadAnswer) → P r → P (step s r)) → (n : ℕ) (r : ReadAnswer) → P r → P (steps n s r)
  unfolding steps
  steps_keep f zero r p = p
  steps_keep f (suc n) r p = steps_keep f n (step s r) (f r p)

-- m steps, and n more
pub steps_add : (m n : ℕ) (s : List ℕ) (r : ReadAnswer) → steps (m + n) s r ≡ steps n s (steps m s r)
unfolding steps
steps_add zero n s r = rw (zero-add n)
steps_add (suc m) n s r = rw (suc-add m n) (steps_add m n s (step s r))

-- the columns of the list
columns_after : (class : Class) (r : ReadAnswer) (bs : List ℕ) → Columns r.list → figures_refusal class r bs ≡ 0
    → Columns (list_after class r.list bs)
unfolding figures_refusal
columns_after Unknown r bs h e = h
columns_after PreferenceRecord r bs h e = columns_added r.list _ h e
columns_after NamedRecord r bs h e = record { places = h.places; low = h.low; apart = h.apart }
columns_after RunRecord r bs h e = h

pub columns_step : (s : List ℕ) (r : ReadAnswer) → Columns r.list → Columns (step s r).list
unfolding with_record
columns_step s r h =
    let bs = drop r.place s in
    step_keeps (λ (a : ReadAnswer). Columns a.list) s r
    (λ g e. columns_after (class_of bs) r bs h (accepts r bs e).figures) (λ k n. columns_zero) (λ g. h)

pub columns_steps : (s : List ℕ) (n : ℕ) → Columns (steps n s start).list
columns_steps s n = steps_keep (λ (a : ReadAnswer). Columns a.list) s (columns_step s) n start columns_zero

-- ---- reading ends

pub steps_ended : (n : ℕ) (s : List ℕ) (r : ReadAnswer) → goes s r ≡ false → steps n s r ≡ r
unfolding steps step
steps_ended zero s r e = refl
steps_ended (suc n) s r e =
    let still : step s r ≡ r = rw e in
    ap (steps n s) still ∙ steps_ended n s r e

pub going : (s : List ℕ) (r : ReadAnswer) → goes s r ≡ true → (r.refusal ≡ 0) × (r.place < length s)
going s r e =
    let h = both (eqb r.refusal 0) (ltb r.place (length s)) e in
    (eqb-true r.refusal 0 h.0, ltb-true r.place (length s) h.1)

-- what is left to read falls with each step
pub to_read_falls : (s : List ℕ) (r : ReadAnswer) → goes s r ≡ true → to_read s (step s r) < to_read s r
unfolding to_read with_record
to_read_falls s r e =
    let h = going s r e in
    step_goes (λ (a : ReadAnswer). to_read s a < to_read s r) s r e
    (λ n. rw (eq-eqb r.refusal 0 h.0) (omega (arith, h.1)))
    (λ k n. rw (eq-eqb r.refusal 0 h.0, ne_eqb (suc k) 0 (λ q. absurd (omega arith))) (omega (arith, h.1)))

stopped : (s : List ℕ) (r : ReadAnswer) → goes s r ≡ false → r.refusal ≡ 0 → length s ≤ r.place
stopped s r e z = ltb-false r.place (length s) (rw (eq-eqb r.refusal 0 z) at e)

pub enough_step : (s : List ℕ) (r : ReadAnswer) (n : ℕ) → Enough s r (suc n) → Enough s (step s r) n
unfolding with_record
enough_step s r n h =
    step_keeps (λ (a : ReadAnswer). Enough s a n) s r
    (λ g e z. omega (arith, h (going s r g).0))
    (λ k n z. absurd (omega arith))
    (λ g z. omega (arith, stopped s r g z))

pub midway_start : (s : List ℕ) → Midway s start
unfolding records
midway_start s = record { left = length s; whole = refl; enough = λ e. omega arith; columns = columns_zero }

next : (s : List ℕ) (r : ReadAnswer) (n : ℕ) → goes s r ≡ true → steps n s r ≡ records s → Enough s r n
    → Columns r.list → Midway s (step s r)
unfolding steps
next s r zero e w k h = let z : ⊥ = omega (arith, (going s r e).1, k (going s r e).0) in absurd z
next s r (suc n) e w k h = record { left = n; whole = w; enough = enough_step s r n k; columns = columns_step s r h }

pub midway_step : (s : List ℕ) (r : ReadAnswer) → goes s r ≡ true → Midway s r → Midway s (step s r)
midway_step s r e m = next s r m.left e m.whole m.enough m.columns

pub midway_end : (s : List ℕ) (r : ReadAnswer) → goes s r ≡ false → Midway s r → r ≡ records s
midway_end s r e m = sym (steps_ended m.left s r e) ∙ m.whole
