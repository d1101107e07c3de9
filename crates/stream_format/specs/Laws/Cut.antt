-- A stream that is longer than every accepted one reads as its front does, where that reaches past the record that is
-- refused: no record begins behind byte 34,334, and none has more than 33 bytes.
use Rattle.std.specs.Prelude.{◌≡◌, Bool, List, get_or, drop, take}
use Rattle.std.proofs.Math.Path.{refl, sym, ap}
use Rattle.std.proofs.Common.{◌∙◌, length-drop, length-take-le, get_or-take, get_or-drop}
use Prim.Native.Nat.{ℕ, zero, suc, ◌+◌, ◌-◌, ◌<◌, ◌≤◌}
use native.Mathlib.Omega.{arith}
use Rattle.std.proofs.Math.Bool.{true, false}
use Rattle.std.proofs.Math.Dec.{ltb, leb, eqb}
use Rattle.std.proofs.Math.ListN.{length}
use borrow.Author.Tests.{lt-ltb, lt-leb, ne_eqb, eqb-true}
use Rattle.word.specs.Word.{word_at, int_at}
use Rattle.preference.specs.declared.PreferenceList.{PreferenceList}
use Rattle.stream_format.specs.Kinds.{kind_of, kind_byte, class_of, body_of}
use Rattle.stream_format.specs.Read.{constructor_of, preference_of, named_of, figures_refusal, record_refusal}
use Rattle.stream_format.specs.Read.{list_after, with_record, take_record, goes, step, steps, start, records, finish}
use Rattle.stream_format.specs.Read.{read_of}
use Rattle.stream_format.specs.Laws.Kinds.{body_short}
use Rattle.stream_format.specs.Laws.Read.{steps_keep, steps_ended, steps_add}
use Rattle.stream_format.specs.Laws.Accepted.{records_end}
use Rattle.stream_format.specs.Laws.Longest.{Kept, kept_start, kept_step, kept_small}
use Rattle.stream_format.specs.Kinds.{Class}
use Rattle.stream_format.specs.Kinds.{Unknown, PreferenceRecord, NamedRecord, RunRecord}
use Rattle.stream_format.specs.ReadAnswer.{ReadAnswer}

-- ---- what a record says stands in its first 33 bytes

record Front (xs ys : List ℕ) : Type 0 where
  first_long : 33 ≤ length xs
  second_long : 33 ≤ length ys
  same : (i : ℕ) → i < 33 → get_or xs i 0 ≡ get_or ys i 0

module _ (xs ys : List ℕ) (f : Front xs ys) where
  word_front : (at : ℕ) → at + 4 ≤ 33 → word_at xs at ≡ word_at ys at
  unfolding word_at
  word_front at h =
      rw (
        f.same at (omega arith),
        f.same (at + 1) (omega arith),
        f.same (at + 2) (omega arith),
        f.same (at + 3) (omega arith),
      )

  int_front : (at : ℕ) → at + 4 ≤ 33 → int_at xs at ≡ int_at ys at
  unfolding int_at
  int_front at h = rw (word_front at h)

  kind_front : kind_byte xs ≡ kind_byte ys
  kind_front = f.same 0 (omega arith)

  class_front : class_of xs ≡ class_of ys
  class_front = ap (λ k. (kind_of k).class) kind_front

  body_front : body_of xs ≡ body_of ys
  body_front = ap (λ k. (kind_of k).body) kind_front

  constructor_front : (k : ℕ) → constructor_of k xs ≡ constructor_of k ys
  unfolding constructor_of
  constructor_front k =
      rw (
        int_front 2 (omega arith),
        int_front 6 (omega arith),
        word_front 10 (omega arith),
        int_front 14 (omega arith),
        int_front 18 (omega arith),
        f.same 2 (omega arith),
        f.same 3 (omega arith),
      )

  preference_front : preference_of xs ≡ preference_of ys
  preference_front = rw (f.same 1 (omega arith), kind_front, constructor_front (kind_byte ys))

  named_front : (i : ℕ) → named_of i xs ≡ named_of i ys
  named_front i = rw (int_front 1 (omega arith), f.same 5 (omega arith))

  list_front : (class : Class) (l : PreferenceList) → list_after class l xs ≡ list_after class l ys
  list_front Unknown l = refl
  list_front PreferenceRecord l = rw preference_front
  list_front NamedRecord l = rw (named_front (l.count - 1))
  list_front RunRecord l = refl

  figures_front : (class : Class) (r : ReadAnswer) → figures_refusal class r xs ≡ figures_refusal class r ys
  unfolding figures_refusal
  figures_front Unknown r = refl
  figures_front PreferenceRecord r = rw preference_front
  figures_front NamedRecord r = rw (f.same 5 (omega arith))
  figures_front RunRecord r = refl

  refusal_front : (r : ReadAnswer) → record_refusal r xs ≡ record_refusal r ys
  unfolding record_refusal
  refusal_front r =
      let body = body_short (kind_byte ys) in
      let whole : leb (length xs) (body_of ys)
      ≡ false = lt-leb (length xs) (body_of ys) (omega (arith, f.first_long)) in
      let whole-too : leb (length ys) (body_of ys) ≡ false =
      lt-leb (length ys) (body_of ys) (omega (arith, f.second_long)) in
      rw (class_front, body_front, whole, whole-too, figures_front (class_of ys) r)

  record_front : (r : ReadAnswer) → take_record r xs ≡ take_record r ys
  unfolding take_record with_record
  record_front r = rw (refusal_front r, class_front, body_front, list_front (class_of ys) r.list)

-- ---- a stream s, cut at byte n

module _ (s : List ℕ) (n : ℕ) (late : 34367 ≤ n) (long : n ≤ length s) where
  abbrev cut : List ℕ
  cut = take n s

  cut_long : length cut ≡ n
  cut_long = length-take-le n s long

  front : (place : ℕ) → place ≤ 34334 → Front (drop place cut) (drop place s)
  front place h =
      record {
        first_long = omega (arith, length-drop place cut, cut_long);
        second_long = omega (arith, length-drop place s);
        same =
            λ i k. get_or-drop place cut i 0 ∙ get_or-take n s (place + i) 0 (omega arith)
            ∙ sym (get_or-drop place s i 0);
      }

  step_cut : (r : ReadAnswer) → Kept r → step cut r ≡ step s r
  unfolding step
  step_cut r k = by_refusal (eqb r.refusal 0) refl
    where
      by_refusal : (b : Bool) → eqb r.refusal 0 ≡ b → step cut r ≡ step s r
      by_refusal false e = rw e
      by_refusal true e =
          let small = kept_small r k (eqb-true r.refusal 0 e) in
          let before : ltb r.place (length cut) ≡ true = lt-ltb r.place (length cut) (omega (arith, cut_long)) in
          let before-too : ltb r.place (length s) ≡ true = lt-ltb r.place (length s) (omega arith) in
          rw (e, before, before-too) (record_front _ _ (front r.place small) r)

  steps_cut : (m : ℕ) (r : ReadAnswer) → Kept r → steps m cut r ≡ steps m s r
  unfolding steps
  steps_cut zero r k = refl
  steps_cut (suc m) r k = ap (steps m cut) (step_cut r k) ∙ steps_cut m (step s r) (kept_step s r k)

  kept_cut : Kept (steps n s start)
  kept_cut = steps_keep Kept s (kept_step s) n start kept_start

  cut_is : records cut ≡ steps n s start
  unfolding records
  cut_is = ap (λ m. steps m cut start) cut_long ∙ steps_cut n start kept_start

  -- the front does not end without a refusal, since it is too long
  refused_there : (records cut).refusal ≡ 0 → ⊥
  refused_there z = omega (arith, records_end cut z, cut_long, kept_small (records cut) (rw cut_is kept_cut) z)

  records_cut : records cut ≡ records s
  unfolding records
  records_cut =
      let over : goes s (records cut) ≡ false = rw (ne_eqb (records cut).refusal 0 refused_there) in
      let rest : n + (length s - n) ≡ length s = omega arith in
      sym (steps_ended (length s - n) s (records cut) over) ∙ ap (steps (length s - n) s) cut_is
      ∙ sym (steps_add n (length s - n) s start) ∙ ap (λ m. steps m s start) rest

  still : (room : ℕ) → read_of cut room ≡ records cut
  unfolding read_of finish
  still room = rw (ne_eqb (records cut).refusal 0 refused_there)

  pub cut_refused : (room : ℕ) → (read_of cut room).refusal ≡ 0 → ⊥
  cut_refused room e = refused_there (ap (λ (r : ReadAnswer). r.refusal) (sym (still room)) ∙ e)

  pub read_cut : (room : ℕ) → read_of cut room ≡ read_of s room
  unfolding read_of finish
  read_cut room = still room ∙ records_cut ∙ rw (← records_cut, ne_eqb (records cut).refusal 0 refused_there)
