-- An accepted stream has eight values for each of its runs.
use Rattle.std.specs.Prelude.{◌≡◌, Bool, ℤ, take}
use Rattle.std.proofs.Math.Path.{refl, ap}
use Rattle.std.proofs.Common.{sym, ◌∙◌, drop-drop, eq-eqb, ne_eqb, ltb-false}
use Prim.Native.Nat.{ℕ, zero, suc, ◌+◌, ◌*◌, ◌≤◌}
use native.Mathlib.Omega.{arith}
use Rattle.std.proofs.Math.Bool.{true, false}
use mathlib.Core.List.{List}
use Rattle.std.proofs.Math.ListN.{length, drop, length-append}
use Rattle.std.proofs.lemmas.List.Edits.{sets}
use Rattle.laws.specs.Laws.Stores.{stored_front}
use Rattle.stream_format.specs.Kinds.{class_of, body_of}
use Rattle.stream_format.specs.Read.{ints_at, rows_after, refused_at, with_record, goes, steps, start, records}
use Rattle.stream_format.specs.Read.{read_of, values_under, values_from, values_of, log_after}
use Rattle.stream_format.specs.Laws.Accepted.{read_accepted}
use Rattle.stream_format.specs.Laws.Read.{step_goes, steps_ended}
use Rattle.stream_format.specs.Laws.Values.{values_end}
use Rattle.stream_format.specs.Kinds.{Class}
use Rattle.stream_format.specs.Kinds.{Unknown, PreferenceRecord, NamedRecord, RunRecord}
use Rattle.stream_format.specs.ReadAnswer.{ReadAnswer}

rows_and_values : (class : Class) (bs : List ℕ) (rows : ℕ)
    → 8 * rows_after class rows ≡ 8 * rows + length (values_under class bs)
unfolding ints_at
rows_and_values Unknown bs rows = omega arith
rows_and_values PreferenceRecord bs rows = omega arith
rows_and_values NamedRecord bs rows = omega arith
rows_and_values RunRecord bs rows = omega arith

-- reading that is refused stays refused
pub refused_stays : (n : ℕ) (s : List ℕ) (k place : ℕ) → (steps n s (refused_at (suc k) place)).refusal ≡ 0 → ⊥
refused_stays n s k place e =
    let ended : goes s (refused_at (suc k) place) ≡ false = rw (ne_eqb (suc k) 0 (λ q. absurd (omega arith))) in
    omega (arith, ap (λ (r : ReadAnswer). r.refusal) (steps_ended n s (refused_at (suc k) place) ended))

module _ (s : List ℕ) where
  -- what n more steps add to the rows of r
  abbrev Adds : ℕ → ReadAnswer → ReadAnswer → Type 0
  Adds n r q =
      (steps n s q).refusal ≡ 0 → 8 * (steps n s q).rows ≡ 8 * r.rows + length (values_from n (drop r.place s))

  adds_going : (n : ℕ) (r : ReadAnswer) → goes s r ≡ true → ((q : ReadAnswer) → q.refusal ≡ 0 → Adds n q q)
      → Adds (suc n) r r
  unfolding steps values_from with_record
  adds_going n r g adds =
      let bs = drop r.place s in
      let v = values_under (class_of bs) bs in
      let rest = values_from n (drop (1 + body_of bs) bs) in
      let further : length (values_from n (drop (r.place + (1 + body_of bs)) s)) ≡ length rest =
      ap (λ (d : List ℕ). length (values_from n d)) (sym (drop-drop (1 + body_of bs) r.place s)) in
      step_goes
      (λ (q : ReadAnswer). (steps n s q).refusal ≡ 0
      → 8 * (steps n s q).rows ≡ 8 * r.rows + length (values_from (suc n) bs)) s r g
      (λ none e. adds (with_record r bs) refl e
      ∙ omega (arith, further, rows_and_values (class_of bs) bs r.rows, length-append v rest))
      (λ k q e. absurd (refused_stays n s k r.place e))

  adds_ended : (n : ℕ) (r : ReadAnswer) → r.refusal ≡ 0 → goes s r ≡ false → Adds n r r
  adds_ended n r z g e =
      let past = ltb-false r.place (length s) (rw (eq-eqb r.refusal 0 z) at g) in
      rw (steps_ended n s r g, values_end n r.place s past) (omega arith)

  adds : (n : ℕ) (r : ReadAnswer) → r.refusal ≡ 0 → Adds n r r
  unfolding steps values_from
  adds zero r z e = omega arith
  adds (suc n) r z e = by_going (goes s r) refl (adds n)
    where
      by_going : (b : Bool) → goes s r ≡ b → ((q : ReadAnswer) → q.refusal ≡ 0 → Adds n q q)
          → 8 * (steps (suc n) s r).rows ≡ 8 * r.rows + length (values_from (suc n) (drop r.place s))
      by_going true g more = adds_going n r g more e
      by_going false g more = adds_ended (suc n) r z g e

  pub values_long : (room : ℕ) → (read_of s room).refusal ≡ 0 → length (values_of s) ≡ 8 * (read_of s room).rows
  unfolding records values_of
  values_long room e =
      let a = read_accepted s room e in
      let all : 8 * (records s).rows ≡ 0 + length (values_of s) = adds (length s) start refl a.going_on in
      omega (arith, all, ap (λ (r : ReadAnswer). r.rows) a.answer)

  -- the lent log has room for them
  pub values_fit : (room : ℕ) → (read_of s room).refusal ≡ 0 → length (values_of s) ≤ room
  values_fit room e =
      let a = read_accepted s room e in
      omega (arith, values_long room e, a.fits, ap (λ (r : ReadAnswer). r.rows) a.answer)

-- the rows that reading leaves in the lent log are the values
pub log_read : (s : List ℕ) (lent : List ℤ) → (read_of s (length lent)).refusal ≡ 0
    → take (8 * (read_of s (length lent)).rows) (log_after s lent) ≡ values_of s
unfolding log_after
log_read s lent e =
    rw (eq-eqb (read_of s (length lent)).refusal 0 e)
    (ap (λ (n : ℕ). take n (sets lent 0 (values_of s))) (sym (values_long s (length lent) e))
    ∙ stored_front lent (values_of s) (values_fit s (length lent) e))
