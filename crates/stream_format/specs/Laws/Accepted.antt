-- An accepted stream: it was read to its end, and the place that comes back is its length.
use Rattle.std.specs.Prelude.{◌≡◌, refl, ℕ, zero, suc, ◌*◌, ◌<◌, ◌≤◌, Bool, List, ltb, eqb, length, drop}
use Rattle.std.proofs.Common.{ap, ◌∙◌, arith, length-drop}
use Rattle.std.proofs.Math.Nat.{pos_of_ne-zero}
use Rattle.std.proofs.Math.Bool.{true, false}
use borrow.Author.Tests.{ltb-false, eqb-true, eqb-false}
use Rattle.laws.specs.Checks.{◌gives◌}
use Rattle.laws.specs.Laws.Checks.{gives_none, then_none}
use Rattle.stream_format.specs.Read.{unless_refused, with_record, step, steps, start, records, end_refusal, finish}
use Rattle.stream_format.specs.Read.{read_of}
use Rattle.stream_format.specs.Midway.{Enough}
use Rattle.stream_format.specs.Laws.Read.{accepts, going, step_keeps, steps_keep, enough_step}
use Rattle.stream_format.specs.ReadAnswer.{ReadAnswer}

all_read : (n : ℕ) (s : List ℕ) (r : ReadAnswer) → Enough s r n → Enough s (steps n s r) 0
unfolding steps
all_read zero s r h = h
all_read (suc n) s r h = all_read n s (step s r) (enough_step s r n h)

-- a record ends within the stream
within : (s : List ℕ) (r : ReadAnswer) → r.place ≤ length s → (step s r).place ≤ length s
unfolding with_record
within s r h =
    let bs = drop r.place s in
    step_keeps (λ (a : ReadAnswer). a.place ≤ length s) s r
    (λ g e. omega (arith, (going s r g).1, (accepts r bs e).whole, length-drop r.place s))
    (λ k n. h)
    (λ g. h)

pub records_end : (s : List ℕ) → (records s).refusal ≡ 0 → (records s).place ≡ length s
unfolding records
records_end s e =
    let a = all_read (length s) s start (λ z. omega arith) e in
    let b = steps_keep (λ (a : ReadAnswer). a.place ≤ length s) s (within s) (length s) start (omega arith) in
    omega (arith, a, b)

pub record StreamAccepted (s : List ℕ) (room : ℕ) : Type 0 where
  pub answer : read_of s room ≡ records s
  pub going_on : (records s).refusal ≡ 0
  pub some : 0 < (records s).list.count
  pub fits : 8 * (records s).rows ≤ room

none : (n place : ℕ) (r : ReadAnswer) → (unless_refused n place r).refusal ≡ 0 → n ≡ 0
none zero place r e = refl
none (suc n) place r e = absurd (omega arith)

module _ (s : List ℕ) (room : ℕ) where
  by_refusal : (b : Bool) → eqb (records s).refusal 0 ≡ b → (read_of s room).refusal ≡ 0 → StreamAccepted s room
  unfolding read_of finish end_refusal
  by_refusal true t e =
      let r = records s in
      let n = none (end_refusal r room) (length s) r (rw t at e) in
      let d = then_none (eqb r.list.count 0 gives 1) (ltb room (8 * r.rows) gives 10) n in
      record {
        answer = rw (t, n);
        going_on = eqb-true r.refusal 0 t;
        some = pos_of_ne-zero (eqb-false r.list.count 0 (gives_none (eqb r.list.count 0) 0 d.0));
        fits = ltb-false room (8 * r.rows) (gives_none (ltb room (8 * r.rows)) 9 d.1);
      }
  by_refusal false t e = absurd (eqb-false (records s).refusal 0 t (rw t at e))

  pub read_accepted : (read_of s room).refusal ≡ 0 → StreamAccepted s room
  read_accepted e = by_refusal (eqb (records s).refusal 0) refl e

  pub read_place : (read_of s room).refusal ≡ 0 → (read_of s room).place ≡ length s
  read_place e =
      let a = read_accepted e in
      ap (λ (r : ReadAnswer). r.place) a.answer ∙ records_end s a.going_on
