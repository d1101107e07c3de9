-- Bytes that are whole records, and what reading them gives.
use Rattle.std.specs.Prelude.{◌≡◌, refl, leb, ℤ}
use Rattle.std.proofs.Math.Path.{sym, ap}
use Rattle.std.proofs.Common.{◌∙◌}
use Prim.Native.Nat.{ℕ, zero, suc, ◌+◌, ◌-◌, ◌*◌, ◌<◌, ◌≤◌}
use native.Mathlib.Omega.{arith}
use Rattle.std.proofs.Math.Bool.{false}
use mathlib.Core.List.{List, [], ◌∷◌, ◌++◌, append_assoc, append-nil}
use Rattle.std.proofs.Math.Dec.{eqb}
use Rattle.std.proofs.Math.ListN.{length, length-append}
use Rattle.std.proofs.Math.Seq.{drop_at}
use borrow.Author.Tests.{eq-eqb, ne_eqb, lt-ltb, le-ltb, lt-leb}
use Rattle.laws.specs.Checks.{◌gives◌, ◌then◌}
use Rattle.laws.specs.Laws.Checks.{then_next, gives_no}
use Rattle.stream_format.specs.Kinds.{kind_of, class_of, body_of}
use Rattle.stream_format.specs.Read.{out_of_place, figures_refusal, is_unknown, record_refusal, with_record, take_record, goes}
use Rattle.stream_format.specs.Read.{step, steps, start, records, end_refusal, finish, read_of, values_under, values_from}
use Rattle.stream_format.specs.Read.{values_of}
use Rattle.stream_format.specs.Laws.Read.{Accepts, unless_none, steps_ended, steps_add}
use Rattle.stream_format.specs.Laws.Values.{values_end}
use Rattle.stream_format.specs.ReadAnswer.{ReadAnswer}

-- read from the start, the bytes x give r, and the runs among them have the values v
pub record Reads (x : List ℕ) (v : List ℤ) (r : ReadAnswer) : Type 0 where
  pub count : ℕ
  pub few : count ≤ length x
  pub going : r.refusal ≡ 0
  pub place : r.place ≡ length x
  pub answers : (rest : List ℕ) → steps count (x ++ rest) start ≡ r
  pub values : (m : ℕ) (rest : List ℕ) → values_from (count + m) (x ++ rest) ≡ v ++ values_from m rest

pub reads_none : Reads [] [] start
unfolding steps
reads_none =
    record {
      count = 0;
      few = omega arith;
      going = refl;
      place = refl;
      answers = λ rest. refl;
      values = λ m rest. ap (λ (n : ℕ). values_from n rest) (omega arith);
    }

-- ---- one record more

accepted_none : (r : ReadAnswer) (bs : List ℕ) → Accepts r bs → record_refusal r bs ≡ 0
unfolding record_refusal
accepted_none r bs a =
    let cut = leb (length bs) (body_of bs) gives 4 in
    then_next (is_unknown (class_of bs) gives 2)
    (out_of_place (class_of bs) r gives 3 then cut then figures_refusal (class_of bs) r bs) (gives_no _ 2 a.known)
    ∙ then_next (out_of_place (class_of bs) r gives 3) (cut then figures_refusal (class_of bs) r bs)
    (gives_no _ 3 a.placed)
    ∙ then_next cut (figures_refusal (class_of bs) r bs) (gives_no _ 4 (lt-leb _ _ a.whole))
    ∙ a.figures

step_on : (x bs : List ℕ) (r : ReadAnswer) → r.refusal ≡ 0 → r.place ≡ length x → Accepts r bs
    → step (x ++ bs) r ≡ with_record r bs
unfolding step take_record
step_on x bs r e f a =
    let l : r.place < length (x ++ bs) = omega (arith, length-append x bs, a.whole) in
    rw (eq-eqb r.refusal 0 e, lt-ltb r.place (length (x ++ bs)) l, drop_at x bs r.place (sym f))
    (unless_none (record_refusal r bs) r.place (with_record r bs) (accepted_none r bs a))

module _ (x : List ℕ) (v : List ℤ) (r : ReadAnswer) (h : Reads x v r) (k : ℕ) (b : List ℕ)
    (whole : length b ≡ (kind_of k).body) where
  -- the record of kind k with the body b
  pub reads_more : (r' : ReadAnswer) (w : List ℤ) → ((rest : List ℕ) → Accepts r (k ∷ b ++ rest))
      → ((rest : List ℕ) → with_record r (k ∷ b ++ rest) ≡ r')
      → ((rest : List ℕ) → values_under (kind_of k).class (k ∷ b ++ rest) ≡ w) → Reads (x ++ k ∷ b) (v ++ w) r'
  unfolding with_record steps values_from
  reads_more r' w a e u =
      record {
        count = h.count + 1;
        few = omega (arith, h.few, length-append x (k ∷ b));
        going = sym (ap (λ (y : ReadAnswer). y.refusal) (e []));
        place = sym (ap (λ (y : ReadAnswer). y.place) (e [])) ∙ omega (arith, h.place, length-append x (k ∷ b));
        answers = λ rest.
            let s : (x ++ k ∷ b) ++ rest ≡ x ++ (k ∷ b ++ rest) = append_assoc x (k ∷ b) rest in
            rw s (steps_add h.count 1 (x ++ (k ∷ b ++ rest)) start
            ∙ rw (h.answers (k ∷ b ++ rest))
            (step_on x (k ∷ b ++ rest) r h.going h.place (a rest) ∙ e rest));
        values = λ m rest.
            let n : h.count + 1 + m ≡ h.count + suc m = omega arith in
            rw (
              n,
              append_assoc x (k ∷ b) rest,
              h.values (suc m) (k ∷ b ++ rest),
              u rest,
              drop_at (k ∷ b) rest (1 + (kind_of k).body) (omega arith),
            )
            (sym (append_assoc v w (values_from m rest)));
      }

-- ---- the end of the stream

module _ (s : List ℕ) (v : List ℤ) (r : ReadAnswer) (h : Reads s v r) where
  pub reads_records : records s ≡ r
  unfolding records
  reads_records =
      let n : length s ≡ h.count + (length s - h.count) = omega (arith, h.few) in
      let given : steps h.count s start ≡ r =
      ap (λ (t : List ℕ). steps h.count t start) (sym (append-nil s)) ∙ h.answers [] in
      let ended : goes s r ≡ false =
      rw (eq-eqb r.refusal 0 h.going) (le-ltb r.place (length s) (omega (arith, h.place))) in
      ap (λ (m : ℕ). steps m s start) n ∙ steps_add h.count (length s - h.count) s start
      ∙ rw given (steps_ended (length s - h.count) s r ended)

  pub reads_values : values_of s ≡ v
  unfolding values_of
  reads_values =
      let m = length s - h.count in
      let n : length s ≡ h.count + m = omega (arith, h.few) in
      ap (λ (k : ℕ). values_from k s) n ∙ ap (values_from (h.count + m)) (sym (append-nil s)) ∙ h.values m []
      ∙ rw (values_end m 0 [] (omega arith)) (append-nil v)

  pub reads_answer : (room : ℕ) → 0 < r.list.count → 8 * r.rows ≤ room → read_of s room ≡ r
  unfolding read_of finish end_refusal
  reads_answer room some fits =
      let one = eqb r.list.count 0 gives 1 in
      let none : end_refusal r room ≡ 0 =
      then_next one _ (gives_no _ 1 (ne_eqb r.list.count 0 (λ q. absurd (omega arith))))
      ∙ gives_no _ 10 (le-ltb room (8 * r.rows) fits) in
      rw (reads_records, eq-eqb r.refusal 0 h.going) (unless_none (end_refusal r room) (length s) r none)
