-- From what the functions of the call did to what it answers and leaves, and back.
use Rattle.std.specs.Prelude.{◌≡◌, ℕ, ◌+◌, ◌*◌, ◌<◌, ◌≤◌, List, ◌++◌, ℤ, length, drop}
use Rattle.std.proofs.Math.Path.{sym, ap}
use Rattle.std.proofs.Common.{◌∙◌, arith, zero-add}
use Rattle.std.proofs.lemmas.List.Edits.{sets-eq}
use borrow.Author.Tests.{lt-ltb, le-ltb, ltb-false, eq-eqb, ne_eqb}
use Rattle.laws.specs.Checks.{◌then◌}
use Rattle.laws.specs.Outcome.{Outcome, accepted, refused}
use Rattle.laws.specs.Laws.Checks.{gives_yes, gives_no, gives_none, then_first, then_next, then_none}
use Rattle.laws.specs.Laws.Outcome.{outcome_accepted, outcome_refused, accepted_refusal, accepted_value}
use Rattle.laws.specs.Laws.Outcome.{refused_refusal}
use Rattle.run_log.specs.Log.{row_count, log_refusal, marked_rows}
use Rattle.run_log.specs.Laws.Log.{accepted as accepted-log}
use Rattle.run_log.specs.Laws.Marks.{marked_in_order}
use Rattle.output.specs.Puts.{Puts}
use Rattle.output.specs.Laws.Puts.{Stands, puts_stands}
use Rattle.output.specs.Prints.{Prints}
use Rattle.output.specs.Laws.Prints.{prints_whole}
use Rattle.sheet_pages.specs.Pages.{page_count, pages_of, sheet_of}
use Rattle.sheet_pages.specs.Call.{handed_refusal, room_refusal, sheet_refusal, out_after, SheetLeft}
use Rattle.sheet_pages.specs.Laws.Pages.{pages_long, pages_short}

-- ---- a call that is refused, or accepted

module _ (refusal : ℕ) (sheet out : List ℕ) where
  pub left_refused : (k : ℕ) → refusal ≡ k → (k ≡ 0 → ⊥) → SheetLeft refusal sheet out (refused k) out
  unfolding out_after
  left_refused k e z =
      record { answer_is = rw e (sym (outcome_refused k (length sheet) z)); out_is = rw (e, ne_eqb k 0 z) }

  pub left_accepted : (n : ℕ) (out' : List ℕ) → refusal ≡ 0 → n ≡ length sheet
      → out' ≡ sheet ++ drop (length sheet) out → SheetLeft refusal sheet out (accepted n) out'
  unfolding out_after
  left_accepted n out' e v o =
      record {
        answer_is = ap accepted v ∙ sym (outcome_accepted refusal (length sheet) e);
        out_is = o ∙ rw (eq-eqb refusal 0 e);
      }

  module _ (out' : List ℕ) where
    pub refused_left : (k : ℕ) → SheetLeft refusal sheet out (refused k) out'
        → (refusal ≡ k) × (k ≡ 0 → ⊥) × (out' ≡ out)
    unfolding out_after
    refused_left k a =
        let n = refused_refusal refusal (length sheet) k a.answer_is in
        (n.0, λ z. n.1 (n.0 ∙ z), a.out_is ∙ rw (ne_eqb refusal 0 n.1))

    pub accepted_left : (n : ℕ) → SheetLeft refusal sheet out (accepted n) out'
        → (refusal ≡ 0) × (n ≡ length sheet) × (out' ≡ sheet ++ drop (length sheet) out)
    unfolding out_after
    accepted_left n a =
        let k = accepted_refusal refusal (length sheet) n a.answer_is in
        (k, accepted_value refusal (length sheet) n a.answer_is, a.out_is ∙ rw (eq-eqb refusal 0 k))

  -- an answer by another name
  pub left_told : (answer answer' : Outcome ℕ) (out' : List ℕ) → answer' ≡ answer
      → SheetLeft refusal sheet out answer out' → SheetLeft refusal sheet out answer' out'
  left_told answer answer' out' e a = record { answer_is = e ∙ a.answer_is; out_is = a.out_is }

-- where the checks before give no number
pub left_next : (before after : ℕ) (sheet out : List ℕ) (answer : Outcome ℕ) (out' : List ℕ) → before ≡ 0
    → SheetLeft after sheet out answer out' → SheetLeft (before then after) sheet out answer out'
left_next before after sheet out answer out' z a = rw (then_next before after z) a

-- ---- room for all pages

pub room_lacks : (sheet : List ℕ) (room : ℕ) → room < length sheet → room_refusal sheet room ≡ 15
unfolding room_refusal
room_lacks sheet room h = gives_yes _ 15 (lt-ltb room (length sheet) h)

pub room_enough : (sheet : List ℕ) (room : ℕ) → length sheet ≤ room → room_refusal sheet room ≡ 0
unfolding room_refusal
room_enough sheet room h = gives_no _ 15 (le-ltb room (length sheet) h)

pub room_fits : (sheet : List ℕ) (room : ℕ) → room_refusal sheet room ≡ 0 → length sheet ≤ room
unfolding room_refusal
room_fits sheet room e = ltb-false room (length sheet) (gives_none _ 14 e)

module _ (log : List ℤ) (rows out : List ℕ) (n : ℕ) (e : n ≡ 102 * (length rows + 2 * page_count (length rows))) where
  abbrev sheet : List ℕ
  sheet = pages_of log rows

  long : length sheet ≡ n
  long = pages_long log rows ∙ sym e

  pub rows_refused : length out < n → SheetLeft (room_refusal sheet (length out)) sheet out (refused 15) out
  rows_refused h =
      left_refused _ sheet out 15 (room_lacks sheet (length out) (omega (arith, long))) (λ z. absurd (omega arith))

  pub rows_printed : (last : List ℕ) (next : ℕ) → n ≤ length out → length rows ≤ 1024 → Prints out last 0 next sheet
      → SheetLeft (room_refusal sheet (length out)) sheet out (accepted n) last
  rows_printed last next h small p =
      let fits : length sheet ≤ length out = omega (arith, long) in
      let q = prints_whole out last 0 next sheet (omega (arith, pages_short log rows small)) p in
      left_accepted _ sheet out n last (room_enough sheet (length out) fits) (sym long)
      (q.last_is ∙ sets-eq sheet out 0 (omega arith)
      ∙ ap (λ (k : ℕ). sheet ++ drop k out) (zero-add (length sheet)))

-- ---- what is handed in

-- an accepted log has at most 1,024 rows
pub handed_few : (log : List ℤ) (marks : List ℕ) → handed_refusal log marks ≡ 0 → row_count log ≤ 1024
unfolding handed_refusal
handed_few log marks z = (accepted-log log (then_none (log_refusal log) _ z).0).few

-- the marked rows, listed at the front of 1,024 numbers
pub rows_listed : (log : List ℤ) (marks : List ℕ) {out last : List ℕ} {s : ℕ} → handed_refusal log marks ≡ 0
    → length out ≡ 1024 → Puts out last 0 s (marked_rows marks (row_count log))
    → (s ≤ 1024) × Stands last (marked_rows marks (row_count log)) s
rows_listed log marks {out} {last} {s} z e p =
    let most = (marked_in_order marks (row_count log)).few in
    let few = handed_few log marks z in
    let q : Stands last (marked_rows marks (row_count log)) s = puts_stands (omega arith) p in
    (omega (arith, q.size), q)

module _ (log : List ℤ) (marks out : List ℕ) where
  pub handed_refused : (k : ℕ) → k ≡ handed_refusal log marks → (k ≡ 0 → ⊥)
      → SheetLeft (sheet_refusal log marks (length out)) (sheet_of log marks) out (refused k) out
  unfolding sheet_refusal
  handed_refused k e z =
      left_refused _ (sheet_of log marks) out k (then_first (handed_refusal log marks) _ (λ y. z (e ∙ y)) ∙ sym e) z

  pub handed_printed : (out' rows : List ℕ) (answer : Outcome ℕ) → handed_refusal log marks ≡ 0
      → rows ≡ marked_rows marks (row_count log)
      → SheetLeft (room_refusal (pages_of log rows) (length out)) (pages_of log rows) out answer out'
      → SheetLeft (sheet_refusal log marks (length out)) (sheet_of log marks) out answer out'
  unfolding sheet_refusal sheet_of
  handed_printed out' rows answer z e p = left_next (handed_refusal log marks) _ _ out answer out' z (rw e at p)
