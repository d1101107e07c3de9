-- From what reading, selecting and printing answer to what a call on a stream answers and leaves.
use Rattle.std.specs.Prelude.{◌≡◌, refl, ℕ, ◌*◌, ◌<◌, ◌≤◌, Bool, true, false, List, [], ◌++◌, eqb, ℤ, take}
use Rattle.std.proofs.Math.Path.{sym, ap, subst}
use Rattle.std.proofs.Common.{◌∙◌, arith, zero-add}
use Rattle.std.proofs.Math.ListN.{length, drop}
use Rattle.std.proofs.Math.Seq.{sets-eq}
use borrow.Author.Tests.{eq-eqb, ne_eqb, eqb-true, eqb-false}
use Rattle.laws.specs.Checks.{◌then◌}
use Rattle.laws.specs.Outcome.{Outcome, accepted, refused}
use Rattle.laws.specs.Laws.Checks.{then_first, then_next, then_none}
use Rattle.run_log.specs.Log.{Log, log_of}
use Rattle.preference.specs.declared.PreferenceList.{PreferenceList}
use Rattle.pareto.specs.Best.{best_matches}
use Rattle.pareto.specs.Call.{Call, Leaves}
use Rattle.pareto.specs.Laws.Call.{refused_leaves, accepted_leaves}
use Rattle.stream_format.specs.Read.{read_of, log_after}
use Rattle.stream_format.specs.ReadAnswer.{ReadAnswer}
use Rattle.selection.specs.Selection.{either_call}
use Rattle.selection.specs.Stream.{list_in, log_in, program_call}
use Rattle.selection.specs.Laws.Cut.{text_cut}
use Rattle.selection.specs.Laws.Engines.{either_log, either_few, best_few}
use Rattle.refusal.specs.Refusal.{number}
use Rattle.refusal.specs.declared.Refusal.{Refusal}
use Rattle.refusal.specs.Laws.Refusal.{number_some, then_err}
use Rattle.selection.specs.Laws.Stream.{blank, unread_refusal, read_call, stream_call}
use Rattle.output.specs.Puts.{Puts}
use Rattle.output.specs.Prints.{Prints}
use Rattle.output.specs.Laws.Prints.{prints_whole}
use Rattle.report_lines.specs.Lines.{refused_text}
use Rattle.report_lines.specs.Laws.Lengths.{refused_short}
use Rattle.sheet_pages.specs.Pages.{pages_of, sheet_of}
use Rattle.sheet_pages.specs.Call.{handed_refusal, room_refusal, sheet_refusal, SheetLeft}
use Rattle.sheet_pages.specs.Laws.Left.{left_refused, left_next, refused_left, accepted_left, room_enough, room_fits}
use Rattle.sheet_pages.specs.Laws.Pages.{pages_short}
use Rattle.sheet_report.specs.Sheet.{stream_sheet, stream_refusal, text_of, sheet_report}
use Rattle.sheet_report.specs.Laws.Marks.{sheet_of_best, best_handed}

-- the pages of a call's shortlist, and its number with 15 behind it
abbrev pub sheet_for : Call → List ℕ
sheet_for c = pages_of c.log.values (best_matches c.list c.log)

abbrev pub refusal_for : Call → ℕ → ℕ
refusal_for c room = c.refusal then room_refusal (sheet_for c) room

-- a number that comes before 15
before_room : (c : Call) (out : List ℕ) (k : ℕ) → c.refusal ≡ k → (k ≡ 0 → ⊥)
    → SheetLeft (refusal_for c (length out)) (sheet_for c) out (refused k) out
before_room c out k e z =
    left_refused (refusal_for c (length out)) (sheet_for c) out k (then_first c.refusal _ (λ y. z (sym e ∙ y)) ∙ e) z

-- ---- a list and a log

module _ (l : PreferenceList) (log : Log) (marks marks' out : List ℕ) (long : length marks ≡ 1024) where
  abbrev call : Call
  call = either_call l log 1024

  module _ (answer : Outcome ℕ) where
    own_marks : Leaves (either_call l log (length marks)) marks answer marks' → Leaves call marks answer marks'
    own_marks a = rw long at a

  pub selected_refused : (k : ℕ) → Leaves (either_call l log (length marks)) marks (refused k) marks'
      → SheetLeft (refusal_for call (length out)) (sheet_for call) out (refused k) out
  selected_refused k a =
      let p = refused_leaves call marks k marks' (own_marks (refused k) a) in before_room call out k p.0 p.1

  pub selected_printed : (best : ℕ) (ends : Outcome ℕ) (out' : List ℕ) → length marks' ≡ 1024
      → Leaves (either_call l log (length marks)) marks (accepted best) marks'
      → SheetLeft (sheet_refusal log.values marks' (length out)) (sheet_of log.values marks') out ends out'
      → SheetLeft (refusal_for call (length out)) (sheet_for call) out ends out'
  unfolding sheet_refusal
  selected_printed best ends out' kept a b =
      let p = accepted_leaves call marks best marks' (own_marks (accepted best) a) in
      let few = either_few l log 1024 p.0 in
      let handed : handed_refusal log.values marks' ≡ 0 =
      rw p.2 (best_handed l log marks (either_log l log 1024 p.0)
      (omega (arith, kept, ap length p.2))) in
      let same : sheet_of log.values marks' ≡ sheet_for call =
      ap (sheet_of log.values) p.2 ∙ sheet_of_best l log marks in
      let q = rw (then_next (handed_refusal log.values marks') _ handed) at b in
      left_next call.refusal _ (sheet_for call) out ends out' p.0 (rw same at q)

-- ---- a stream

module _ (s : List ℕ) (r : ReadAnswer) (log : List ℤ) (a : r ≡ read_of s (length blank)) (f : log ≡ log_after s blank)
    (out : List ℕ) where
  abbrev due : PreferenceList → Log → Call
  due l rows = either_call l rows 1024

  pub unread_refused : (r.refusal ≡ 0 → ⊥)
      → SheetLeft (stream_refusal s (length out)) (stream_sheet s) out (refused r.refusal) out
  unfolding stream_refusal stream_sheet
  unread_refused z = before_room (program_call s) out r.refusal (unread_refusal s r log a f due z) z

  pub read_printed : (ends : Outcome ℕ) (out' : List ℕ) → r.refusal ≡ 0
      → let c = either_call r.list (log_of (take (8 * r.rows) log)) 1024 in
      SheetLeft (refusal_for c (length out)) (sheet_for c) out ends out'
      → SheetLeft (stream_refusal s (length out)) (stream_sheet s) out ends out'
  unfolding stream_refusal stream_sheet
  read_printed ends out' z b =
      subst (λ (c : Call). SheetLeft (refusal_for c (length out)) (sheet_for c) out ends out')
      (read_call s r log a f due z) b

-- ---- the same, by what `selection::read` answers

module _ (s out : List ℕ) where
  pub unread_left : (r : Refusal) → number r ≡ (read_of s 8192).refusal
      → SheetLeft (stream_refusal s (length out)) (stream_sheet s) out (refused (number r)) out
  unfolding stream_refusal stream_sheet
  unread_left r e =
      before_room (program_call s) out (number r) (sym (then_err r (read_of s 8192).refusal _ e)) (number_some r)

  pub read_left : (l : PreferenceList) (log : Log) (ends : Outcome ℕ) (out' : List ℕ)
      → 0 ≡ (read_of s 8192).refusal → l ≡ list_in s → log ≡ log_in s
      → let c = either_call l log 1024 in
      SheetLeft (refusal_for c (length out)) (sheet_for c) out ends out'
      → SheetLeft (stream_refusal s (length out)) (stream_sheet s) out ends out'
  unfolding stream_refusal stream_sheet
  read_left l log ends out' e p q b =
      subst (λ (c : Call). SheetLeft (refusal_for c (length out)) (sheet_for c) out ends out')
      (stream_call s (λ l rows. either_call l rows 1024) [] l log e p q) b

-- ---- what is printed

-- no sheet is longer than the program's output
pub sheet_short : (s : List ℕ) → (program_call s).refusal ≡ 0 → length (stream_sheet s) ≤ 108732
unfolding stream_sheet
sheet_short s z =
    let few = either_few (list_in s) (log_in s) 1024 (then_none (read_of s 8192).refusal _ z).1 in
    pages_short (log_in s).values (best_matches (list_in s) (log_in s))
    (let b = best_few (list_in s) (log_in s) in omega arith)

module _ (s out : List ℕ) where
  abbrev refusal : ℕ
  refusal = stream_refusal s (length out)

  pub printed_text : (n : ℕ) (out' : List ℕ) → SheetLeft refusal (stream_sheet s) out (accepted n) out'
      → Puts out out' 0 n (text_of refusal (stream_sheet s)) × (n ≤ 108732)
  unfolding text_of stream_refusal
  printed_text n out' a =
      let p = accepted_left refusal (stream_sheet s) out out' n a in
      let checks = then_none (program_call s).refusal (room_refusal (stream_sheet s) (length out)) p.0 in
      let fits = room_fits (stream_sheet s) (length out) checks.1 in
      let stored =
      sets-eq (stream_sheet s) out 0 (omega arith)
      ∙ ap (λ (k : ℕ). stream_sheet s ++ drop k out) (zero-add (length (stream_sheet s))) in (
        rw (eq-eqb refusal 0 p.0) (record { next_is = omega (arith, p.1); last_is = p.2 ∙ sym stored }),
        omega (arith, p.1, sheet_short s checks.0),
      )

  pub refused_printed : (k : ℕ) (out' last : List ℕ) (end : ℕ) → k < 256
      → SheetLeft refusal (stream_sheet s) out (refused k) out' → Prints out' last 0 end (refused_text k)
      → Puts out last 0 end (text_of refusal (stream_sheet s)) × (end ≤ 108732)
  unfolding text_of
  refused_printed k out' last end h a b =
      let p = refused_left refusal (stream_sheet s) out out' k a in
      let short = refused_short k (omega arith) in
      let q = prints_whole out last 0 end (refused_text k) (omega arith) (rw p.2 at b) in
      (rw (p.0, ne_eqb k 0 p.1) q, omega (arith, q.next_is))

-- with room for every sheet 15 does not come
pub room_for_all : (s : List ℕ) (room : ℕ) → 108732 ≤ room → stream_refusal s room ≡ (program_call s).refusal
unfolding stream_refusal
room_for_all s room h = by_refusal (eqb (program_call s).refusal 0) refl
  where
    n : ℕ
    n = (program_call s).refusal

    by_refusal : (t : Bool) → eqb n 0 ≡ t → n then room_refusal (stream_sheet s) room ≡ n
    by_refusal true e =
        let z = eqb-true n 0 e in
        let short = sheet_short s z in
        then_next n _ z ∙ room_enough (stream_sheet s) room (omega arith) ∙ sym z
    by_refusal false e = then_first n _ (eqb-false n 0 e)

pub text_for_all : (s : List ℕ) (room : ℕ) → 108732 ≤ room
    → text_of (stream_refusal s room) (stream_sheet s) ≡ sheet_report s
unfolding sheet_report
text_for_all s room h = ap (λ (k : ℕ). text_of k (stream_sheet s)) (room_for_all s room h)

-- the program's buffer is long enough
refused_report : (s : List ℕ) → ((read_of s 8192).refusal ≡ 0 → ⊥)
    → sheet_report s ≡ refused_text (read_of s 8192).refusal
unfolding sheet_report text_of
refused_report s h = rw (then_first (read_of s 8192).refusal _ h, ne_eqb (read_of s 8192).refusal 0 h)

pub report_cut : (n : ℕ) (s : List ℕ) → 34367 ≤ n → sheet_report (take n s) ≡ sheet_report s
report_cut n s late = text_cut sheet_report refused_text refused_report n s late
