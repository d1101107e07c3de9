-- From what reading and selecting answer to the text.
use Rattle.std.specs.Prelude.{◌≡◌, refl, ℕ, ◌*◌, ◌<◌, ◌≤◌, Bool, true, false, cond, List, [], ◌++◌, eqb, ℤ, length, take}
use Rattle.std.proofs.Common.{sym, ◌∙◌, eq-eqb, ne_eqb, eqb-true}
use Rattle.std.proofs.Math.Path.{ap}
use native.Mathlib.Omega.{arith}
use Rattle.std.proofs.Math.ListN.{length-append}
use Rattle.std.proofs.lemmas.Bool.{eqb-false}
use Rattle.laws.specs.Lists.{joined}
use Rattle.laws.specs.Outcome.{accepted, refused}
use Rattle.laws.specs.Laws.Checks.{then_none}
use Rattle.laws.specs.Laws.Joined.{joined_cong}
use Rattle.run_log.specs.Log.{Log, log_of, row_count}
use Rattle.preference.specs.declared.PreferenceList.{PreferenceList}
use Rattle.pareto.specs.Best.{is_best, best_matches, marks_after}
use Rattle.pareto.specs.Call.{Call, Leaves}
use Rattle.pareto.specs.Laws.Call.{refused_leaves, accepted_leaves}
use Rattle.pareto.specs.Laws.Marks.{mark_there}
use Rattle.output.specs.Prints.{Prints}
use Rattle.output.specs.Laws.Prints.{prints_whole, prints_same}
use Rattle.report_lines.specs.Lines.{refused_text, head_text, line_text, marked_text}
use Rattle.report_lines.specs.Laws.Lengths.{Values, refused_short, head_short, lines_short}
use Rattle.word.specs.Laws.Word.{Bytes}
use Rattle.stream_format.specs.Read.{read_of, log_after}
use Rattle.stream_format.specs.ReadAnswer.{ReadAnswer}
use Rattle.selection.specs.Selection.{either_refusal, either_call}
use Rattle.selection.specs.Stream.{list_in, log_in, program_call}
use Rattle.selection.specs.Laws.Engines.{either_few, best_few}
use Rattle.refusal.specs.Refusal.{number}
use Rattle.refusal.specs.declared.Refusal.{Refusal}
use Rattle.refusal.specs.Laws.Refusal.{number_some, then_err}
use Rattle.selection.specs.Laws.Stream.{stream_call, blank, unread_refusal, read_call}
use Rattle.report.specs.Laws.Values.{values_fit}
use Rattle.report.specs.Report.{lines_text, text_of, report_of, Reported}

-- ---- a selection's text

-- the marked rows' lines are those of the shortlist
marked_lines : (l : PreferenceList) (log : Log) (bytes : List ℕ)
    → joined (marked_text (marks_after l log bytes) log.values) (row_count log.values) ≡ lines_text l log
unfolding lines_text marked_text
marked_lines l log bytes =
    joined_cong (marked_text (marks_after l log bytes) log.values)
    (λ r. cond (is_best l log r) (line_text log.values r) []) (row_count log.values)
    (λ r b. ap (λ (k : ℕ). cond (eqb k 1) (line_text log.values r) []) (mark_there l log bytes r b)
    ∙ by_mark (is_best l log r) (line_text log.values r))
  where
    by_mark : (t : Bool) (x : List ℕ) → cond (eqb (cond t 1 0) 1) x [] ≡ cond t x []
    by_mark true x = refl
    by_mark false x = refl

module _ (c : Call) where
  refusal_text : (c.refusal ≡ 0 → ⊥) → refused_text c.refusal ≡ text_of c
  unfolding text_of
  refusal_text h = rw (ne_eqb c.refusal 0 h)

  -- the text of an accepted call
  abbrev whole : List ℕ
  whole = head_text (row_count c.log.values) c.value ++ lines_text c.list c.log

  whole_text : c.refusal ≡ 0 → whole ≡ text_of c
  unfolding text_of
  whole_text h = rw (eq-eqb c.refusal 0 h)

  -- 20 bytes of head, and 29 for each of 1,024 rows
  whole_short : c.value ≡ length (best_matches c.list c.log) → Values c.log.values
      → row_count c.log.values ≤ 1024
      → length whole ≤ 29716
  unfolding lines_text
  whole_short v f h =
      let n = row_count c.log.values in
      let b = best_few c.list c.log in
      omega (
        arith,
        length-append (head_text n c.value) (lines_text c.list c.log),
        head_short n c.value h (omega (arith, v)),
        lines_short c.log.values f (is_best c.list c.log) n h,
      )

  text_short : c.value ≡ length (best_matches c.list c.log) → c.refusal < 4294967296 → Values c.log.values
      → (c.refusal ≡ 0 → row_count c.log.values ≤ 1024) → length (text_of c) ≤ 29716
  text_short v h f few = by_refusal (eqb c.refusal 0) refl
    where
      by_refusal : (t : Bool) → eqb c.refusal 0 ≡ t → length (text_of c) ≤ 29716
      by_refusal true e = let z = eqb-true c.refusal 0 e in rw (sym (whole_text z)) (whole_short v f (few z))
      by_refusal false e =
          rw (sym (refusal_text (eqb-false c.refusal 0 e))) (let q = refused_short c.refusal h in omega arith)

  module _ (marks marks' : List ℕ) where
    pub refused_text_lem : (k : ℕ) → Leaves c marks (refused k) marks' → refused_text k ≡ text_of c
    refused_text_lem k a =
        let n = refused_leaves c marks k marks' a in
        ap refused_text (sym n.0) ∙ refusal_text (λ z. n.1 (sym n.0 ∙ z))

    pub listed_text : (best : ℕ) → Leaves c marks (accepted best) marks'
        → head_text (row_count c.log.values) best
        ++ joined (marked_text marks' c.log.values) (row_count c.log.values) ≡ text_of c
    listed_text best a =
        let n = row_count c.log.values in
        let p = accepted_leaves c marks best marks' a in
        let lines : joined (marked_text marks' c.log.values) n ≡ lines_text c.list c.log =
        ap (λ (x : List ℕ). joined (marked_text x c.log.values) n) p.2 ∙ marked_lines c.list c.log marks in
        rw (p.1, lines) (whole_text p.0)

-- ---- a stream's text

reported : {out last : List ℕ} {end : ℕ} {x : List ℕ} → length x ≤ 29716 → Prints out last 0 end x
    → Reported out last end x
reported {out} {last} {end} {x} h p =
    let q = prints_whole out last 0 end x (omega arith) p in
    record { end_is = omega (arith, q.next_is); last_is = q.last_is; short = omega (arith, q.next_is) }

few_rows : (s : List ℕ) → (program_call s).refusal ≡ 0 → row_count (log_in s).values ≤ 1024
few_rows s e = either_few (list_in s) (log_in s) 1024 (then_none (read_of s 8192).refusal _ e).1

-- the whole text of a stream of bytes, 32,768 of them at most
pub report_short : (s : List ℕ) → Bytes s → (program_call s).refusal < 4294967296 → length (report_of s) ≤ 29716
unfolding report_of
report_short s b h = text_short (program_call s) refl h (values_fit s b) (few_rows s)

module _ (s : List ℕ) (r : ReadAnswer) (log : List ℤ) (a : r ≡ read_of s (length blank)) (f : log ≡ log_after s blank)
    (b : Bytes s) where
  abbrev due : PreferenceList → Log → Call
  due l rows = either_call l rows 1024

  pub unread_reports : {out last : List ℕ} {end : ℕ} → (r.refusal ≡ 0 → ⊥) → r.refusal < 4294967296
      → Prints out last 0 end (refused_text r.refusal) → Reported out last end (report_of s)
  unfolding report_of
  unread_reports z h p =
      let k = unread_refusal s r log a f due z in
      let t : refused_text r.refusal ≡ report_of s =
      ap refused_text (sym k) ∙ refusal_text (program_call s) (λ q. z (sym k ∙ q)) in
      reported (report_short s b (omega arith)) (prints_same t p)

  pub read_reports : {out last : List ℕ} {end : ℕ} → r.refusal ≡ 0
      → either_refusal r.list (log_of (take (8 * r.rows) log)) 1024 < 4294967296
      → Prints out last 0 end (text_of (either_call r.list (log_of (take (8 * r.rows) log)) 1024))
      → Reported out last end (report_of s)
  unfolding report_of
  read_reports z h p =
      let same = read_call s r log a f due z in
      let small : (program_call s).refusal < 4294967296 = omega (arith, ap (λ (c : Call). c.refusal) same) in
      reported (report_short s b small) (prints_same (ap text_of same) p)

-- ---- the same, by what `selection::read` answers

module _ (s : List ℕ) where
  -- the stream is refused
  pub unread_text : (r : Refusal) → number r ≡ (read_of s 8192).refusal → refused_text (number r) ≡ report_of s
  unfolding report_of
  unread_text r e =
      let k : number r ≡ (program_call s).refusal = then_err r (read_of s 8192).refusal _ e in
      ap refused_text k ∙ refusal_text (program_call s) (λ z. number_some r (k ∙ z))

  -- it is read
  pub read_text : (l : PreferenceList) (log : Log) → 0 ≡ (read_of s 8192).refusal → l ≡ list_in s → log ≡ log_in s
      → text_of (either_call l log 1024) ≡ report_of s
  unfolding report_of
  read_text l log e p q = ap text_of (stream_call s (λ l rows. either_call l rows 1024) [] l log e p q)

  pub text_reported : {out last : List ℕ} {end : ℕ} → Bytes s → (program_call s).refusal < 4294967296
      → Prints out last 0 end (report_of s)
      → Reported out last end (report_of s)
  text_reported b h p = reported (report_short s b h) p
