-- A call on a stream, from what reading answers and what the call on the list and the log leaves.
use Rattle.std.specs.Prelude.{◌≡◌, ℕ, ◌*◌, ◌≤◌, List, ℤ, pos, length, take, replicate}
use Rattle.std.proofs.Common.{sym, ap, ◌∙◌, arith, length-take}
use Rattle.std.proofs.lemmas.List.{length-replicate}
use Rattle.laws.specs.Outcome.{Outcome, refused}
use Rattle.laws.specs.Laws.Checks.{then_first, then_next}
use Rattle.refusal.specs.Refusal.{number}
use Rattle.refusal.specs.declared.Refusal.{Refusal}
use Rattle.refusal.specs.Laws.Refusal.{number_some, then_err}
use Rattle.run_log.specs.Log.{Log, log_of}
use Rattle.preference.specs.declared.PreferenceList.{PreferenceList}
use Rattle.pareto.specs.Call.{Call, Leaves}
use Rattle.pareto.specs.Laws.Call.{leaves_refused}
use Rattle.stream_format.specs.Read.{read_of, log_after}
use Rattle.stream_format.specs.Laws.Accepted.{read_accepted}
use Rattle.stream_format.specs.Laws.Rows.{values_long, log_read}
use Rattle.stream_format.specs.ReadAnswer.{ReadAnswer}
use Rattle.selection.specs.Stream.{list_in, log_in, after_reading}

-- the log that reading fills
abbrev pub blank : List ℤ
blank = replicate 8192 (pos 0)

blank_long : length blank ≡ 8192
blank_long = length-replicate 8192 (pos 0)

-- a stream was read into it: the answer, and the log since
module _ (s : List ℕ) (r : ReadAnswer) (log : List ℤ) (a : r ≡ read_of s (length blank))
    (f : log ≡ log_after s blank) where
  pub answer : r ≡ read_of s 8192
  answer = rw blank_long at a

  module _ (z : r.refusal ≡ 0) where
    pub none : (read_of s 8192).refusal ≡ 0
    none = sym (ap (λ (x : ReadAnswer). x.refusal) answer) ∙ z

    pub few_numbers : 8 * r.rows ≤ 8192
    few_numbers =
        let b = read_accepted s 8192 none in
        omega (arith, b.fits, ap (λ (x : ReadAnswer). x.rows) b.answer, ap (λ (x : ReadAnswer). x.rows) answer)

    -- the rows read are those of the stream
    pub rows_are : take (8 * r.rows) log ≡ (log_in s).values
    rows_are = rw (f, answer, sym blank_long) (log_read s blank (rw blank_long none))

    pub rows_long : length (take (8 * r.rows) log) ≡ 8 * r.rows
    rows_long = ap length rows_are ∙ values_long s 8192 none ∙ ap (λ (x : ReadAnswer). 8 * x.rows) (sym answer)

    pub rows_fit : 8 * r.rows ≤ length log
    rows_fit = omega (arith, rows_long, length-take (8 * r.rows) log)

  module _ (call : PreferenceList → Log → Call) where
    abbrev due : Call
    due = call (list_in s) (log_in s)

    -- reading refuses the stream
    pub unread_refusal : (r.refusal ≡ 0 → ⊥) → (after_reading s call).refusal ≡ r.refusal
    unread_refusal z =
        let n = ap (λ (y : ReadAnswer). y.refusal) answer in
        then_first (read_of s 8192).refusal due.refusal (λ q. z (n ∙ q)) ∙ sym n

    -- reading accepts it: the call on a stream is the call on what was read
    pub read_call : r.refusal ≡ 0 → call r.list (log_of (take (8 * r.rows) log)) ≡ after_reading s call
    read_call z =
        let k = sym (then_next (read_of s 8192).refusal due.refusal (none z)) in
        rw (rows_are z, answer)
        (ap (λ (j : ℕ). record { list = due.list; log = due.log; refusal = j; value = due.value }) k)

    module _ (marks : List ℕ) where
      pub unread_leaves : (r.refusal ≡ 0 → ⊥) → Leaves (after_reading s call) marks (refused r.refusal) marks
      unread_leaves z = leaves_refused (after_reading s call) marks r.refusal (unread_refusal z) z

      pub read_leaves : (marks' : List ℕ) (ends : Outcome ℕ) → r.refusal ≡ 0
          → Leaves (call r.list (log_of (take (8 * r.rows) log))) marks ends marks'
          → Leaves (after_reading s call) marks ends marks'
      read_leaves marks' ends z b = rw (read_call z) at b

-- ---- a call on a stream, by what `selection::read` answers

module _ (s : List ℕ) (call : PreferenceList → Log → Call) (marks : List ℕ) where
  -- the stream is refused
  pub stream_refused : (r : Refusal) → number r ≡ (read_of s 8192).refusal
      → Leaves (after_reading s call) marks (refused (number r)) marks
  stream_refused r e =
      leaves_refused (after_reading s call) marks (number r) (sym (then_err r _ _ e)) (number_some r)

  -- it is read: the call on a stream is the call on what it holds
  pub stream_call : (l : PreferenceList) (log : Log) → 0 ≡ (read_of s 8192).refusal → l ≡ list_in s → log ≡ log_in s
      → call l log ≡ after_reading s call
  stream_call l log e p q =
      let due = call (list_in s) (log_in s) in
      let k = sym (then_next (read_of s 8192).refusal due.refusal (sym e)) in
      let same : due ≡ after_reading s call =
      ap (λ (j : ℕ). record { list = due.list; log = due.log; refusal = j; value = due.value }) k in
      rw (p, q) same

  pub stream_read : (l : PreferenceList) (log : Log) (ends : Outcome ℕ) (marks' : List ℕ)
      → 0 ≡ (read_of s 8192).refusal → l ≡ list_in s → log ≡ log_in s → Leaves (call l log) marks ends marks'
      → Leaves (after_reading s call) marks ends marks'
  stream_read l log ends marks' e p q b = rw (stream_call l log e p q) at b
