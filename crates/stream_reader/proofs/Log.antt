-- What a read stream gives, refused or accepted, and what the lent log holds then.
use Rattle.std.specs.Prelude.{◌≡◌, ℕ, ◌-◌, ◌*◌, ◌≤◌, List, ℤ, length}
use Rattle.std.proofs.Common.{sym, ap, arith}
use borrow.Author.Tests.{eq-eqb, ne_eqb}
use Rattle.std.proofs.lemmas.List.Edits.{sets}
use Rattle.preference.specs.declared.PreferenceList.{PreferenceList}
use Rattle.refusal.specs.Refusal.{number}
use Rattle.refusal.specs.Laws.Refusal.{number_some}
use Rattle.refusal.specs.declared.Refusal.{Refusal}
use Rattle.stream_format.specs.Read.{reading, refused_at, end_refusal, records, finish, read_of, log_after}
use Rattle.stream_format.specs.ReadAnswer.{ReadAnswer}
use Rattle.stream_format.specs.Laws.Read.{unless_some}
use Rattle.stream_format.specs.Laws.Rows.{values_long, values_fit}
use Rattle.stream_reader.specs.Runs.{run_values}
use Rattle.stream_reader.proofs.LastRuns.{AtEnd, runs_last}
use Rattle.stream_reader.proofs.Part.{lent, part}

module _ (s : List ℕ) (log : List ℤ) where
  -- a record is refused
  pub early : (e : Refusal) (place : ℕ) → refused_at (number e) place ≡ records s → refused_at (number e) place ≡ read_of s (length log)
  unfolding read_of finish
  early e place q = rw (← q) (rw (ne_eqb (number e) 0 (number_some e)))

  -- 1 or 10 comes at the end, or nothing
  module _ (place rows : ℕ) (l : PreferenceList) (q : reading place rows l ≡ records s) where
    pub late : (e : Refusal) → number e ≡ end_refusal (reading 0 rows l) (length log)
        → refused_at (number e) (length s) ≡ read_of s (length log)
    unfolding read_of finish end_refusal
    late e z =
        rw (← q) (rw (← z) (sym (unless_some (number e) (length s) (reading place rows l) (number_some e))))

    pub whole : 0 ≡ end_refusal (reading 0 rows l) (length log) → reading place rows l ≡ read_of s (length log)
    unfolding read_of finish end_refusal
    whole z = rw (← q) (rw (← z))

  -- the log changes where nothing is refused, and then alone
  pub kept : (e : Refusal) (place : ℕ) → refused_at (number e) place ≡ read_of s (length log) → log ≡ log_after s log
  unfolding log_after
  kept e place q = rw (← q) (rw (ne_eqb (number e) 0 (number_some e)))

  -- the runs of an accepted stream stand at its end, and there is room for them
  module _ (place rows : ℕ) (l : PreferenceList) (q : reading place rows l ≡ read_of s (length log)) where
    none : (read_of s (length log)).refusal ≡ 0
    none = ap (λ (r : ReadAnswer). r.refusal) (sym q)

    rows_are : (read_of s (length log)).rows ≡ rows
    rows_are = ap (λ (r : ReadAnswer). r.rows) (sym q)

    pub at_end : AtEnd s rows
    at_end = rw rows_are at (runs_last s (length log) none)

    pub fits : 8 * rows ≤ length log
    fits = omega (arith, values_fit s (length log) none, values_long s (length log) none, rows_are)

    pub stored : sets log 0 (run_values rows (lent s (length s - 33 * rows))) ≡ log_after s log
    unfolding log_after
    stored = rw (eq-eqb _ _ none, at_end.values, part s (length s - 33 * rows))
