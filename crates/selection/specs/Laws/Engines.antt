-- From an engine's answer to a selection: node bytes and a work list that are long enough, and one engine or the other.
use Rattle.std.specs.Prelude.{◌≡◌, ℕ, ◌≤◌, Bool, true, false, cond, List, eqb, length}
use Rattle.std.proofs.Common.{sym, ◌∙◌, arith, eq-eqb, ne_eqb}
use Rattle.laws.specs.Outcome.{Outcome, accepted, refused}
use Rattle.laws.specs.Laws.Checks.{then_none}
use Rattle.laws.specs.Laws.Passing.{passing_in_order}
use Rattle.run_log.specs.Log.{Log, row_count, log_refusal, marks_refusal}
use Rattle.run_log.specs.Laws.Log as runs
use Rattle.preference.specs.Valid.{list_refusal}
use Rattle.preference.specs.declared.PreferenceList.{PreferenceList}
use Rattle.pareto.specs.Best.{is_best, best_matches}
use Rattle.pareto.specs.Call.{counting, Leaves}
use Rattle.pareto.specs.Checked.{checked_refusal}
use Rattle.pareto.specs.Laws.Call.{refused_leaves, accepted_leaves, leaves_refused, leaves_accepted}
use Rattle.lattice.specs.Engine.{lattice_refusal, lattice_call}
use Rattle.window.specs.Engine.{sizes_refusal, window_refusal, window_call}
use Rattle.selection.specs.Selection.{either_refusal, either_call}

-- ---- the log of an accepted call is accepted, and has at most 1,024 rows

checked_log : (l : PreferenceList) (log : Log) (more : ℕ) → checked_refusal l log more ≡ 0
    → log_refusal log.values ≡ 0
unfolding checked_refusal
checked_log l log more z = (then_none (log_refusal log.values) _ (then_none (list_refusal l) _ z).1).0

lattice_log : (l : PreferenceList) (log : Log) (marks nodes budget : ℕ) → lattice_refusal l log marks nodes budget ≡ 0
    → log_refusal log.values ≡ 0
unfolding lattice_refusal
lattice_log l log marks nodes budget z =
    checked_log l log (marks_refusal log.values marks)
    (then_none (checked_refusal l log (marks_refusal log.values marks)) _ z).0

window_log : (l : PreferenceList) (log : Log) (marks work w : ℕ) → window_refusal l log marks work w ≡ 0
    → log_refusal log.values ≡ 0
unfolding window_refusal
window_log l log marks work w z = checked_log l log (sizes_refusal log marks work w) z

pub either_log : (l : PreferenceList) (log : Log) (marks : ℕ) → either_refusal l log marks ≡ 0
    → log_refusal log.values ≡ 0
unfolding either_refusal
either_log l log marks e = by_engine (eqb (lattice_refusal l log marks 32768 262144) 9) e
  where
    by_engine : (t : Bool) → cond t (window_refusal l log marks 4096 64) (lattice_refusal l log marks 32768 262144) ≡ 0
        → log_refusal log.values ≡ 0
    by_engine true z = window_log l log marks 4096 64 z
    by_engine false z = lattice_log l log marks 32768 262144 z

few : (log : Log) → log_refusal log.values ≡ 0 → row_count log.values ≤ 1024
few log z = (runs.accepted log.values z).few

pub lattice_few : (l : PreferenceList) (log : Log) (marks nodes budget : ℕ)
    → lattice_refusal l log marks nodes budget ≡ 0
    → row_count log.values ≤ 1024
lattice_few l log marks nodes budget z = few log (lattice_log l log marks nodes budget z)

pub window_few : (l : PreferenceList) (log : Log) (marks work w : ℕ) → window_refusal l log marks work w ≡ 0
    → row_count log.values ≤ 1024
window_few l log marks work w z = few log (window_log l log marks work w z)

pub either_few : (l : PreferenceList) (log : Log) (marks : ℕ) → either_refusal l log marks ≡ 0
    → row_count log.values ≤ 1024
either_few l log marks z = few log (either_log l log marks z)

-- and no more rows are on the shortlist
pub best_few : (l : PreferenceList) (log : Log) → length (best_matches l log) ≤ row_count log.values
unfolding best_matches
best_few l log = (passing_in_order (is_best l log) (row_count log.values)).few

-- ---- the engines' own buffers

module _ (l : PreferenceList) (log : Log) (marks marks' : List ℕ) (answer : Outcome ℕ) where
  pub own_nodes : (nodes budget : ℕ) → nodes ≡ 32768
      → Leaves (lattice_call l log (length marks) nodes budget) marks answer marks'
      → Leaves (lattice_call l log (length marks) 32768 budget) marks answer marks'
  own_nodes nodes budget e a = rw e at a

  pub own_work : (work w : ℕ) → work ≡ 4096 → Leaves (window_call l log (length marks) work w) marks answer marks'
      → Leaves (window_call l log (length marks) 4096 w) marks answer marks'
  own_work work w e a = rw e at a

-- ---- one engine or the other

module _ (l : PreferenceList) (log : Log) (marks marks' : List ℕ) where
  abbrev first : ℕ
  first = lattice_refusal l log (length marks) 32768 262144

  pub first_accepts : (n : ℕ)
      → Leaves (counting (lattice_call l log (length marks) 32768 262144)) marks (accepted n) marks'
      → Leaves (either_call l log (length marks)) marks (accepted n) marks'
  unfolding either_refusal
  first_accepts n a =
      let p = accepted_leaves (counting (lattice_call l log (length marks) 32768 262144)) marks n marks' a in
      leaves_accepted (either_call l log (length marks)) marks n marks'
      (rw (ne_eqb first 9 (λ e. absurd (omega (arith, p.0, e)))) p.0) p.1 p.2

  pub first_refuses : (k : ℕ) → (k ≡ 9 → ⊥)
      → Leaves (counting (lattice_call l log (length marks) 32768 262144)) marks (refused k) marks'
      → Leaves (either_call l log (length marks)) marks (refused k) marks'
  unfolding either_refusal
  first_refuses k h a =
      let p = refused_leaves (counting (lattice_call l log (length marks) 32768 262144)) marks k marks' a in
      let e : either_refusal l log (length marks) ≡ k = rw (ne_eqb first 9 (λ e. h (sym p.0 ∙ e))) p.0 in
      rw p.2 (leaves_refused (either_call l log (length marks)) marks k e p.1)

  pub second_answers : (answer : Outcome ℕ) (marks'' : List ℕ)
      → Leaves (counting (lattice_call l log (length marks) 32768 262144)) marks (refused 9) marks'
      → Leaves (counting (window_call l log (length marks') 4096 64)) marks' answer marks''
      → Leaves (either_call l log (length marks)) marks answer marks''
  unfolding either_refusal
  second_answers answer marks'' a b =
      let p = refused_leaves (counting (lattice_call l log (length marks) 32768 262144)) marks 9 marks' a in
      rw (eq-eqb first 9 p.0) (rw p.2 at b)
