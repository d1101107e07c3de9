-- The counts that come back from accepted calls, and the sizes that the window engine checks.
use Rattle.std.specs.Prelude.{◌≡◌, refl, ℕ, zero, suc, ◌+◌, ◌-◌, ◌*◌, ◌/◌, ◌≤◌, Bool, true, false, cond, length}
use Rattle.std.proofs.Common.{arith, ne_eqb, le-ltb}
use Rattle.laws.specs.Checks.{◌gives◌, ◌then◌}
use Rattle.laws.specs.Laws.Bools.{false_true}
use Rattle.run_log.specs.Log.{Log, row_count, marks_refusal}
use Rattle.preference.specs.declared.PreferenceList.{PreferenceList}
use Rattle.pareto.specs.Best.{competing, row_dominates}
use Rattle.window_machine.specs.Laws.Ends.{count_bound_half}
use Rattle.window.specs.Engine.{sizes_refusal, machine_of}

abbrev mark : Bool → ℕ
mark t = cond t 1 0

pub one_best : (t : Bool) → (mark t ≡ 1 → t ≡ true) × (t ≡ true → mark t ≡ 1) × (mark t ≤ 1)
one_best true = (λ e. refl, λ e. refl, omega arith)
one_best false = (λ e. absurd (omega arith), λ e. false_true e, omega arith)

module _ (l : PreferenceList) (log : Log) where
  pub window_bound : (w : ℕ) → 1 ≤ w
      → (machine_of l log w).count ≤ length (competing log) * (length (competing log) - 1) / 2
  unfolding machine_of
  window_bound w some = count_bound_half (row_dominates l log) w (competing log) (row_count log.values) some

-- ---- the sizes that the window engine checks

then_last : (a : ℕ) → a then 0 ≡ a
unfolding ◌then◌
then_last zero = refl
then_last (suc a) = refl

pub sizes_refusal_lem : (log : Log) (marks work w : ℕ) → 1 ≤ w → w ≤ 1024 → 2 * (row_count log.values + w) ≤ work
    → sizes_refusal log marks work w ≡ marks_refusal log.values marks
unfolding sizes_refusal ◌then◌
sizes_refusal_lem log marks work w some narrow room =
    rw (
      ne_eqb w 0 (λ e. absurd (omega arith)),
      le-ltb 1024 w narrow,
      le-ltb work (2 * (row_count log.values + w)) room,
    )
    (unfold ◌gives◌ in then_last (marks_refusal log.values marks))
