-- One engine's answer or the other's, by what the first one answers.
use Prim.Native.Nat.{ℕ}
use mathlib.Core.Path.{◌≡◌, sym, ap, ◌∙◌}
use mathlib.Core.List.{List}
use lib.ListN.{length}
use borrow.Author.Tests.{eq-eqb, ne_eqb}
use Rattle.laws.specs.Outcome.{refused, outcome}
use Rattle.laws.specs.Laws.Outcome.{outcome_refused, refused_refusal}
use native.Mathlib.Omega.{arith}
use Rattle.run_log.specs.Log.{Log}
use Rattle.preference.specs.declared.PreferenceList.{PreferenceList}
use Rattle.pareto.specs.Best.{best_matches}
use Rattle.pareto.specs.Call.{counting, marks_left}
use Rattle.lattice.specs.Engine.{lattice_refusal, lattice_call}
use Rattle.window.specs.Engine.{window_refusal, window_call}
use Rattle.selection.specs.Selection.{either_refusal, either_call}

module _ (l : PreferenceList) (log : Log) (n : ℕ) where
  abbrev first : ℕ
  first = lattice_refusal l log n 32768 262144

  abbrev best : ℕ
  best = length (best_matches l log)

  other : (outcome first best ≡ refused 9 → ⊥) → either_refusal l log n ≡ first
  unfolding either_refusal
  other h = rw (ne_eqb first 9 (λ e. h (ap (λ (k : ℕ). outcome k best) e ∙ outcome_refused 9 best (λ z. absurd (omega arith)))))

  nine : outcome first best ≡ refused 9 → first ≡ 9
  nine e = (refused_refusal first best 9 (sym e)).0

  second : outcome first best ≡ refused 9 → either_refusal l log n ≡ window_refusal l log n 4096 64
  unfolding either_refusal
  second e = rw (eq-eqb first 9 (nine e))

  -- the answers
  pub first_answers : (outcome first best ≡ refused 9 → ⊥) → outcome (either_refusal l log n) best ≡ outcome first best
  first_answers h = rw (other h)

  pub second_answers : outcome first best ≡ refused 9 → outcome (either_refusal l log n) best ≡ outcome (window_refusal l log n 4096 64) best
  second_answers e = rw (second e)

  -- the marks
  module _ (marks : List ℕ) where
    pub first_marks : (outcome first best ≡ refused 9 → ⊥)
        → marks_left (either_call l log n) marks ≡ marks_left (counting (lattice_call l log n 32768 262144)) marks
    first_marks h = rw (other h)

    pub marks_kept : outcome first best ≡ refused 9 → marks_left (counting (lattice_call l log n 32768 262144)) marks ≡ marks
    unfolding marks_left
    marks_kept e = rw (nine e)

    pub second_marks : outcome first best ≡ refused 9
        → marks_left (either_call l log n) marks ≡ marks_left (counting (window_call l log n 4096 64)) marks
    second_marks e = rw (second e)

pub ruleset either = (first_answers, second_answers, first_marks, marks_kept, second_marks)
