-- What a call leaves, by its answer, and the answer due, by its number.
use Rattle.std.specs.Prelude.{◌≡◌, ℕ, Result}
use Rattle.std.specs.Result.{IsErrAnd}
use Rattle.std.proofs.Math.Path.{sym, ap}
use Rattle.std.proofs.Common.{◌∙◌}
use Rattle.std.proofs.lemmas.Result.{err_from_is_err_and}
use mathlib.Core.List.{List}
use Rattle.std.proofs.Math.ListN.{length}
use borrow.Author.Tests.{eq-eqb, ne_eqb}
use Rattle.laws.specs.Outcome.{Outcome, accepted, refused, outcome}
use Rattle.laws.specs.Laws.Outcome.{outcome_accepted, outcome_refused, accepted_refusal, accepted_value}
use Rattle.laws.specs.Laws.Outcome.{refused_refusal}
use Rattle.refusal.specs.Refusal.{number, outcome_of}
use Rattle.refusal.specs.declared.Refusal.{Refusal}
use Rattle.refusal.specs.Laws.Refusal.{number_some}
use Rattle.run_log.specs.Log.{row_count, marked_rows}
use Rattle.pareto.specs.Best.{marks_after}
use Rattle.pareto.specs.Call.{Call, counting, marks_left, Leaves}
use Rattle.pareto.specs.Laws.Marks.{marked_best}

module _ (c : Call) (marks : List ℕ) where
  -- ---- from the answer

  -- refused by k: the call's number, which is not 0, and the marks are as they were
  pub refused_leaves : (k : ℕ) (marks' : List ℕ) → Leaves c marks (refused k) marks'
      → (c.refusal ≡ k) × (k ≡ 0 → ⊥) × (marks' ≡ marks)
  unfolding marks_left
  refused_leaves k marks' a =
      let n = refused_refusal c.refusal c.value k a.answer_is in
      (n.0, λ z. n.1 (n.0 ∙ z), a.marks_are ∙ rw (ne_eqb c.refusal 0 n.1))

  -- accepted with n: no number, the value due, and the marks of the log in front
  pub accepted_leaves : (n : ℕ) (marks' : List ℕ) → Leaves c marks (accepted n) marks'
      → (c.refusal ≡ 0) × (n ≡ c.value) × (marks' ≡ marks_after c.list c.log marks)
  unfolding marks_left
  accepted_leaves n marks' a =
      let z = accepted_refusal c.refusal c.value n a.answer_is in
      (z, accepted_value c.refusal c.value n a.answer_is, a.marks_are ∙ rw (eq-eqb c.refusal 0 z))

  -- no call is refused by 0
  pub never_zero : (answer : Outcome ℕ) (marks' : List ℕ) → Leaves c marks answer marks' → answer ≡ refused 0 → ⊥
  never_zero answer marks' a e = let n = refused_refusal c.refusal c.value 0 (sym e ∙ a.answer_is) in n.1 n.0

  -- ---- from the number

  pub leaves_refused : (k : ℕ) → c.refusal ≡ k → (k ≡ 0 → ⊥) → Leaves c marks (refused k) marks
  unfolding marks_left
  leaves_refused k e z =
      record { answer_is = rw e (sym (outcome_refused k c.value z)); marks_are = rw (e, ne_eqb k 0 z) }

  -- the exit of a `?` behind a check that refuses
  pub leaves_exit : (answer : Result ℕ Refusal) (r : Refusal) → IsErrAnd answer (λ y. y ≡ r) → number r ≡ c.refusal
      → Leaves c marks (outcome_of answer) marks
  leaves_exit answer r x e =
      let p = err_from_is_err_and answer x in rw (p.1, p.2) (leaves_refused (number r) (sym e) (number_some r))

  pub leaves_accepted : (n : ℕ) (marks' : List ℕ) → c.refusal ≡ 0 → n ≡ c.value
      → marks' ≡ marks_after c.list c.log marks
      → Leaves c marks (accepted n) marks'
  unfolding marks_left
  leaves_accepted n marks' z v m =
      record {
        answer_is = ap accepted v ∙ sym (outcome_accepted c.refusal c.value z);
        marks_are = m ∙ rw (eq-eqb c.refusal 0 z);
      }

  -- an answer by another name
  pub leaves_told : (answer answer' : Outcome ℕ) (marks' : List ℕ) → answer' ≡ answer → Leaves c marks answer marks'
      → Leaves c marks answer' marks'
  leaves_told answer answer' marks' e a = record { answer_is = e ∙ a.answer_is; marks_are = a.marks_are }

  -- ---- the shortlisted rows counted

  -- the marked rows of an accepted call are the shortlist
  pub accepted_counts : (n best : ℕ) (marks' : List ℕ) → Leaves c marks (accepted n) marks'
      → best ≡ length (marked_rows marks' (row_count c.log.values)) → Leaves (counting c) marks (accepted best) marks'
  unfolding marks_left
  accepted_counts n best marks' a e =
      let p = accepted_leaves n marks' a in
      record {
        answer_is =
            ap accepted
            (e ∙ ap (λ (b : List ℕ). length (marked_rows b (row_count c.log.values))) p.2
            ∙ ap (λ (rows : List ℕ). length rows) (marked_best c.list c.log marks))
            ∙ sym (outcome_accepted c.refusal (counting c).value p.0);
        marks_are = a.marks_are;
      }

  pub refused_counts : (k : ℕ) (marks' : List ℕ) → Leaves c marks (refused k) marks'
      → Leaves (counting c) marks (refused k) marks'
  unfolding marks_left
  refused_counts k marks' a =
      let n = refused_leaves k marks' a in
      record {
        answer_is =
            sym (ap (λ (j : ℕ). outcome j (counting c).value) n.0 ∙ outcome_refused k (counting c).value n.1);
        marks_are = a.marks_are;
      }
