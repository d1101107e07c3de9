-- The ways of a call.
use Rattle.std.specs.Result.{IsErrAnd}
use Rattle.std.proofs.lemmas.Result.{err_from_is_err_and}
use Rattle.std.specs.Prelude.{Result, Ok, Err, ◌≡◌, ℕ, ◌<◌, ◌≤◌, Bool, ◌&&◌, leb}
use Rattle.std.proofs.Math.Path.{refl, sym}
use Rattle.std.proofs.Common.{◌∙◌, arith, le-leb}
use Rattle.std.proofs.Math.Bool.{true, false}
use Rattle.std.proofs.lemmas.Bool.{lt-leb}
use Rattle.laws.specs.Checks.{◌gives◌, ◌then◌}
use Rattle.laws.specs.Laws.AnyOf.{passing_any}
use Rattle.laws.specs.Laws.Bools.{both, false_true}
use Rattle.laws.specs.Laws.Checks.{gives_yes, gives_no, then_first, then_next, then_none}
use Rattle.laws.specs.Laws.First.{first_is}
use Rattle.refusal.specs.Refusal.{number}
use Rattle.refusal.specs.declared.Refusal.{Refusal}
use Rattle.refusal.specs.declared.Refusal.TheVariants.{NoSuchRow, Shortlisted}
use Rattle.refusal.specs.Laws.Refusal.{number_some, then_err}
use Rattle.run_log.specs.Log.{Log, row_count, log_refusal}
use Rattle.run_log.specs.Laws.Log as runs
use Rattle.preference.specs.Valid.{list_refusal}
use Rattle.preference.specs.declared.PreferenceList.{PreferenceList}
use Rattle.pareto.specs.Best.{competes, competing, row_dominates, is_best}
use Rattle.pareto.specs.Checked.{checked_refusal}
use Rattle.pareto.specs.Laws.Best.{dominated_by_best}
use Rattle.pareto.specs.Laws.Competing.{every_competes}
use Rattle.dominator.specs.First.{best_dominates, first_dominator, RowAsked}
use Rattle.dominator.specs.Engine.{dominator_refusal, Answered}

module _ (l : PreferenceList) (log : Log) (row k : ℕ) (e : k ≡ checked_refusal l log 0) where
  pub refused : (r : Refusal) → number r ≡ k → Answered l log row (Err r)
  unfolding dominator_refusal Answered
  refused r h = record { refusal = then_err r (checked_refusal l log 0) _ (h ∙ e); some = number_some r }

  -- the exit of a `?` behind a check that refuses
  pub exit : (answer : Result ℕ Refusal) (r : Refusal) → IsErrAnd answer (λ y. y ≡ r) → number r ≡ k
      → Answered l log row answer
  exit answer r x h = let p = err_from_is_err_and answer x in rw (p.1, p.2) (refused r h)

  pub no_row : k ≡ 0 → row_count log.values ≤ row → Answered l log row (Err NoSuchRow)
  unfolding dominator_refusal Answered ◌gives◌
  no_row z h = record {
    refusal =
        sym (then_next (checked_refusal l log 0) _ (sym e ∙ z)
        ∙ rw (le-leb (row_count log.values) row h) (then_first 12 (is_best l log row gives 13) (λ y. omega arith)));
    some = λ y. omega arith;
  }

  pub accepted : k ≡ 0 → row < row_count log.values → RowAsked l log row
  unfolding checked_refusal ◌then◌
  accepted z h =
      let a = then_none (list_refusal l) _ (sym e ∙ z) in
      let b = then_none (log_refusal log.values) _ a.1 in
      record { list = a.0; values = b.1; few = (runs.accepted log.values b.0).few; is_row = h }

  refusal_is : k ≡ 0 → row < row_count log.values → dominator_refusal l log row ≡ is_best l log row gives 13
  unfolding dominator_refusal
  refusal_is z h =
      then_next (checked_refusal l log 0) _ (sym e ∙ z)
      ∙ then_next (leb (row_count log.values) row gives 12) _
      (gives_no (leb (row_count log.values) row) 12 (lt-leb (row_count log.values) row h))

  -- no best row dominates it, so it is best itself: a row that is not is dominated by a best one
  pub shortlisted : k ≡ 0 → row < row_count log.values → (s : ℕ) → s ≡ first_dominator l log row
      → row_count log.values ≤ s → Answered l log row (Err Shortlisted)
  unfolding Answered first_dominator
  shortlisted z h s f n = record {
    refusal = sym (refusal_is z h ∙ gives_yes (is_best l log row) 13 (itself (is_best l log row) refl));
    some = λ y. omega arith;
  }
    where
      itself : (t : Bool) → is_best l log row ≡ t → t ≡ true
      itself true e = refl
      itself false e =
          let b = dominated_by_best l log row (every_competes log row) e in
          let d : best_dominates l log row b.best ≡ true = rw (b.is_best_lem, b.beats) in
          false_true
          (sym ((first_is (best_dominates l log row) (row_count log.values)).before b.best
          (omega (arith, b.row))) ∙ d)

  row_beaten : (best : ℕ) → best < row_count log.values → is_best l log best ≡ true
      → row_dominates l log best row ≡ true → is_best l log row ≡ false
  unfolding is_best competing
  row_beaten best h b d =
      let c = (both (competes log best) _ b).0 in
      rw (passing_any (λ s. row_dominates l log s row) (competes log) (row_count log.values) best h c d)
      (and_false (competes log row))
    where
      and_false : (t : Bool) → t && false ≡ false
      and_false true = refl
      and_false false = refl

  pub beaten : k ≡ 0 → row < row_count log.values → (s : ℕ) → s ≡ first_dominator l log row
      → s < row_count log.values → Answered l log row (Ok s)
  unfolding Answered first_dominator
  beaten z h s f n =
      let d =
      both (is_best l log s) (row_dominates l log s row)
      (rw f ((first_is (best_dominates l log row) (row_count log.values)).there (rw f at n))) in
      record {
        accepted = refusal_is z h ∙ gives_no (is_best l log row) 13 (row_beaten s n d.0 d.1);
        is_row = n;
        shortlisted = d.0;
        betters = d.1;
      }
