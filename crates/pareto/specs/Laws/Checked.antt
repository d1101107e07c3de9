-- What the checks that engines share come to, from their parts: the list and the log, what a call adds, the rows.
use Rattle.std.specs.Prelude.{◌≡◌, refl, ℕ, zero, suc}
use Rattle.std.proofs.Common.{◌∙◌}
use Rattle.laws.specs.Checks.{◌then◌}
use Rattle.refusal.specs.Refusal.{number}
use Rattle.refusal.specs.declared.Refusal.{Refusal}
use Rattle.refusal.specs.Laws.Refusal.{then_err, then_ok}
use Rattle.run_log.specs.Log.{Log, log_refusal}
use Rattle.preference.specs.Valid.{list_refusal}
use Rattle.preference.specs.declared.PreferenceList.{PreferenceList}
use Rattle.pareto.specs.Checked.{rows_refusal, checked_refusal}

then_assoc : (a b c : ℕ) → ((a then b) then c) ≡ (a then (b then c))
unfolding ◌then◌
then_assoc zero b c = refl
then_assoc (suc a) b c = refl

module _ (l : PreferenceList) (log : Log) (more : ℕ) where
  -- the list and the log in one
  in_one : ((list_refusal l then log_refusal log.values) then (more then rows_refusal l log.values))
      ≡ checked_refusal l log more
  unfolding checked_refusal
  in_one = then_assoc (list_refusal l) (log_refusal log.values) (more then rows_refusal l log.values)

  -- the list or the log is refused
  pub refused_first : (r : Refusal) → number r ≡ list_refusal l then log_refusal log.values
      → number r ≡ checked_refusal l log more
  refused_first r e = then_err r _ _ e ∙ in_one

  -- they pass, and what the call adds is refused
  pub refused_more : (r : Refusal) → 0 ≡ list_refusal l then log_refusal log.values → number r ≡ more
      → number r ≡ checked_refusal l log more
  refused_more r e f = then_ok _ _ _ e (then_err r _ _ f) ∙ in_one

  -- both pass: the rows decide
  pub by_rows : (n : ℕ) → 0 ≡ list_refusal l then log_refusal log.values → 0 ≡ more → n ≡ rows_refusal l log.values
      → n ≡ checked_refusal l log more
  by_rows n e f h = then_ok n _ _ e (then_ok n _ _ f h) ∙ in_one
