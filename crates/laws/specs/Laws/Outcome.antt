-- The outcome due, from what the checks gave.
use Rattle.std.specs.Prelude.{◌≡◌, refl, Bool, true, false, ℕ, zero, suc}
use Rattle.std.proofs.Common.{sym, ap, arith}
use Rattle.laws.specs.Outcome.{Outcome, accepted, refused, outcome}
use Rattle.laws.specs.Laws.Bools.{false_true}

pub outcome_accepted : {A : Type 0} (k : ℕ) (v : A) → k ≡ 0 → outcome k v ≡ accepted v
unfolding outcome
outcome_accepted zero v e = refl
outcome_accepted (suc k) v e = let z : ⊥ = omega arith in absurd z

pub outcome_refused : {A : Type 0} (k : ℕ) (v : A) → (k ≡ 0 → ⊥) → outcome k v ≡ refused k
unfolding outcome
outcome_refused zero v h = absurd (h refl)
outcome_refused (suc k) v h = refl

-- ---- and what the checks gave, from the outcome

abbrev is_accepted : {A : Type 0} → Outcome A → Bool
is_accepted (accepted v) = true
is_accepted (refused k) = false

abbrev number_in : {A : Type 0} → Outcome A → ℕ
number_in (accepted v) = 0
number_in (refused k) = k

pub accepted_refusal : {A : Type 0} (k : ℕ) (v n : A) → accepted n ≡ outcome k v → k ≡ 0
unfolding outcome
accepted_refusal zero v n e = refl
accepted_refusal (suc k) v n e = false_true (sym (ap is_accepted e))

pub refused_refusal : {A : Type 0} (k : ℕ) (v : A) (n : ℕ) → refused n ≡ outcome k v → (k ≡ n) × (k ≡ 0 → ⊥)
unfolding outcome
refused_refusal zero v n e = false_true (ap is_accepted e)
refused_refusal (suc k) v n e = (sym (ap number_in e), λ z. absurd (omega arith))

-- the value, or another where there is none
abbrev value_in : {A : Type 0} → A → Outcome A → A
value_in other (accepted v) = v
value_in other (refused k) = other

-- what came back is the value due
pub accepted_value : {A : Type 0} (k : ℕ) (v n : A) → accepted n ≡ outcome k v → n ≡ v
unfolding outcome
accepted_value zero v n e = ap (value_in v) e
accepted_value (suc k) v n e = false_true (sym (ap is_accepted e))
