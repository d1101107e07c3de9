-- A list that a preference or a named value is added to: what stands at its places, and what its checks look at.
use Rattle.std.specs.Prelude.{◌≡◌, ℕ, ◌<◌, min, eqb, length}
use Rattle.std.proofs.Common.{ap, arith, get_or-set_same, get_or-set_other}
use Rattle.laws.specs.Laws.First.{any_cong}
use Rattle.preference.specs.List.{zero_preference, zero_named, preference_at, named_at}
use Rattle.preference.specs.Valid.{has_column, column_refusal, preference_refusal}
use Rattle.preference.specs.declared.Preference.{Preference}
use Rattle.preference.specs.declared.Named.{Named}
use Rattle.preference.specs.declared.PreferenceList.{PreferenceList}
use Rattle.stream_format.specs.Read.{add_preference, add_named}

module _ (m : PreferenceList) (p : Preference) where
  pub preference_new : m.count < length m.preferences → preference_at (add_preference m p) m.count ≡ p
  preference_new h = get_or-set_same m.preferences m.count p zero_preference h

  pub preference_old : (j : ℕ) → j < m.count → preference_at (add_preference m p) j ≡ preference_at m j
  preference_old j h = get_or-set_other m.preferences m.count j p zero_preference (λ e. absurd (omega arith))

module _ (m : PreferenceList) (e : Named) where
  pub named_new : m.namedcount < length m.named → named_at (add_named m e) m.namedcount ≡ e
  named_new h = get_or-set_same m.named m.namedcount e zero_named h

  pub named_old : (k : ℕ) → k < m.namedcount → named_at (add_named m e) k ≡ named_at m k
  named_old k h = get_or-set_other m.named m.namedcount k e zero_named (λ q. absurd (omega arith))

-- the check of a preference looks only at the places before it
pub preference_refusal_same : (l m : PreferenceList) (i : ℕ) (p : Preference)
    → ((j : ℕ) → j < i → preference_at m j ≡ preference_at l j) → preference_refusal m i p ≡ preference_refusal l i p
unfolding preference_refusal column_refusal
preference_refusal_same l m i p h =
    rw (any_cong (has_column m p.column) (has_column l p.column) (min i 8)
    (λ j k. ap (λ (q : Preference). eqb q.column p.column) (h j (omega arith))))
