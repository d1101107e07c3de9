-- Document 01: "places past the counts .. are no part of the list", "counted places compared".
use Rattle.std.specs.Prelude.{◌≡◌, ℕ, ◌<◌}
use Rattle.preference.specs.List.{preference_at, named_at}
use Rattle.preference.specs.declared.PreferenceList.{PreferenceList}

-- two lists with the same counts and the same counted places
pub record Same (l m : PreferenceList) : Type 0 where
  pub counts : l.count ≡ m.count
  pub naming_counts : l.namedcount ≡ m.namedcount
  pub places_same : (i : ℕ) → i < l.count → preference_at l i ≡ preference_at m i
  pub named_same : (k : ℕ) → k < l.namedcount → named_at l k ≡ named_at m k
