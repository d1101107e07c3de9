-- The preference list (document 01: the wish list "holds its eight places and 64 named values by value"), read place by
-- place.
use Rattle.std.specs.Prelude.{ℕ, min, List, pos, get_or, take}
use Rattle.limits.specs.Limits.{max_wishes, max_named}
use Rattle.constructor.specs.declared.Constructor.{Constructor}
use Rattle.constructor.specs.declared.Constructor.TheVariants.{Lowest}
use Rattle.preference.specs.declared.Preference.{Preference}
use Rattle.preference.specs.declared.Named.{Named}
use Rattle.preference.specs.declared.PreferenceList.{PreferenceList}

-- "a zero wish is LOWEST, every figure 0"
abbrev pub zero_preference : Preference
zero_preference = record { column = 0; constructor = Lowest (pos 0) (pos 0) 0 }

abbrev pub zero_named : Named
zero_named = record { preference = 0; value = pos 0; layer = 0 }

-- what stands at a place; zero past the last
abbrev pub preference_at : PreferenceList → ℕ → Preference
preference_at l i = get_or l.preferences i zero_preference

abbrev pub constructor_at : PreferenceList → ℕ → Constructor
constructor_at l i = (preference_at l i).constructor

abbrev pub named_at : PreferenceList → ℕ → Named
named_at l k = get_or l.named k zero_named

-- how many preferences and named values the list holds, whatever it counts
abbrev pub places : PreferenceList → ℕ
places l = min l.count max_wishes

abbrev pub named_places : PreferenceList → ℕ
named_places l = min l.namedcount max_named

-- "places past the counts .. are no part of the list": the preferences and the named values that it holds
abbrev pub counted : PreferenceList → List Preference
counted l = take (places l) l.preferences

abbrev pub counted_names : PreferenceList → List Named
counted_names l = take (named_places l) l.named
