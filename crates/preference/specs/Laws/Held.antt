-- A list that is taken for what it holds: at its places stands what stands there in the arrays.
use Rattle.std.specs.Prelude.{◌≡◌, ℕ, ◌<◌, List, get_or, length}
use Rattle.std.proofs.Common.{◌∙◌}
use Rattle.std.specs.List.{HoldsAt}
use Rattle.std.proofs.lemmas.List.{get_or-take}
use Rattle.preference.specs.List.{preference_at, zero_preference, named_at, zero_named, places, named_places}
use Rattle.preference.specs.List.{counted, counted_names}
use Rattle.preference.specs.declared.Preference.{Preference}
use Rattle.preference.specs.declared.PreferenceList.{PreferenceList}

pub place_held : (l : PreferenceList) (i : ℕ) → i < places l
    → get_or (counted l) i zero_preference ≡ preference_at l i
place_held l i h = get_or-take (places l) l.preferences i zero_preference h

pub name_held : (l : PreferenceList) (k : ℕ) → k < named_places l
    → get_or (counted_names l) k zero_named ≡ named_at l k
name_held l k h = get_or-take (named_places l) l.named k zero_named h

-- what `get` finds at a place of the held preferences
module _ (l : PreferenceList) (xs : List Preference) (held : xs ≡ counted l) (long : length xs ≡ places l)
    (i : ℕ) (p : Preference) (h : i < length xs) (there : HoldsAt (λ y. p ≡ y) xs i)
  where
    pub found_place : i < places l
    found_place = rw long at h

    pub found_held : p ≡ preference_at l i
    found_held = rw held at (there zero_preference) ∙ place_held l i found_place
