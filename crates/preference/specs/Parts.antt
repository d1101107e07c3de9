-- What the engines know of a preference list: the level vector of a run and the greatest level of each of its parts
-- (document 01: "The engines know a wish only by its level and its M"). A preference gives a list of parts: its level,
-- or the pair of levels of document 02, order 2.
use Rattle.std.specs.Prelude.{ℕ, ◌-◌, List, ℤ, pos, get_or, length}
use Rattle.laws.specs.First.{first_refusal}
use Rattle.laws.specs.Lists.{joined, list_with}
use Rattle.constructor.specs.Side.{parts_of, tops_of}
use Rattle.preference.specs.List.{preference_at, constructor_at, places}
use Rattle.preference.specs.Level.{level_at, side_at, value_refusal}
use Rattle.preference.specs.declared.PreferenceList.{PreferenceList}
use Rattle.preference.specs.declared.PartAt.{PartAt}

-- the value of a run in the column of the preference at place i; values past the run's end read as 0
abbrev pub row_value : PreferenceList → List ℤ → ℕ → ℤ
row_value l row i = get_or row (preference_at l i).column (pos 0)

-- the parts of a level under the preference at place i, and their greatest levels
abbrev pub level_parts : PreferenceList → List ℤ → ℕ → List ℕ
level_parts l row i =
    parts_of (constructor_at l i) (level_at l i (row_value l row i)) (side_at l i (row_value l row i))

abbrev pub max_parts : PreferenceList → ℕ → List ℕ
max_parts l i = tops_of (constructor_at l i)

-- the level vector of a run, preference by preference
unfoldable pub levels : PreferenceList → List ℤ → List ℕ
levels l row = joined (level_parts l row) (places l)

-- the greatest level of each part of a level vector
unfoldable pub max_levels : PreferenceList → List ℕ
max_levels l = joined (max_parts l) (places l)

-- where part k of the level vectors is found: part `half` of the preference at `place`. Past the last part, the place
-- is the first that the list does not hold, and half says how far past the last k is.
unfoldable pub part_of : PreferenceList → ℕ → PartAt
part_of l k =
    record {
      place = list_with (max_parts l) (places l) k;
      half = k - length (joined (max_parts l) (list_with (max_parts l) (places l) k));
    }

-- 8 for a run: one of its values lies outside the bounds of its preference
unfoldable pub row_refusal : PreferenceList → List ℤ → ℕ
row_refusal l row = first_refusal (λ i. value_refusal l i (row_value l row i)) (places l)
