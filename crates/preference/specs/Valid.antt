-- Document 01, "When a number comes back": the checks of a list in memory, "1; 7 for the named count; wish by wish 5,
-- 6, 7; named values 3, 6", the named values one by one.
use Rattle.std.specs.Prelude.{ℕ, ◌-◌, min, Bool, ◌||◌, leb, ltb, eqb}
use Rattle.limits.specs.Limits.{max_wishes, max_named}
use Rattle.laws.specs.Checks.{◌gives◌, ◌then◌}
use Rattle.laws.specs.First.{any_below, first_refusal}
use Rattle.constructor.specs.Valid.{constructor_refusal, layer_refusal}
use Rattle.preference.specs.List.{preference_at, constructor_at, named_at}
use Rattle.preference.specs.declared.Preference.{Preference}
use Rattle.preference.specs.declared.PreferenceList.{PreferenceList}

abbrev pub has_column : PreferenceList → ℕ → ℕ → Bool
has_column l column j = eqb (preference_at l j).column column

-- one of the first n preferences has the column
abbrev pub taken : PreferenceList → ℕ → ℕ → Bool
taken l n column = any_below (has_column l column) n

-- 5: "column above 7 or taken" before place n
unfoldable pub column_refusal : PreferenceList → ℕ → ℕ → ℕ
column_refusal l n column = ltb 7 column gives 5 then taken l (min n max_wishes) column gives 5

-- a preference at place n: 5, then 6, then 7
unfoldable pub preference_refusal : PreferenceList → ℕ → Preference → ℕ
preference_refusal l n p = column_refusal l n p.column then constructor_refusal p.constructor

abbrev pub place_refusal : PreferenceList → ℕ → ℕ
place_refusal l i = preference_refusal l i (preference_at l i)

-- the named value at place k: 3 for one "of no LAYERED wish or out of wish order", then 6. The first stands in order
-- with itself.
unfoldable pub named_refusal : PreferenceList → ℕ → ℕ
named_refusal l k =
    leb l.count (named_at l k).preference gives 3 then
    ltb (named_at l k).preference (named_at l (k - 1)).preference gives 3 then
    layer_refusal (constructor_at l (named_at l k).preference) (named_at l k).layer

-- 1: "no wish, or a count above 8"; 7: "a 65th named value"
unfoldable pub list_refusal : PreferenceList → ℕ
list_refusal l =
    eqb l.count 0 || ltb max_wishes l.count gives 1 then
    ltb max_named l.namedcount gives 7 then
    first_refusal (place_refusal l) l.count then
    first_refusal (named_refusal l) l.namedcount
