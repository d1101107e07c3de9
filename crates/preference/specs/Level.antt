-- Document 01, "Levels": the level of a value under a preference of the list, its greatest level, and the call that
-- asks for one; document 02, order 2: its side.
use Rattle.std.specs.Prelude.{ℕ, Bool, not, ◌&&◌, cond, leb, ltb, eqb, ℤ}
use Rattle.laws.specs.Checks.{◌gives◌, ◌then◌}
use Rattle.laws.specs.First.{first_at}
use Rattle.arith.specs.Gap.{eq_z}
use Rattle.constructor.specs.Level.{numeric_level, max_level, layering_of, inside}
use Rattle.constructor.specs.Side.{side_of}
use Rattle.constructor.specs.declared.Layering.{Layering}
use Rattle.constructor.specs.declared.Layering.TheVariants.{Numeric, Layers}
use Rattle.constructor.specs.declared.Side.{Side}
use Rattle.preference.specs.List.{constructor_at, named_at, named_places}
use Rattle.preference.specs.Valid.{list_refusal}
use Rattle.preference.specs.declared.PreferenceList.{PreferenceList}
use Rattle.preference.specs.declared.Told.{Told}

-- the named value at place k is v, of the preference at place i
abbrev pub is_named : PreferenceList → ℕ → ℤ → ℕ → Bool
is_named l i v k = eqb (named_at l k).preference i && eq_z (named_at l k).value v

-- the layer of the named value at place k, where that is one of the list's
abbrev pub layer_at : PreferenceList → ℕ → ℕ → ℕ
layer_at l k others = cond (ltb k (named_places l)) (named_at l k).layer others

-- "LAYERED: the layer of the first NAMED with that value, else the layer of other values."
unfoldable pub layer_of : PreferenceList → ℕ → ℤ → ℕ → ℕ
layer_of l i v others = layer_at l (first_at (is_named l i v) (named_places l)) others

abbrev pub level_under : PreferenceList → ℕ → ℤ → Layering → ℕ
level_under l i v Numeric = numeric_level (constructor_at l i) v
level_under l i v (Layers top others) = layer_of l i v others

-- the level of v under the preference at place i
unfoldable pub level_at : PreferenceList → ℕ → ℤ → ℕ
level_at l i v = level_under l i v (layering_of (constructor_at l i))

-- the side of v under it
unfoldable pub side_at : PreferenceList → ℕ → ℤ → Side
side_at l i v = side_of (constructor_at l i) v

-- M of the preference at place i
unfoldable pub max_at : PreferenceList → ℕ → ℕ
max_at l i = max_level (constructor_at l i)

-- 8: "value outside lo..hi of its wish"
unfoldable pub value_refusal : PreferenceList → ℕ → ℤ → ℕ
value_refusal l i v = not (inside (constructor_at l i) v) gives 8

-- the level of a value: the list's checks, "10 for a place past the count and then 8 for that value"
unfoldable pub level_refusal : PreferenceList → ℕ → ℤ → ℕ
level_refusal l i v = list_refusal l then leb l.count i gives 10 then value_refusal l i v

-- what the call tells of v under the preference at place i: "The level of any value is now given with its side"
abbrev pub told_at : PreferenceList → ℕ → ℤ → Told
told_at l i v = record { level = level_at l i v; side = side_at l i v }
