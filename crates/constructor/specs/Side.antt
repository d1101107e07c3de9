-- Document 02, order 2: the side on which a value lies, and the pair of levels of kind 08 (000, Theorem 16; 003,
-- Table 4).
use Rattle.std.specs.Prelude.{ℕ, ◌-◌, Bool, true, false, cond, List, [], ◌∷◌, ℤ, get_or, Option, Some, None}
use Rattle.std.specs.Int.Signed.{le_z}
use Rattle.constructor.specs.Level.{target_of, max_level}
use Rattle.constructor.specs.declared.Constructor.{Constructor}
use Rattle.constructor.specs.declared.Constructor.TheVariants.{Lowest, Highest, Around, Between, Layered}
use Rattle.constructor.specs.declared.Constructor.TheVariants.{BetweenTrivial}
use Rattle.constructor.specs.declared.Side.{Side}
use Rattle.constructor.specs.declared.Side.TheVariants.{Below, Inside, Above}

-- below low..up, inside it, or above it
unfoldable pub side_by : ℤ → ℤ → ℤ → Side
side_by low up v = cond (le_z low v) (cond (le_z v up) Inside Above) Below

-- "The level of any value is now given with its side: below, inside or above." One definition for all forms, by the
-- values at distance 0; Laws/Side.antt has the order's sentence on each form.
unfoldable pub side_of : Constructor → ℤ → Side
side_of c v = side_by (target_of c).low (target_of c).up v

-- kind 08: a level has two parts
abbrev pub is_pair : Constructor → Bool
is_pair (Lowest lo hi step) = false
is_pair (Highest lo hi step) = false
is_pair (Around lo hi step z) = false
is_pair (Between lo hi step low up) = false
is_pair (Layered top others) = false
is_pair (BetweenTrivial lo hi step low up) = true

-- "A value inside gets the pair of levels (0, 0), one above at level L gets (L, L − 1), one below (L − 1, L)"
abbrev pub pair_of : ℕ → Side → List ℕ
pair_of level Below = (level - 1) ∷ level ∷ []
pair_of level Inside = 0 ∷ 0 ∷ []
pair_of level Above = level ∷ (level - 1) ∷ []

-- the parts of a level, "first part before second"; one under every other form
unfoldable pub parts_of : Constructor → ℕ → Side → List ℕ
parts_of c level side = cond (is_pair c) (pair_of level side) (level ∷ [])

-- "Each part of the pair runs 0 to M": the greatest level of each part
unfoldable pub tops_of : Constructor → List ℕ
tops_of c = cond (is_pair c) (max_level c ∷ max_level c ∷ []) (max_level c ∷ [])

-- part `half` of a pair, or the level where it is none
abbrev pub part_in : Bool → ℕ → ℕ → Side → ℕ
part_in pair half level side = cond pair (get_or (pair_of level side) half 0) level

-- the half that is meant, where a level under a form is a pair
abbrev pub half_of : Constructor → ℕ → Option ℕ
half_of c half = cond (is_pair c) (Some half) None

-- that half of a pair, or the level where none is meant: `part_in`, pair and half in one (part_by_in)
abbrev pub part_by : Option ℕ → ℕ → Side → ℕ
part_by None level side = level
part_by (Some half) level side = get_or (pair_of level side) half 0
