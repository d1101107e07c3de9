-- Document 01, "When a number comes back": the checks 6 and 7 of a form, and 3 and 6 of a named value under it.
use Rattle.std.specs.Prelude.{ℕ, Bool, not, ◌&&◌, leb, ltb}
use Rattle.std.specs.Int.Signed.{le_z}
use Rattle.limits.specs.Limits.{max_layer, greatest_level}
use Rattle.laws.specs.Checks.{◌gives◌, ◌then◌}
use Rattle.constructor.specs.Level.{max_level, layering_of}
use Rattle.constructor.specs.declared.Constructor.{Constructor}
use Rattle.constructor.specs.declared.Constructor.TheVariants.{Lowest, Highest, Around, Between, Layered}
use Rattle.constructor.specs.declared.Constructor.TheVariants.{BetweenTrivial}
use Rattle.constructor.specs.declared.Layering.{Layering}
use Rattle.constructor.specs.declared.Layering.TheVariants.{Numeric, Layers}

-- not "lo > hi, step 0, z or low..up not inside lo..hi, low > up, a layer outside its range"
unfoldable pub sound : Constructor → Bool
sound (Lowest lo hi step) = le_z lo hi && ltb 0 step
sound (Highest lo hi step) = le_z lo hi && ltb 0 step
sound (Around lo hi step z) = le_z lo z && le_z z hi && ltb 0 step
sound (Between lo hi step low up) = le_z lo low && le_z low up && le_z up hi && ltb 0 step
sound (Layered top others) = ltb 0 top && leb top max_layer && leb others top
sound (BetweenTrivial lo hi step low up) = le_z lo low && le_z low up && le_z up hi && ltb 0 step

-- 6, then 7 for "M above 65,535"
unfoldable pub constructor_refusal : Constructor → ℕ
constructor_refusal c = not (sound c) gives 6 then ltb greatest_level (max_level c) gives 7

abbrev pub refusal_under : Layering → ℕ → ℕ
refusal_under Numeric layer = 3
refusal_under (Layers top others) layer = ltb top layer gives 6

-- a named value's layer: 3 for "named value of no LAYERED wish", 6 for a layer above the top
unfoldable pub layer_refusal : Constructor → ℕ → ℕ
layer_refusal c layer = refusal_under (layering_of c) layer
