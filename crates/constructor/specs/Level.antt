-- Document 01, "Levels": distance, level and greatest level under one form (000, Def. 6 to 10, Lemma 2, Theorem 2).
use Rattle.std.specs.Prelude.{ℕ, ◌+◌, max, Bool, ◌&&◌, ℤ, pos, negsuc}
use Rattle.std.specs.Int.Signed.{le_z}
use Rattle.arith.specs.Gap.{gap}
use Rattle.arith.specs.Ceil.{ceil_div}
use Rattle.constructor.specs.declared.Constructor.{Constructor}
use Rattle.constructor.specs.declared.Constructor.TheVariants.{Lowest, Highest, Around, Between, Layered}
use Rattle.constructor.specs.declared.Constructor.TheVariants.{BetweenTrivial}
use Rattle.constructor.specs.declared.Scale.{Scale}
use Rattle.constructor.specs.declared.Target.{Target}
use Rattle.constructor.specs.declared.Layering.{Layering}
use Rattle.constructor.specs.declared.Layering.TheVariants.{Numeric, Layers}

-- "The distance of v is v − lo (LOWEST), hi − v (HIGHEST), |v − z| (AROUND), or how far v lies outside low..up
-- (BETWEEN)." Kind 08 of document 02 has BETWEEN's.
unfoldable pub distance : Constructor → ℤ → ℕ
distance (Lowest lo hi step) v = gap v lo
distance (Highest lo hi step) v = gap hi v
distance (Around lo hi step z) v = gap v z + gap z v
distance (Between lo hi step low up) v = gap low v + gap v up
distance (Layered top others) v = 0
distance (BetweenTrivial lo hi step low up) v = gap low v + gap v up

-- the least and the greatest number of 32 bits
abbrev pub least : ℤ
least = negsuc 2147483647

abbrev pub greatest : ℤ
greatest = pos 2147483647

-- lo, hi and step; LAYERED has no bounds, so it takes every i32
abbrev pub scale_of : Constructor → Scale
scale_of (Lowest lo hi step) = record { lo = lo; hi = hi; step = step }
scale_of (Highest lo hi step) = record { lo = lo; hi = hi; step = step }
scale_of (Around lo hi step z) = record { lo = lo; hi = hi; step = step }
scale_of (Between lo hi step low up) = record { lo = lo; hi = hi; step = step }
scale_of (Layered top others) = record { lo = least; hi = greatest; step = 1 }
scale_of (BetweenTrivial lo hi step low up) = record { lo = lo; hi = hi; step = step }

-- the values at distance 0; bounds that no i32 lies outside where the form has none (Laws/Target.antt)
abbrev pub target_of : Constructor → Target
target_of (Lowest lo hi step) = record { low = least; up = lo }
target_of (Highest lo hi step) = record { low = hi; up = greatest }
target_of (Around lo hi step z) = record { low = z; up = z }
target_of (Between lo hi step low up) = record { low = low; up = up }
target_of (Layered top others) = record { low = least; up = greatest }
target_of (BetweenTrivial lo hi step low up) = record { low = low; up = up }

-- v lies in lo..hi
unfoldable pub inside : Constructor → ℤ → Bool
inside c v = le_z (scale_of c).lo v && le_z v (scale_of c).hi

-- "The level is distance divided by step, rounded up."
abbrev pub numeric_level : Constructor → ℤ → ℕ
numeric_level c v = ceil_div (distance c v) (scale_of c).step

-- whether the level goes by distance or by layers
abbrev pub layering_of : Constructor → Layering
layering_of (Lowest lo hi step) = Numeric
layering_of (Highest lo hi step) = Numeric
layering_of (Around lo hi step z) = Numeric
layering_of (Between lo hi step low up) = Numeric
layering_of (Layered top others) = Layers top others
layering_of (BetweenTrivial lo hi step low up) = Numeric

abbrev pub top_or : Layering → ℕ → ℕ
top_or Numeric m = m
top_or (Layers top others) m = top

-- "M, a wish's greatest level, is the greatest over lo..hi, or the top layer." One of the ends of lo..hi has it:
-- Laws/Greatest.antt proves that no value of lo..hi has a greater level.
unfoldable pub max_level : Constructor → ℕ
max_level c = top_or (layering_of c) (max (numeric_level c (scale_of c).lo) (numeric_level c (scale_of c).hi))
