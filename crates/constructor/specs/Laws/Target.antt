-- Every form's distance is how far a value lies outside low..up of its target.
use Rattle.std.specs.Prelude.{◌≡◌, ◌+◌, ◌<◌, true, ℤ, pos, negsuc, refl}
use Rattle.std.proofs.Common.{arith, add_comm, le-leb}
use Rattle.std.specs.Int.Signed.{le_z, mag}
use Rattle.arith.specs.Gap.{gap}
use Rattle.arith.specs.Laws.Gap.{gap_none}
use Rattle.constructor.specs.Level.{distance, target_of}
use Rattle.constructor.specs.declared.Constructor.{Constructor}
use Rattle.constructor.specs.declared.Constructor.TheVariants.{Lowest, Highest, Around, Between, Layered}
use Rattle.constructor.specs.declared.Constructor.TheVariants.{BetweenTrivial}

-- no i32 lies below the least or above the greatest
pub least_below : (v : ℤ) → mag v < 2147483648 → le_z (negsuc 2147483647) v ≡ true
least_below (pos n) h = refl
least_below (negsuc n) h = le-leb n 2147483647 (omega arith)

pub greatest_above : (v : ℤ) → mag v < 2147483648 → le_z v (pos 2147483647) ≡ true
greatest_above (pos n) h = le-leb n 2147483647 (omega arith)
greatest_above (negsuc n) h = refl

least : (v : ℤ) → mag v < 2147483648 → gap (negsuc 2147483647) v ≡ 0
least v h = gap_none (negsuc 2147483647) v (least_below v h)

greatest : (v : ℤ) → mag v < 2147483648 → gap v (pos 2147483647) ≡ 0
greatest v h = gap_none v (pos 2147483647) (greatest_above v h)

pub distance_outside : (c : Constructor) (v : ℤ) → mag v < 2147483648
    → gap (target_of c).low v + gap v (target_of c).up ≡ distance c v
unfolding distance
distance_outside (Lowest lo hi step) v h = omega (arith, least v h)
distance_outside (Highest lo hi step) v h = omega (arith, greatest v h)
distance_outside (Around lo hi step z) v h = add_comm (gap z v) (gap v z)
distance_outside (Between lo hi step low up) v h = refl
distance_outside (Layered top others) v h = omega (arith, least v h, greatest v h)
distance_outside (BetweenTrivial lo hi step low up) v h = refl
