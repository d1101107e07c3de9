-- The definitions say what documents 01 and 000 say: each distance in the document's words, 000's derivations of one
-- constructor from another (Def. 8 and 9), and what a level says of a distance.
use Rattle.std.specs.Prelude.{◌≡◌, ℕ, ◌+◌, ◌*◌, ◌<◌, ◌≤◌, true, ℤ, ◌-ℤ◌, nat_abs}
use Rattle.std.proofs.Math.Path.{sym, ap}
use Rattle.std.proofs.Common.{◌∙◌, arith, add_comm}
use Rattle.std.proofs.Math.IntN.{pos}
use Rattle.std.specs.Int.Signed.{le_z}
use Rattle.laws.specs.Laws.Bools.{both}
use Rattle.arith.specs.Gap.{gap}
use Rattle.arith.specs.Ceil.{ceil_div}
use Rattle.arith.specs.Laws.Gap.{gap_none, gap_exact, gap_abs, le_refl_z, le_trans_z}
use Rattle.arith.specs.Laws.Ceil.{ceil_le, le_ceil, ceil_none, ceil_none_only}
use Rattle.constructor.specs.Level.{distance, scale_of, inside, numeric_level, max_level}
use Rattle.constructor.specs.declared.Constructor.{Constructor}
use Rattle.constructor.specs.declared.Constructor.TheVariants.{Lowest, Highest, Around, Between}

-- ---- the distances of document 01

module _ (lo hi : ℤ) (step : ℕ) (v : ℤ) where
  -- v − lo
  pub lowest_distance : le_z lo v ≡ true → pos (distance (Lowest lo hi step) v) ≡ v -ℤ lo
  unfolding distance
  lowest_distance h = gap_exact v lo h

  -- hi − v
  pub highest_distance : le_z v hi ≡ true → pos (distance (Highest lo hi step) v) ≡ hi -ℤ v
  unfolding distance
  highest_distance h = gap_exact hi v h

  -- |v − z|
  pub around_distance : (z : ℤ) → distance (Around lo hi step z) v ≡ nat_abs (v -ℤ z)
  unfolding distance
  around_distance z = sym (gap_abs v z)

  -- how far v lies outside low..up: not at all, below it, above it (000, Def. 7)
  module _ (low up : ℤ) (h : le_z low up ≡ true) where
    pub between_inside : le_z low v ≡ true → le_z v up ≡ true → distance (Between lo hi step low up) v ≡ 0
    unfolding distance
    between_inside l u = omega (arith, gap_none low v l, gap_none v up u)

    pub between_below : le_z v low ≡ true → pos (distance (Between lo hi step low up) v) ≡ low -ℤ v
    unfolding distance
    between_below l =
        let e : gap low v + gap v up ≡ gap low v = omega (arith, gap_none v up (le_trans_z v low up l h)) in
        ap pos e ∙ gap_exact low v l

    pub between_above : le_z up v ≡ true → pos (distance (Between lo hi step low up) v) ≡ v -ℤ up
    unfolding distance
    between_above u =
        let e : gap low v + gap v up ≡ gap v up = omega (arith, gap_none low v (le_trans_z low up v h u)) in
        ap pos e ∙ gap_exact v up u

-- ---- 000's derivations

-- two constructors that give every value of lo..hi one level, and have one greatest level
pub record Alike (c d : Constructor) : Type 0 where
  pub level_alike : (v : ℤ) → inside c v ≡ true → numeric_level c v ≡ numeric_level d v
  pub max_alike : max_level c ≡ max_level d

-- Def. 8: AROUND is BETWEEN with low = up = z
pub around_between : (lo hi : ℤ) (step : ℕ) (z : ℤ) → Alike (Around lo hi step z) (Between lo hi step z z)
unfolding distance max_level
around_between lo hi step z =
    record {
      level_alike = λ v h. rw (add_comm (gap v z) (gap z v));
      max_alike = rw (add_comm (gap lo z) (gap z lo), add_comm (gap hi z) (gap z hi));
    }

-- Def. 9 b): LOWEST is AROUND at lo
pub lowest_around : (lo hi : ℤ) (step : ℕ) → le_z lo hi ≡ true → Alike (Lowest lo hi step) (Around lo hi step lo)
unfolding distance inside max_level
lowest_around lo hi step o =
    record {
      level_alike = λ v h. ap (λ (d : ℕ). ceil_div d step) (one v (both (le_z lo v) (le_z v hi) h).0);
      max_alike = rw (← one lo (le_refl_z lo), ← one hi o);
    }
  where
    one : (v : ℤ) → le_z lo v ≡ true → gap v lo ≡ gap v lo + gap lo v
    one v h = omega (arith, gap_none lo v h)

-- Def. 9 a): HIGHEST is AROUND at hi
pub highest_around : (lo hi : ℤ) (step : ℕ) → le_z lo hi ≡ true → Alike (Highest lo hi step) (Around lo hi step hi)
unfolding distance inside max_level
highest_around lo hi step o =
    record {
      level_alike = λ v h. ap (λ (d : ℕ). ceil_div d step) (one v (both (le_z lo v) (le_z v hi) h).1);
      max_alike = rw (← one lo o, ← one hi (le_refl_z hi));
    }
  where
    one : (v : ℤ) → le_z v hi ≡ true → gap hi v ≡ gap v hi + gap hi v
    one v h = omega (arith, gap_none v hi h)

-- ---- what a level says

module _ (c : Constructor) (v : ℤ) (h : 0 < (scale_of c).step) where
  -- the level is at most k exactly when v lies within k steps: what a level is checked by with a pencil
  pub level_within : (k : ℕ)
      → (numeric_level c v ≤ k → distance c v ≤ k * (scale_of c).step)
      × (distance c v ≤ k * (scale_of c).step → numeric_level c v ≤ k)
  level_within k = (le_ceil (distance c v) (scale_of c).step k h, ceil_le (distance c v) (scale_of c).step k h)

  -- level 0 is for what is wished for, and for nothing else
  pub level_best : (numeric_level c v ≡ 0 → distance c v ≡ 0) × (distance c v ≡ 0 → numeric_level c v ≡ 0)
  level_best = (
    ceil_none_only (distance c v) (scale_of c).step h,
    λ e. ap (λ (d : ℕ). ceil_div d (scale_of c).step) e
        ∙ ceil_none (scale_of c).step,
  )
