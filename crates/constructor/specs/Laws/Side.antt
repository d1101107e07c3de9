-- Sides in document 02's words, form by form, and the parts of a pair (000, Theorem 16; 003, Theorem 2).
use Rattle.std.proofs.Math.Path.{◌≡◌, refl, sym}
use Rattle.std.proofs.Common.{ap, ◌∙◌, arith}
use Rattle.std.specs.Prelude.{ℕ, zero, suc, ◌+◌, ◌<◌, ◌≤◌, Bool, [], ◌∷◌, ℤ, get_or, length, Some, None}
use Rattle.std.proofs.Math.Bool.{true, false, cond}
use Rattle.std.specs.Int.Signed.{le_z, mag}
use Rattle.arith.specs.Gap.{gap}
use Rattle.arith.specs.Ceil.{ceil_div}
use Rattle.arith.specs.Laws.Gap.{gap_none, gap_some, le_refl_z}
use Rattle.arith.specs.Laws.Ceil.{ceil_none}
use Rattle.constructor.specs.Level.{distance, scale_of, target_of, numeric_level, max_level}
use Rattle.constructor.specs.Side.{side_by, side_of, is_pair, pair_of, parts_of, tops_of, part_in, half_of, part_by}
use Rattle.constructor.specs.Laws.Papers.{level_best}
use Rattle.constructor.specs.Laws.Target.{least_below, greatest_above, distance_outside}
use Rattle.constructor.specs.declared.Constructor.{Constructor}
use Rattle.constructor.specs.declared.Constructor.TheVariants.{Lowest, Highest, Around, Between, Layered}
use Rattle.constructor.specs.declared.Constructor.TheVariants.{BetweenTrivial}
use Rattle.constructor.specs.declared.Side.{Side}
use Rattle.constructor.specs.declared.Side.TheVariants.{Below, Inside, Above}

-- ---- the side of a value

module _ (low up v : ℤ) where
  pub side_below : le_z low v ≡ false → side_by low up v ≡ Below
  unfolding side_by
  side_below h = rw h

  pub side_inside : le_z low v ≡ true → le_z v up ≡ true → side_by low up v ≡ Inside
  unfolding side_by
  side_inside h k = rw (h, k)

  pub side_above : le_z low v ≡ true → le_z v up ≡ false → side_by low up v ≡ Above
  unfolding side_by
  side_above h k = rw (h, k)

  -- inside is at distance 0, and nothing else is
  pub inside_none : side_by low up v ≡ Inside → gap low v + gap v up ≡ 0
  unfolding side_by
  inside_none e = go (le_z low v) (le_z v up) refl refl e
    where
      go : (s t : Bool) → le_z low v ≡ s → le_z v up ≡ t → cond s (cond t Inside Above) Below ≡ Inside
          → gap low v + gap v up ≡ 0
      go true true h k q = omega (arith, gap_none low v h, gap_none v up k)
      go true false h k q = let z : ◌≡◌ {A = ℕ} 0 1 = cc in absurd (omega arith)
      go false t h k q = let z : ◌≡◌ {A = ℕ} 0 1 = cc in absurd (omega arith)

  pub none_inside : gap low v + gap v up ≡ 0 → side_by low up v ≡ Inside
  none_inside e = go (le_z low v) (le_z v up) refl refl
    where
      go : (s t : Bool) → le_z low v ≡ s → le_z v up ≡ t → side_by low up v ≡ Inside
      go true true h k = side_inside h k
      go true false h k = absurd (omega (arith, gap_some v up k))
      go false t h k = absurd (omega (arith, gap_some low v h))

-- "LOWEST has inside at lo and above elsewhere"
module _ (lo hi : ℤ) (step : ℕ) where
  pub lowest_at : mag lo < 2147483648 → side_of (Lowest lo hi step) lo ≡ Inside
  unfolding side_of
  lowest_at h = side_inside _ lo lo (least_below lo h) (le_refl_z lo)

  pub lowest_elsewhere : (v : ℤ) → mag v < 2147483648 → le_z v lo ≡ false → side_of (Lowest lo hi step) v ≡ Above
  unfolding side_of
  lowest_elsewhere v h k = side_above _ lo v (least_below v h) k

  -- "HIGHEST inside at hi and below elsewhere"
  pub highest_at : mag hi < 2147483648 → side_of (Highest lo hi step) hi ≡ Inside
  unfolding side_of
  highest_at h = side_inside hi _ hi (le_refl_z hi) (greatest_above hi h)

  pub highest_elsewhere : (v : ℤ) → le_z hi v ≡ false → side_of (Highest lo hi step) v ≡ Below
  unfolding side_of
  highest_elsewhere v k = side_below hi _ v k

  -- "AROUND inside at z"
  pub around_at : (z : ℤ) → side_of (Around lo hi step z) z ≡ Inside
  unfolding side_of
  around_at z = side_inside z z z (le_refl_z z) (le_refl_z z)

  -- BETWEEN and kind 08 by low..up
  pub between_side : (low up v : ℤ) → side_of (Between lo hi step low up) v ≡ side_by low up v
  unfolding side_of
  between_side low up v = refl

  pub trivial_side : (low up v : ℤ) → side_of (BetweenTrivial lo hi step low up) v ≡ side_by low up v
  unfolding side_of
  trivial_side low up v = refl

-- "LAYERED always inside"
pub layered_side : (top others : ℕ) (v : ℤ) → mag v < 2147483648 → side_of (Layered top others) v ≡ Inside
unfolding side_of
layered_side top others v h = side_inside _ _ v (least_below v h) (greatest_above v h)

-- a value is inside exactly where its distance is 0
module _ (c : Constructor) (v : ℤ) (h : mag v < 2147483648) where
  pub inside_distance : side_of c v ≡ Inside → distance c v ≡ 0
  unfolding side_of
  inside_distance e =
      sym (distance_outside c v h) ∙ inside_none (target_of c).low (target_of c).up v e

  pub distance_inside : distance c v ≡ 0 → side_of c v ≡ Inside
  unfolding side_of
  distance_inside e = none_inside (target_of c).low (target_of c).up v (distance_outside c v h ∙ e)

  -- and so where its level is 0
  pub inside_best : side_of c v ≡ Inside → numeric_level c v ≡ 0
  inside_best e = ap (λ (d : ℕ). ceil_div d (scale_of c).step) (inside_distance e) ∙ ceil_none (scale_of c).step

  pub best_inside : 0 < (scale_of c).step → numeric_level c v ≡ 0 → side_of c v ≡ Inside
  best_inside s e = distance_inside ((level_best c v s).0 e)

-- ---- the parts

pub pair_past : (level : ℕ) (s : Side) (h : ℕ) → 1 < h → get_or (pair_of level s) h 0 ≡ 0
pair_past level s zero h = absurd (omega arith)
pair_past level s (suc zero) h = absurd (omega arith)
pair_past level Below (suc (suc h)) k = refl
pair_past level Inside (suc (suc h)) k = refl
pair_past level Above (suc (suc h)) k = refl

pub pair_inside : (level : ℕ) (s : Side) (h : ℕ) → s ≡ Inside → get_or (pair_of level s) h 0 ≡ 0
pair_inside level s h e = rw e (go h)
  where
    go : (h : ℕ) → get_or (pair_of level Inside) h 0 ≡ 0
    go zero = refl
    go (suc zero) = refl
    go (suc (suc h)) = refl

pub pair_long : (level : ℕ) (s : Side) → length (pair_of level s) ≡ 2
pair_long level Below = refl
pair_long level Inside = refl
pair_long level Above = refl

-- as many parts as greatest levels
pub parts_long : (c : Constructor) (level : ℕ) (s : Side) → length (parts_of c level s) ≡ length (tops_of c)
unfolding parts_of tops_of
parts_long c level s = go (is_pair c)
  where
    go : (b : Bool) → length (cond b (pair_of level s) (level ∷ []))
        ≡ length (cond b (max_level c ∷ max_level c ∷ []) (max_level c ∷ []))
    go true = pair_long level s
    go false = refl

pub parts_single : (c : Constructor) (level : ℕ) (s : Side) → is_pair c ≡ false → parts_of c level s ≡ level ∷ []
unfolding parts_of
parts_single c level s e = rw e

pub parts_pair : (c : Constructor) (level : ℕ) (s : Side) → is_pair c ≡ true → parts_of c level s ≡ pair_of level s
unfolding parts_of
parts_pair c level s e = rw e

pub tops_single : (c : Constructor) → is_pair c ≡ false → tops_of c ≡ max_level c ∷ []
unfolding tops_of
tops_single c e = rw e

pub tops_pair : (c : Constructor) → is_pair c ≡ true → tops_of c ≡ max_level c ∷ max_level c ∷ []
unfolding tops_of
tops_pair c e = rw e

pub tops_few : (c : Constructor) → length (tops_of c) ≤ 2
unfolding tops_of
tops_few c = go (is_pair c)
  where
    go : (b : Bool) → length (cond b (max_level c ∷ max_level c ∷ []) (max_level c ∷ [])) ≤ 2
    go true = omega arith
    go false = omega arith

pub tops_some : (c : Constructor) → 1 ≤ length (tops_of c)
unfolding tops_of
tops_some c = go (is_pair c)
  where
    go : (b : Bool) → 1 ≤ length (cond b (max_level c ∷ max_level c ∷ []) (max_level c ∷ []))
    go true = omega arith
    go false = omega arith

-- M is the greatest level of each part
pub tops_at : (c : Constructor) (h : ℕ) → h < length (tops_of c) → get_or (tops_of c) h 0 ≡ max_level c
unfolding tops_of
tops_at c h l = go (is_pair c) h l
  where
    go : (b : Bool) (h : ℕ) → h < length (cond b (max_level c ∷ max_level c ∷ []) (max_level c ∷ []))
        → get_or (cond b (max_level c ∷ max_level c ∷ []) (max_level c ∷ [])) h 0 ≡ max_level c
    go true zero l = refl
    go true (suc zero) l = refl
    go true (suc (suc h)) l = absurd (omega arith)
    go false zero l = refl
    go false (suc h) l = absurd (omega arith)

-- each of the parts
pub parts_at : (c : Constructor) (level : ℕ) (s : Side) (h : ℕ) → h < length (tops_of c)
    → get_or (parts_of c level s) h 0 ≡ part_in (is_pair c) h level s
unfolding parts_of tops_of
parts_at c level s h l = go (is_pair c) h l
  where
    go : (b : Bool) (h : ℕ) → h < length (cond b (max_level c ∷ max_level c ∷ []) (max_level c ∷ []))
        → get_or (cond b (pair_of level s) (level ∷ [])) h 0 ≡ part_in b h level s
    go true h l = refl
    go false zero l = refl
    go false (suc h) l = absurd (omega arith)

-- a pair and its half, taken as one
pub part_by_half : (pair : Bool) (half level : ℕ) (s : Side)
    → part_by (cond pair (Some half) None) level s ≡ part_in pair half level s
part_by_half true half level s = refl
part_by_half false half level s = refl

pub part_by_in : (c : Constructor) (half level : ℕ) (s : Side)
    → part_by (half_of c half) level s ≡ part_in (is_pair c) half level s
part_by_in c half level s = part_by_half (is_pair c) half level s
