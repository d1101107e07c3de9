-- "M, a wish's greatest level, is the greatest over lo..hi": an end of lo..hi has it, and no value of lo..hi has a
-- greater one.
use Rattle.std.specs.Prelude.{◌≡◌, refl, ℕ, ◌+◌, ◌≤◌, max, ◌⊎◌, Bool, true, false, ◌&&◌, ltb, ℤ}
use Rattle.std.proofs.Common.{sym, le_trans, inl, inr, ⊎_elim}
use native.Mathlib.Omega.{arith, max_cases}
use Rattle.std.proofs.Math.Nat.{le-max_left, le-max_right}
use Rattle.std.specs.Int.Signed.{le_z}
use Rattle.laws.specs.Laws.Bools.{both}
use Rattle.arith.specs.Gap.{gap}
use Rattle.arith.specs.Laws.Gap.{gap_none, gap_up, gap_down, le_refl_z, not_le_z, le_trans_z}
use Rattle.arith.specs.Laws.Ceil.{ceil_mono}
use Rattle.constructor.specs.Level.{distance, scale_of, inside, numeric_level, layering_of, max_level}
use Rattle.constructor.specs.Valid.{sound}
use Rattle.constructor.specs.declared.Constructor.{Constructor}
use Rattle.constructor.specs.declared.Constructor.TheVariants.{Lowest, Highest, Around, Between, Layered}
use Rattle.constructor.specs.declared.Constructor.TheVariants.{BetweenTrivial}
use Rattle.constructor.specs.declared.Layering.TheVariants.{Numeric}

-- with low not above up, a value of lo..hi is no farther off than one of the ends
module _ (lo hi low up v : ℤ) (hl : le_z lo v ≡ true) (hh : le_z v hi ≡ true) (hm : le_z low up ≡ true) where
  mid : (t : Bool) → le_z v up ≡ t
      → (gap low v + gap v up ≤ gap low lo + gap lo up) ⊎ (gap low v + gap v up ≤ gap low hi + gap hi up)
  mid true e = inl (omega (arith, gap_none v up e, gap_down lo v low hl))
  mid false e = inr (omega (arith, gap_none low v (le_trans_z low up v hm (not_le_z v up e)), gap_up v hi up hh))

-- the bounds of BETWEEN and AROUND that are sound
ordered_between : (lo hi low up : ℤ) (b : Bool) → le_z lo low && le_z low up && le_z up hi && b ≡ true
    → (le_z lo low ≡ true) × (le_z low up ≡ true) × (le_z up hi ≡ true)
ordered_between lo hi low up b s =
    let p = (both (le_z lo low && le_z low up && le_z up hi) b s).0 in
    let q = both (le_z lo low && le_z low up) (le_z up hi) p in
    let r = both (le_z lo low) (le_z low up) q.0 in
    (r.0, r.1, q.1)

ordered_around : (lo hi z : ℤ) (b : Bool) → le_z lo z && le_z z hi && b ≡ true → (le_z lo z ≡ true) × (le_z z hi ≡ true)
ordered_around lo hi z b s = both (le_z lo z) (le_z z hi) (both (le_z lo z && le_z z hi) b s).0

far_between : (lo hi low up v : ℤ) (b : Bool) → le_z lo low && le_z low up && le_z up hi && b ≡ true
    → le_z lo v && le_z v hi ≡ true
    → (gap low v + gap v up ≤ gap low lo + gap lo up) ⊎ (gap low v + gap v up ≤ gap low hi + gap hi up)
far_between lo hi low up v b s h =
    let i = both (le_z lo v) (le_z v hi) h in
    mid lo hi low up v i.0 i.1 (ordered_between lo hi low up b s).1 (le_z v up) refl

-- the farther end
far : (c : Constructor) (v : ℤ) → sound c ≡ true → inside c v ≡ true
    → (distance c v ≤ distance c (scale_of c).lo) ⊎ (distance c v ≤ distance c (scale_of c).hi)
unfolding distance sound inside
far (Lowest lo hi step) v s h = inr (gap_up v hi lo (both (le_z lo v) (le_z v hi) h).1)
far (Highest lo hi step) v s h = inl (gap_down lo v hi (both (le_z lo v) (le_z v hi) h).0)
far (Around lo hi step z) v s h =
    let i = both (le_z lo v) (le_z v hi) h in
    ⊎_elim (λ e. inl (omega arith)) (λ e. inr (omega arith))
    (mid lo hi z z v i.0 i.1 (le_refl_z z) (le_z v z) refl)
far (Between lo hi step low up) v s h = far_between lo hi low up v (ltb 0 step) s h
far (Layered top others) v s h = inl (omega arith)
far (BetweenTrivial lo hi step low up) v s h = far_between lo hi low up v (ltb 0 step) s h

between_ends : (lo hi low up : ℤ) (b : Bool) → le_z lo low && le_z low up && le_z up hi && b ≡ true → le_z lo hi ≡ true
between_ends lo hi low up b s =
    let p = ordered_between lo hi low up b s in le_trans_z lo low hi p.0 (le_trans_z low up hi p.1 p.2)

ordered : (c : Constructor) → layering_of c ≡ Numeric → sound c ≡ true → le_z (scale_of c).lo (scale_of c).hi ≡ true
unfolding sound
ordered (Lowest lo hi step) y s = (both (le_z lo hi) (ltb 0 step) s).0
ordered (Highest lo hi step) y s = (both (le_z lo hi) (ltb 0 step) s).0
ordered (Around lo hi step z) y s = let p = ordered_around lo hi z (ltb 0 step) s in le_trans_z lo z hi p.0 p.1
ordered (Between lo hi step low up) y s = between_ends lo hi low up (ltb 0 step) s
ordered (Layered top others) y s = refl
ordered (BetweenTrivial lo hi step low up) y s = between_ends lo hi low up (ltb 0 step) s

-- no value of lo..hi has a level above both ends'
pub level_ends : (c : Constructor) (v : ℤ) → sound c ≡ true → inside c v ≡ true
    → numeric_level c v ≤ max (numeric_level c (scale_of c).lo) (numeric_level c (scale_of c).hi)
level_ends c v s h =
    let m = numeric_level c (scale_of c).lo in
    let n = numeric_level c (scale_of c).hi in
    ⊎_elim
    (λ l. le_trans (ceil_mono _ _ (scale_of c).step l) (le-max_left m n))
    (λ l. le_trans (ceil_mono _ _ (scale_of c).step l) (le-max_right m n))
    (far c v s h)

-- m is the greatest level over lo..hi
pub record Greatest (c : Constructor) (m : ℕ) : Type 0 where
  pub most : (v : ℤ) → inside c v ≡ true → numeric_level c v ≤ m
  pub at : ℤ
  pub at_inside : inside c at ≡ true
  pub at_level : numeric_level c at ≡ m

pub max_greatest : (c : Constructor) → layering_of c ≡ Numeric → sound c ≡ true → Greatest c (max_level c)
unfolding max_level inside
max_greatest c y s =
    let lo = (scale_of c).lo in
    let hi = (scale_of c).hi in
    let o = ordered c y s in
    rw y
    (max_cases (numeric_level c lo) (numeric_level c hi) (Greatest c (max (numeric_level c lo) (numeric_level c hi)))
    (λ l e. record { most = λ v h. level_ends c v s h; at = hi; at_inside = rw (o, le_refl_z hi); at_level = sym e })
    (λ l e. record { most = λ v h. level_ends c v s h; at = lo; at_inside = rw (o, le_refl_z lo); at_level = sym e }))
