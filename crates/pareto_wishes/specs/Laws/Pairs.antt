-- Two values under one wish, by their parts: the level, or the pair of kind 08 (000, Theorem 16).
use Rattle.std.specs.Prelude.{◌≡◌, refl, ◌⊎◌, ℕ, zero, suc, ◌+◌, ◌-◌, ◌<◌, ◌≤◌, Bool, true, false, ◌&&◌, ◌||◌, cond, List, [], ◌∷◌, leb, ltb, ℤ}
use Rattle.std.proofs.Common.{sym, ap, ◌∙◌, inl, inr, ⊎_elim, eq-or-lt_of_le, arith, leb-true, le-leb, ltb-true, lt-ltb}
use Rattle.std.specs.Int.Signed.{le_z}
use Rattle.laws.specs.Laws.Bools.{both, either, or_right, false_true}
use Rattle.arith.specs.Gap.{gap}
use Rattle.arith.specs.Laws.Gap.{gap_some}
use Rattle.arith.specs.Ceil.{ceil_div}
use Rattle.arith.specs.Laws.Ceil.{ceil_none, ceil_none_only}
use Rattle.constructor.specs.Level.{distance, numeric_level}
use Rattle.constructor.specs.Valid.{sound}
use Rattle.constructor.specs.Side.{side_by, side_of, is_pair, pair_of}
use Rattle.constructor.specs.Laws.Side.{side_below, side_inside, side_above, inside_none}
use Rattle.constructor.specs.declared.Constructor.{Constructor}
use Rattle.constructor.specs.declared.Constructor.TheVariants.{Lowest, Highest, Around, Between, Layered}
use Rattle.constructor.specs.declared.Constructor.TheVariants.{BetweenTrivial}
use Rattle.constructor.specs.declared.Side.{Side}
use Rattle.constructor.specs.declared.Side.TheVariants.{Below, Inside, Above}
use Rattle.pareto.specs.Dominance.{none_above, some_below}

-- ---- a side and its level: level 0 inside, and above 0 elsewhere

abbrev pub Sided : ℕ → Side → Type 0
Sided level Below = 0 < level
Sided level Inside = level ≡ 0
Sided level Above = 0 < level

above_zero : (n : ℕ) → (n ≡ 0 → ⊥) → 0 < n
above_zero zero h = absurd (h refl)
above_zero (suc n) h = omega arith

module _ (low up v : ℤ) (step : ℕ) (positive : 0 < step) where
  abbrev level : ℕ
  level = ceil_div (gap low v + gap v up) step

  far : 0 < gap low v + gap v up → 0 < level
  far h = above_zero level (λ z. absurd (omega (arith, ceil_none_only (gap low v + gap v up) step positive z)))

  by_side : (x y : Bool) → le_z low v ≡ x → le_z v up ≡ y → Sided level (side_by low up v)
  by_side false y e f = rw (side_below low up v e) (far (omega (arith, gap_some low v e)))
  by_side true false e f = rw (side_above low up v e f) (far (omega (arith, gap_some v up f)))
  by_side true true e f =
      let i = side_inside low up v e f in
      rw i (ap (λ (d : ℕ). ceil_div d step) (inside_none low up v i) ∙ ceil_none step)

pub pair_sided : (c : Constructor) (v : ℤ) → is_pair c ≡ true → sound c ≡ true → Sided (numeric_level c v) (side_of c v)
unfolding sound distance side_of
pair_sided (Lowest lo hi step) v p s = false_true p
pair_sided (Highest lo hi step) v p s = false_true p
pair_sided (Around lo hi step z) v p s = false_true p
pair_sided (Between lo hi step low up) v p s = false_true p
pair_sided (Layered top others) v p s = false_true p
pair_sided (BetweenTrivial lo hi step low up) v p s =
    let q = ltb-true 0 step (both (le_z lo low && le_z low up && le_z up hi) (ltb 0 step) s).1 in
    by_side low up v step q (le_z low v) (le_z v up) refl refl

-- ---- two pairs

-- nowhere above: lower, or the same level on the same side
pub pair_none : (m n : ℕ) (s t : Side) → Sided m s → Sided n t → none_above (pair_of m s) (pair_of n t) ≡ true
    → (m < n) ⊎ ((m ≡ n) × (s ≡ t))
unfolding none_above
pair_none m n Below Below a b e =
    let p = both (leb (m - 1) (n - 1)) (leb m n && true) e in
    let q = leb-true m n (both (leb m n) true p.1).0 in
    ⊎_elim (λ x. inr (x, refl)) (λ x. inl x) (eq-or-lt_of_le q)
pair_none m n Below Inside a b e =
    let p = both (leb (m - 1) 0) (leb m 0 && true) e in
    let q = leb-true m 0 (both (leb m 0) true p.1).0 in
    absurd (omega arith)
pair_none m n Below Above a b e =
    let p = both (leb (m - 1) n) (leb m (n - 1) && true) e in
    let q = leb-true m (n - 1) (both (leb m (n - 1)) true p.1).0 in
    inl (omega arith)
pair_none m n Inside Below a b e = inl (omega arith)
pair_none m n Inside Inside a b e = inr (omega arith, refl)
pair_none m n Inside Above a b e = inl (omega arith)
pair_none m n Above Below a b e =
    let q = leb-true m (n - 1) (both (leb m (n - 1)) (leb (m - 1) n && true) e).0 in inl (omega arith)
pair_none m n Above Inside a b e =
    let q = leb-true m 0 (both (leb m 0) (leb (m - 1) 0 && true) e).0 in absurd (omega arith)
pair_none m n Above Above a b e =
    let q = leb-true m n (both (leb m n) (leb (m - 1) (n - 1) && true) e).0 in
    ⊎_elim (λ x. inr (x, refl)) (λ x. inl x) (eq-or-lt_of_le q)

-- a lower level is nowhere above, and somewhere below
pub pair_lower : (m n : ℕ) (s t : Side) → Sided m s → Sided n t → m < n
    → (none_above (pair_of m s) (pair_of n t) ≡ true) × (some_below (pair_of m s) (pair_of n t) ≡ true)
unfolding none_above some_below
pair_lower m n Below Below a b h = (
  rw (le-leb (m - 1) (n - 1) (omega arith), le-leb m n (omega arith)),
  rw (lt-ltb m n h) (or_right (ltb (m - 1) (n - 1)) true refl),
)
pair_lower m n Below Inside a b h = absurd (omega arith)
pair_lower m n Below Above a b h = (
  rw (le-leb (m - 1) n (omega arith), le-leb m (n - 1) (omega arith)),
  rw (lt-ltb (m - 1) n (omega arith)),
)
pair_lower m n Inside Below a b h = (
  rw (le-leb 0 (n - 1) (omega arith), le-leb 0 n (omega arith)),
  rw (lt-ltb 0 n (omega arith)) (or_right (ltb 0 (n - 1)) true refl),
)
pair_lower m n Inside Inside a b h = absurd (omega arith)
pair_lower m n Inside Above a b h = (
  rw (le-leb 0 n (omega arith), le-leb 0 (n - 1) (omega arith)),
  rw (lt-ltb 0 n (omega arith)),
)
pair_lower m n Above Below a b h = (
  rw (le-leb m (n - 1) (omega arith), le-leb (m - 1) n (omega arith)),
  rw (lt-ltb (m - 1) n (omega arith)) (or_right (ltb m (n - 1)) true refl),
)
pair_lower m n Above Inside a b h = absurd (omega arith)
pair_lower m n Above Above a b h = (
  rw (le-leb m n (omega arith), le-leb (m - 1) (n - 1) (omega arith)),
  rw (lt-ltb m n h),
)

-- a pair is nowhere above itself, and nowhere below
pub none_self : (xs : List ℕ) → none_above xs xs ≡ true
unfolding none_above
none_self [] = refl
none_self (x ∷ xs) = rw (le-leb x x (omega arith), none_self xs)

-- ---- two levels

pub single_none : (m n : ℕ) → none_above (m ∷ []) (n ∷ []) ≡ true → m ≤ n
unfolding none_above
single_none m n e = leb-true m n (both (leb m n) true e).0

pub single_lower : (m n : ℕ) → m < n
    → (none_above (m ∷ []) (n ∷ []) ≡ true) × (some_below (m ∷ []) (n ∷ []) ≡ true)
unfolding none_above some_below
single_lower m n h = (rw (le-leb m n (omega arith)), rw (lt-ltb m n h))
