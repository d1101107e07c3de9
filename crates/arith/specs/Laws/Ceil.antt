-- Laws of division rounded up.
use Rattle.std.specs.Prelude.{◌≡◌, refl, min, ℕ, zero, suc, ◌+◌, ◌-◌, ◌*◌, ◌/◌, ◌%◌, ◌<◌, ◌≤◌}
use Rattle.std.proofs.Common.{ap, ◌∙◌, arith, div-add-mod', mod-lt, div-lt_iff_lt-mul, suc-mul, mul-suc, zero-mul, le_trans}
use Rattle.std.proofs.Math.Nat.{div-zero, add-div_right}
use Rattle.std.proofs.Math.Arith.{digits_div}
use Rattle.arith.specs.Ceil.{ceil_div}

pub ceil_zero : (d : ℕ) → ceil_div d 0 ≡ 0
unfolding ceil_div
ceil_zero d = div-zero (d + (0 - 1))

-- the step divides the distance
pub ceil_even : (d s : ℕ) → 0 < s → d % s ≡ 0 → ceil_div d s ≡ d / s
unfolding ceil_div
ceil_even d s hs hm =
    let e : d + (s - 1) ≡ d / s * s + (s - 1) = omega (arith, div-add-mod' d s) in
    rw e (digits_div (d / s) (omega arith))

-- something is left over
pub ceil_more : (d s : ℕ) → 0 < s → (d % s ≡ 0 → ⊥) → ceil_div d s ≡ d / s + 1
unfolding ceil_div
ceil_more d s hs hm =
    let e : d + (s - 1) ≡ d / s * s + (d % s - 1) + s = omega (arith, div-add-mod' d s) in
    rw e (add-div_right (d / s * s + (d % s - 1)) hs
    ∙ ap (λ (n : ℕ). n + 1) (digits_div (d / s) (omega (arith, mod-lt d hs))))

-- at most k exactly when the distance is at most k steps
pub ceil_le : (d s k : ℕ) → 0 < s → d ≤ k * s → ceil_div d s ≤ k
unfolding ceil_div
ceil_le d s k hs h =
    let l : d + (s - 1) < suc k * s = omega (arith, suc-mul k s) in
    let q : (d + (s - 1)) / s < suc k = (div-lt_iff_lt-mul hs).1 l in
    omega arith

pub le_ceil : (d s k : ℕ) → 0 < s → ceil_div d s ≤ k → d ≤ k * s
unfolding ceil_div
le_ceil d s k hs h =
    let q : (d + (s - 1)) / s < suc k = omega arith in
    let l : d + (s - 1) < suc k * s = (div-lt_iff_lt-mul hs).0 q in
    omega (arith, suc-mul k s)

-- a farther value has no lower level
pub ceil_mono : (d e s : ℕ) → d ≤ e → ceil_div d s ≤ ceil_div e s
ceil_mono d e zero h = omega (arith, ceil_zero d, ceil_zero e)
ceil_mono d e (suc s) h =
    ceil_le d (suc s) (ceil_div e (suc s)) (omega arith)
    (le_trans h (le_ceil e (suc s) (ceil_div e (suc s)) (omega arith) (omega arith)))

-- at most the distance
pub ceil_bound : (d s : ℕ) → ceil_div d s ≤ d
ceil_bound d zero = omega (arith, ceil_zero d)
ceil_bound d (suc s) = ceil_le d (suc s) d (omega arith) (omega (arith, mul-suc d s))

-- zero exactly at zero
pub ceil_none : (s : ℕ) → ceil_div 0 s ≡ 0
ceil_none s = omega (arith, ceil_bound 0 s)

pub ceil_none_only : (d s : ℕ) → 0 < s → ceil_div d s ≡ 0 → d ≡ 0
ceil_none_only d s hs h = omega (arith, le_ceil d s 0 hs (omega arith), zero-mul s)

library_by : (d s m : ℕ) → 0 < s → d % s ≡ m → d / s + min 1 m ≡ ceil_div d s
library_by d s zero hs e = omega (arith, ceil_even d s hs e)
library_by d s (suc m) hs e = omega (arith, ceil_more d s hs (λ z. omega arith))

-- what the library's division rounded up gives
pub ceil_library : (d s : ℕ) → 0 < s → d / s + min 1 (d % s) ≡ ceil_div d s
ceil_library d s hs = library_by d s (d % s) hs refl
