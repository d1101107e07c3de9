-- A signed local holds bits: what it gives back is the number, where that fits.
use Rattle.std.specs.Prelude.{◌≡◌, refl, ℕ, suc, ◌-◌, ◌<◌, ◌^◌, Bool, true, false, eqb, ℤ, pos, negsuc}
use Rattle.std.specs.Int.Signed.{mag}
use Rattle.std.specs.Int.{w32}
use Rattle.std.proofs.Common.{arith, to_z, of_z, to_z-of_z, eq-eqb, ne_eqb, eqb-true}
use Rattle.std.proofs.lemmas.Bool.{eqb-false}
use Rattle.arith.specs.Gap.{eq_z}

pub num : (z : ℤ) → mag z < 2147483648 → to_z w32 (of_z w32 z) ≡ z
num z h = to_z-of_z {w = w32} {z = z} (record { sfits = h })

flip : (a b : ℕ) → a < 2147483648 → b < 2147483648 → (t : Bool) → eqb a b ≡ t
    → eqb (2 ^ 32 - suc a) (2 ^ 32 - suc b) ≡ t
flip a b ha hb true e = let q : a ≡ b = eqb-true a b e in eq-eqb (2 ^ 32 - suc a) (2 ^ 32 - suc b) (omega arith)
flip a b ha hb false e = ne_eqb (2 ^ 32 - suc a) (2 ^ 32 - suc b) (λ q. eqb-false a b e (omega arith))

-- two numbers are the same exactly when their bits are
pub same_is : (a b : ℤ) → mag a < 2147483648 → mag b < 2147483648 → eqb (of_z w32 a) (of_z w32 b) ≡ eq_z a b
same_is (pos a) (pos b) ha hb = refl
same_is (pos a) (negsuc b) ha hb = ne_eqb a (2 ^ 32 - suc b) (λ e. omega arith)
same_is (negsuc a) (pos b) ha hb = ne_eqb (2 ^ 32 - suc a) b (λ e. omega arith)
same_is (negsuc a) (negsuc b) ha hb = flip a b ha hb (eqb a b) refl
