-- Checks in order: what decides, and what an order of checks that gives no number says of each.
use Rattle.std.specs.Prelude.{◌≡◌, refl, ℕ, zero, suc, Bool, true, false}
use Rattle.std.proofs.Common.{arith}
use Rattle.laws.specs.Checks.{◌gives◌, ◌then◌}

pub gives_yes : (b : Bool) (n : ℕ) → b ≡ true → b gives n ≡ n
unfolding ◌gives◌
gives_yes b n e = rw e

pub gives_no : (b : Bool) (n : ℕ) → b ≡ false → b gives n ≡ 0
unfolding ◌gives◌
gives_no b n e = rw e

-- a check that gives no number failed its test
pub gives_none : (b : Bool) (n : ℕ) → b gives (suc n) ≡ 0 → b ≡ false
unfolding ◌gives◌
gives_none true n e = let z : ⊥ = omega arith in absurd z
gives_none false n e = refl

pub then_first : (a b : ℕ) → (a ≡ 0 → ⊥) → a then b ≡ a
unfolding ◌then◌
then_first zero b h = absurd (h refl)
then_first (suc a) b h = refl

pub then_next : (a b : ℕ) → a ≡ 0 → a then b ≡ b
unfolding ◌then◌
then_next zero b e = refl
then_next (suc a) b e = let z : ⊥ = omega arith in absurd z

pub then_none : (a b : ℕ) → a then b ≡ 0 → (a ≡ 0) × (b ≡ 0)
unfolding ◌then◌
then_none zero b e = (refl, e)
then_none (suc a) b e = let z : ⊥ = omega arith in absurd z
