-- How far one signed number lies above another: every distance of document 01's "Levels" is a sum of such gaps.
use Rattle.std.specs.Prelude.{ℕ, Bool, false, eqb, ℤ, pos, negsuc, ◌-ℤ◌}

-- the number itself, and 0 of a negative one
abbrev pub clip : ℤ → ℕ
clip (pos n) = n
clip (negsuc n) = 0

-- a - b where that is above zero, else 0
unfoldable pub gap : ℤ → ℤ → ℕ
gap a b = clip (a -ℤ b)

-- whether two numbers are the same
abbrev pub eq_z : ℤ → ℤ → Bool
eq_z (pos a) (pos b) = eqb a b
eq_z (pos a) (negsuc b) = false
eq_z (negsuc a) (pos b) = false
eq_z (negsuc a) (negsuc b) = eqb a b
