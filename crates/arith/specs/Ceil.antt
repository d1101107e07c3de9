-- Document 01, "Levels": "distance divided by step, rounded up" (000, Theorem 1).
use Rattle.std.specs.Prelude.{ℕ, ◌+◌, ◌-◌, ◌/◌}

-- d divided by s, rounded up; 0 where s is 0
unfoldable pub ceil_div : ℕ → ℕ → ℕ
ceil_div d s = (d + (s - 1)) / s
