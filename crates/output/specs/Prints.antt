-- What each function that puts a text does: no text goes past place 2 ^ 32, so that no place can wrap.
use Rattle.std.specs.Prelude.{ℕ, ◌-◌, List, take}
use Rattle.limits.specs.Limits.{u32_end}
use Rattle.output.specs.Puts.{Puts}

-- the place that no text goes past
abbrev pub output_end : ℕ
output_end = u32_end

-- what of a text at a place stands before that end
unfoldable pub within : ℕ → List ℕ → List ℕ
within at x = take (output_end - at) x

-- that much is stored, as far as there is room, and the place after it comes back
pub record Prints (out last : List ℕ) (at next : ℕ) (x : List ℕ) : Type 0 where
  pub puts : Puts out last at next (within at x)
