-- Checks in order, as document 01's "When a number comes back" lists them: the first check that gives a number decides.
-- A check's number is 0 where it has nothing to say.
use Rattle.std.specs.Prelude.{ℕ, zero, suc, Bool, cond}

-- the number n where the test holds, else 0
infix 25 ◌gives◌
unfoldable pub ◌gives◌ : Bool → ℕ → ℕ
b gives n = cond b n 0

-- the first check's number, or the second's where the first gives none
infixr 20 ◌then◌
unfoldable pub ◌then◌ : ℕ → ℕ → ℕ
zero then b = b
(suc a) then b = suc a
