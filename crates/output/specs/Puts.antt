-- What each storing function does.
use Rattle.std.specs.Prelude.{◌≡◌, ℕ, ◌+◌, List, length}
use Rattle.std.proofs.lemmas.List.Edits.{sets}

-- it stores the bytes x at a place, as far as there is room, and gives the place after them
pub record Puts (out last : List ℕ) (at next : ℕ) (x : List ℕ) : Type 0 where
  pub next_is : next ≡ at + length x
  pub last_is : last ≡ sets out at x
