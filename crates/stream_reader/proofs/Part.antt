-- A part of a slice that runs to its end.
use Rattle.std.specs.Prelude.{◌≡◌, ℕ, ◌-◌, List, length, take, drop}
use Rattle.std.proofs.Common.{arith, length-drop}
use Rattle.std.proofs.lemmas.List.{take_all}

-- as a slice has it
abbrev pub lent : List ℕ → ℕ → List ℕ
lent s at = take (length s - at) (drop at s)

pub part : (s : List ℕ) (at : ℕ) → lent s at ≡ drop at s
part s at = take_all (length s - at) (drop at s) (omega (arith, length-drop at s))
