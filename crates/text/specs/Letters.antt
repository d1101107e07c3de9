-- A text is a list of bytes: the codes of its letters.
use Rattle.std.specs.Prelude.{ℕ, List}
use Prim.Native.Char.{code}
use Prim.Native.String.{String, [], ◌∷◌}
use mathlib.Core.List as list

abbrev pub letters : String → List ℕ
letters [] = list.[]
letters (c ∷ text) = list.◌∷◌ (code c) (letters text)
