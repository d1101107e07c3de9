-- Document 01, "When a number comes back": which numbers checks can give.
use Rattle.std.specs.Prelude.{◌≡◌, ℕ, true, List, [], ◌∷◌, eqb}
use Rattle.laws.specs.Lists.{any_of}

-- a number is one of these
abbrev pub Among : List ℕ → ℕ → Type 0
Among ns k = any_of (eqb k) ns ≡ true

-- a list's own checks: "1; 7 for the named count; wish by wish 5, 6, 7; named values 3, 6"
abbrev pub list_refusals : List ℕ
list_refusals = 1 ∷ 3 ∷ 5 ∷ 6 ∷ 7 ∷ []

-- with a log and what is lent beside it: "log, marks, w and work list 10; 8"
abbrev pub checked_refusals : List ℕ
checked_refusals = 1 ∷ 3 ∷ 5 ∷ 6 ∷ 7 ∷ 8 ∷ 10 ∷ []
