-- Document 01: "Numbers are written in base ten".
use Rattle.std.specs.Prelude.{ℕ, zero, suc, ◌+◌, ◌/◌, ◌%◌, cond, List, [], ◌∷◌, ◌++◌, ltb, ℤ, pos, negsuc, nat_abs}
use Prim.Native.Char.{code}
use Rattle.text.specs.Letters.{letters}

-- the letter of the figure d
abbrev pub figure : ℕ → ℕ
figure d = code "0" + d

-- the figures of n, taken in so many rounds and one
unfoldable pub decimal_by : ℕ → ℕ → List ℕ
decimal_by zero n = figure (n % 10) ∷ []
decimal_by (suc k) n = cond (ltb n 10) (figure n ∷ []) (decimal_by k (n / 10) ++ figure (n % 10) ∷ [])

-- n rounds are enough
unfoldable pub decimal : ℕ → List ℕ
decimal n = decimal_by n n

unfoldable pub sign : ℤ → List ℕ
sign (pos n) = []
sign (negsuc n) = letters "-"

unfoldable pub signed : ℤ → List ℕ
signed z = sign z ++ decimal (nat_abs z)

-- the point, and the two figures behind it, of so many hundredths
abbrev pub decimals : ℕ → List ℕ
decimals n = code "." ∷ figure (n / 10 % 10) ∷ figure (n % 10) ∷ []

-- a number of hundredths; document 02, order 1: "with two decimals (−5 is `-0.05`)"
unfoldable pub hundredths : ℤ → List ℕ
hundredths z = sign z ++ decimal (nat_abs z / 100) ++ decimals (nat_abs z)
