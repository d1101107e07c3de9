-- Document 01, "Runs and records": "Numbers of four bytes are least byte first"; the signed ones in two's complement.
use Rattle.std.specs.Prelude.{ℕ, ◌+◌, ◌*◌, ◌/◌, ◌%◌, List, [], ◌∷◌, get_or, ℤ}
use Rattle.std.specs.Int.{w32}
use Rattle.std.proofs.Common.{to_z, of_z}

-- how many numbers a byte holds
abbrev pub byte : ℕ
byte = 256

-- the number of four bytes
abbrev pub word : ℕ → ℕ → ℕ → ℕ → ℕ
word a b c d = a + byte * (b + byte * (c + byte * d))

-- the unsigned number at a place of a list of bytes; bytes past the end read as 0
unfoldable pub word_at : List ℕ → ℕ → ℕ
word_at s at = word (get_or s at 0) (get_or s (at + 1) 0) (get_or s (at + 2) 0) (get_or s (at + 3) 0)

-- the signed number there
unfoldable pub int_at : List ℕ → ℕ → ℤ
int_at s at = to_z w32 (word_at s at)

-- the four bytes of an unsigned number
unfoldable pub word_bytes : ℕ → List ℕ
word_bytes n = n % byte ∷ n / byte % byte ∷ n / byte / byte % byte ∷ n / byte / byte / byte ∷ []

-- the four bytes of a signed number
unfoldable pub int_bytes : ℤ → List ℕ
int_bytes z = word_bytes (of_z w32 z)
