-- Each of the two codings of a number undoes the other, at both ends of the range too.
use Rattle.std.specs.Prelude.{ℕ, ◌+◌, ◌/◌, ◌%◌, ◌<◌, ◌≤◌, ◌≡◌, refl, List, [], ◌∷◌, ◌++◌, ℤ, pos, negsuc, get_or, length, take, drop}
use Rattle.std.proofs.Common.{arith, sym, ap, ◌∙◌, to_z, of_z, Fits, SFits}
use Rattle.std.proofs.lemmas.Grind.{common_steps}
use Rattle.std.specs.Int.{w32, from_le_bytes, to_le_bytes}
use Rattle.std.specs.Int.Signed.{mag}
use mir.ValLaws.{to_z-of_z, of_z-to_z, to_z-Fits}
use Rattle.word.specs.Word.{word, word_at, int_at, word_bytes, int_bytes}

-- ---- the library's words for them

pub word_is : (a b c d : ℕ) → word a b c d ≡ from_le_bytes w32 (a ∷ b ∷ c ∷ d ∷ [])
word_is a b c d = grind arith

pub word_bytes_is : (n : ℕ) → n < 4294967296 → word_bytes n ≡ to_le_bytes w32 n
unfolding word_bytes
word_bytes_is n h = grind arith

-- ---- there and back

-- the number that the bytes of n have
abbrev again : ℕ → ℕ
again n = word (n % 256) (n / 256 % 256) (n / 256 / 256 % 256) (n / 256 / 256 / 256)

pub again_word : (n : ℕ) → again n ≡ n
again_word n = omega arith

pub again_int : (z : ℤ) → SFits w32 z → to_z w32 (again (of_z w32 z)) ≡ z
again_int z f = ap (to_z w32) (again_word (of_z w32 z)) ∙ to_z-of_z w32 z f

-- a list begins with the bytes of a number: the number is read there
pub word_of_bytes : (n : ℕ) (rest : List ℕ) → word_at (word_bytes n ++ rest) 0 ≡ n
unfolding word_at word_bytes
word_of_bytes n rest = again_word n

pub int_of_bytes : (z : ℤ) (rest : List ℕ) → SFits w32 z → int_at (int_bytes z ++ rest) 0 ≡ z
unfolding int_at int_bytes
int_of_bytes z rest f = ap (to_z w32) (word_of_bytes (of_z w32 z) rest) ∙ to_z-of_z w32 z f

-- nothing stands past the end
pub word_out : (s : List ℕ) (at : ℕ) → length s ≤ at → word_at s at ≡ 0
unfolding word_at
word_out s at h = grind (arith, common_steps)

-- ---- a list of bytes

abbrev pub Bytes : List ℕ → Type 0
Bytes s = (i : ℕ) → get_or s i 0 < 256

-- four bytes: their number has those bytes
bytes_of_four : (a b c d : ℕ) → a < 256 → b < 256 → c < 256 → d < 256 → word_bytes (word a b c d) ≡ a ∷ b ∷ c ∷ d ∷ []
unfolding word_bytes
bytes_of_four a b c d ha hb hc hd = grind arith

pub four_at : (s : List ℕ) (at : ℕ) → at + 4 ≤ length s
    → take 4 (drop at s) ≡ get_or s at 0 ∷ get_or s (at + 1) 0 ∷ get_or s (at + 2) 0 ∷ get_or s (at + 3) 0 ∷ []
four_at s at h = grind (arith, common_steps)

pub word_fits : (s : List ℕ) (at : ℕ) → Bytes s → Fits w32 (word_at s at)
unfolding word_at
word_fits s at b = record { fits = omega (arith, b at, b (at + 1), b (at + 2), b (at + 3)) }

-- the number that is read at a place has the bytes that stand there
pub word_bytes_at : (s : List ℕ) (at : ℕ) → at + 4 ≤ length s → Bytes s → word_bytes (word_at s at) ≡ take 4 (drop at s)
unfolding word_at
word_bytes_at s at h b =
    bytes_of_four (get_or s at 0) (get_or s (at + 1) 0) (get_or s (at + 2) 0) (get_or s (at + 3) 0) (b at) (b (at + 1))
    (b (at + 2)) (b (at + 3))
    ∙ sym (four_at s at h)

pub int_bytes_at : (s : List ℕ) (at : ℕ) → at + 4 ≤ length s → Bytes s → int_bytes (int_at s at) ≡ take 4 (drop at s)
unfolding int_at int_bytes
int_bytes_at s at h b = ap word_bytes (of_z-to_z w32 (word_at s at) (word_fits s at b)) ∙ word_bytes_at s at h b

pub int_fits : (s : List ℕ) (at : ℕ) → Bytes s → SFits w32 (int_at s at)
unfolding int_at
int_fits s at b = to_z-Fits w32 (word_at s at) (word_fits s at b)

-- ---- both ends of the range

pub least_bytes : int_bytes (negsuc 2147483647) ≡ 0 ∷ 0 ∷ 0 ∷ 128 ∷ []
unfolding int_bytes word_bytes
least_bytes = refl

pub greatest_bytes : int_bytes (pos 2147483647) ≡ 255 ∷ 255 ∷ 255 ∷ 127 ∷ []
unfolding int_bytes word_bytes
greatest_bytes = refl

pub minus_one_bytes : int_bytes (negsuc 0) ≡ 255 ∷ 255 ∷ 255 ∷ 255 ∷ []
unfolding int_bytes word_bytes
minus_one_bytes = refl

-- a signed number that is held as its bits
pub int_held : (z : ℤ) → mag z < 2147483648 → int_bytes (to_z w32 (of_z w32 z)) ≡ int_bytes z
int_held z f = ap int_bytes (to_z-of_z w32 z (record { sfits = f }))
