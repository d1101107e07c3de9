-- Every byte of a text is a character: none is below the space, and none above the tilde.
use Rattle.std.specs.Prelude.{◌≡◌, ℕ, zero, suc, ◌+◌, ◌/◌, ◌%◌, ◌<◌, ◌≤◌, Bool, true, false, ◌&&◌, cond, List, [], ◌∷◌, ◌++◌, ltb, leb, ℤ, pos, negsuc, nat_abs, length, get_or, drop, replicate}
use Rattle.std.proofs.Math.Path.{refl}
use Rattle.std.proofs.Common.{arith, not-suc-le-zero, le_of_suc-le-suc, le-leb, leb-true, lt-ltb, ltb-true}
use Rattle.laws.specs.Laws.Bools.{both}
use Rattle.laws.specs.Lists.{joined}
use Rattle.text.specs.Text.{figure, decimal_by, decimal, sign, signed, decimals, hundredths}

abbrev pub is_character : ℕ → Bool
is_character b = leb 32 b && ltb b 127

unfoldable pub is_text : List ℕ → Bool
is_text [] = true
is_text (b ∷ x) = is_character b && is_text x

pub text_at : (x : List ℕ) (i : ℕ) → is_text x ≡ true → i < length x → is_character (get_or x i 0) ≡ true
unfolding is_text
text_at [] i h l = absurd (not-suc-le-zero l)
text_at (b ∷ x) zero h l = (both (is_character b) (is_text x) h).0
text_at (b ∷ x) (suc i) h l = text_at x i (both (is_character b) (is_text x) h).1 (le_of_suc-le-suc l)

pub character_in : (b : ℕ) → is_character b ≡ true → (32 ≤ b) × (b < 127)
character_in b h = let p = both (leb 32 b) (ltb b 127) h in (leb-true 32 b p.0, ltb-true b 127 p.1)

-- ---- texts put together

pub text_then : (x y : List ℕ) → is_text x ≡ true → is_text y ≡ true → is_text (x ++ y) ≡ true
unfolding is_text
text_then [] y h i = i
text_then (b ∷ x) y h i = let p = both (is_character b) (is_text x) h in rw (p.0, text_then x y p.1 i)

pub text_drop : (n : ℕ) (x : List ℕ) → is_text x ≡ true → is_text (drop n x) ≡ true
unfolding is_text
text_drop zero x h = h
text_drop (suc n) [] h = h
text_drop (suc n) (b ∷ x) h = text_drop n x (both (is_character b) (is_text x) h).1

pub text_spaces : (n : ℕ) → is_text (replicate n 32) ≡ true
unfolding is_text
text_spaces zero = refl
text_spaces (suc n) = text_spaces n

pub text_joined : (f : ℕ → List ℕ) (n : ℕ) → ((i : ℕ) → is_text (f i) ≡ true) → is_text (joined f n) ≡ true
unfolding joined
text_joined f zero h = unfold is_text in refl
text_joined f (suc n) h = text_then (joined f n) (f n) (text_joined f n h) (h n)

-- ---- numbers

figure_character : (d : ℕ) → d < 10 → is_character (figure d) ≡ true
figure_character d h = rw (le-leb 32 (48 + d) (omega arith), lt-ltb (48 + d) 127 (omega arith))

text_figure : (d : ℕ) → d < 10 → is_text (figure d ∷ []) ≡ true
unfolding is_text
text_figure d h = rw (figure_character d h)

text_by : (k n : ℕ) → is_text (decimal_by k n) ≡ true
unfolding decimal_by
text_by zero n = text_figure (n % 10) (omega arith)
text_by (suc k) n = by_size (ltb n 10) refl (decimal_by k (n / 10)) (text_by k (n / 10))
  where
    by_size : (t : Bool) → ltb n 10 ≡ t → (x : List ℕ) → is_text x ≡ true
        → is_text (cond t (figure n ∷ []) (x ++ figure (n % 10) ∷ [])) ≡ true
    by_size true e x h = text_figure n (ltb-true n 10 e)
    by_size false e x h = text_then x (figure (n % 10) ∷ []) h (text_figure (n % 10) (omega arith))

pub text_decimal : (n : ℕ) → is_text (decimal n) ≡ true
unfolding decimal
text_decimal n = text_by n n

text_sign : (z : ℤ) → is_text (sign z) ≡ true
unfolding sign is_text
text_sign (pos n) = refl
text_sign (negsuc n) = refl

pub text_signed : (z : ℤ) → is_text (signed z) ≡ true
unfolding signed
text_signed z = text_then (sign z) (decimal (nat_abs z)) (text_sign z) (text_decimal (nat_abs z))

text_decimals : (n : ℕ) → is_text (decimals n) ≡ true
unfolding is_text
text_decimals n =
    rw (figure_character (n / 10 % 10) (omega arith), figure_character (n % 10) (omega arith))

pub text_hundredths : (z : ℤ) → is_text (hundredths z) ≡ true
unfolding hundredths
text_hundredths z =
    text_then (sign z ++ decimal (nat_abs z / 100)) (decimals (nat_abs z))
    (text_then (sign z) (decimal (nat_abs z / 100)) (text_sign z) (text_decimal (nat_abs z / 100)))
    (text_decimals (nat_abs z))
