-- Stores of signed numbers, which are held as their bits.
use Rattle.std.specs.Prelude.{◌≡◌, refl, ℕ, ◌+◌, ◌<◌, List, [], ◌∷◌, ◌++◌, length, get_or, take, ℤ, pos}
use Rattle.std.proofs.Common.{sym, ap, ◌∙◌, add-one, append_assoc, append-nil, take-suc, to_z, of_z}
use Rattle.std.specs.Int.Signed.{mag}
use Rattle.std.proofs.lemmas.List.Edits.{sets}
use Rattle.std.specs.Int.{w32}
use Rattle.arith.specs.Laws.Local.{num}
use Rattle.word.specs.Word.{word_bytes, int_bytes}
use Rattle.stream_format.specs.Write.{between_bytes, ints_bytes}
use Rattle.output.specs.Puts.{Puts}

-- a signed number is held as its bits
pub puts_int : (v : ℤ) {out last : List ℕ} {at next : ℕ} → mag v < 2147483648 → next ≡ at + 4
    → last ≡ sets out at (int_bytes (to_z w32 (of_z w32 v))) → Puts out last at next (int_bytes v)
unfolding int_bytes word_bytes
puts_int v {out} {last} {at} f n e =
    record { next_is = n; last_is = e ∙ ap (λ (z : ℤ). sets out at (int_bytes z)) (num v f) }

pub puts_range : (lo hi : ℤ) (step : ℕ) {out last : List ℕ} {at next : ℕ} → mag lo < 2147483648 → mag hi < 2147483648
    → Puts out last at next
    (int_bytes (to_z w32 (of_z w32 lo)) ++ int_bytes (to_z w32 (of_z w32 hi)) ++ word_bytes step)
    → Puts out last at next (int_bytes lo ++ int_bytes hi ++ word_bytes step)
puts_range lo hi step f g p = rw (num lo f, num hi g) at p

-- a signed number as it is held
abbrev held : ℤ → ℤ
held v = to_z w32 (of_z w32 v)

pub puts_between : (lo hi : ℤ) (step : ℕ) (low up : ℤ) {out last : List ℕ} {at next : ℕ} → mag lo < 2147483648
    → mag hi < 2147483648 → mag low < 2147483648 → mag up < 2147483648
    → Puts out last at next (between_bytes (held lo) (held hi) step (held low) (held up))
    → Puts out last at next (between_bytes lo hi step low up)
puts_between lo hi step low up f g h k p = rw (num lo f, num hi g, num low h, num up k) at p

-- one number more
ints_append : (a b : List ℤ) → ints_bytes (a ++ b) ≡ ints_bytes a ++ ints_bytes b
unfolding ints_bytes
ints_append [] b = refl
ints_append (v ∷ a) b = rw (ints_append a b) (sym (append_assoc (int_bytes v) (ints_bytes a) (ints_bytes b)))

pub ints_turn : (vs : List ℤ) (j : ℕ) → j < length vs
    → ints_bytes (take j vs) ++ int_bytes (get_or vs j (pos 0)) ≡ ints_bytes (take (j + 1) vs)
unfolding ints_bytes
ints_turn vs j h =
    let v = get_or vs j (pos 0) in
    sym (rw (add-one j, take-suc vs j (pos 0) h, ints_append (take j vs) (v ∷ [])) (rw (append-nil (int_bytes v)) refl))
