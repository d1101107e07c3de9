-- The values of a run, stored one by one.
use Rattle.std.specs.Prelude.{◌≡◌, refl, ℕ, zero, suc, ◌+◌, ◌-◌, ◌*◌, ◌/◌, ◌<◌, List, [], ◌∷◌, ℤ, set, get_or, length, take, drop}
use Rattle.std.proofs.Common.{ap, ◌∙◌, arith, drop-drop, length-drop, get_or-take, get_or-drop, length-take-le, to_z, of_z}
use Rattle.std.specs.Int.{w32}
use Rattle.std.specs.Int.Signed.{mag}
use mir.ValLaws.{to_z-of_z}
use Rattle.std.specs.Simd.{first_chunks}
use Rattle.std.proofs.lemmas.List.Edits.{sets}
use Rattle.word.specs.Word.{word_at, int_at}
use Rattle.word.specs.Laws.Word.{four_at}
use Rattle.stream_format.specs.Read.{ints_at}

pub next : (log : List ℤ) (to i : ℕ) (t : List ℕ) → i < 8
    → sets (set log (to + i) (int_at t (1 + 4 * i))) (to + (i + 1)) (ints_at (8 - (i + 1)) t (1 + 4 * (i + 1)))
    ≡ sets log (to + i) (ints_at (8 - i) t (1 + 4 * i))
unfolding ints_at
next log to i t h =
    let e : 8 - i ≡ suc (8 - (i + 1)) = omega arith in
    let p : to + (i + 1) ≡ suc (to + i) = omega arith in
    let q : 1 + 4 * (i + 1) ≡ 1 + 4 * i + 4 = omega arith in
    rw (e, p, q)

pub done : (log : List ℤ) (to i : ℕ) (t : List ℕ) → i ≡ 8 → sets log (to + i) (ints_at (8 - i) t (1 + 4 * i)) ≡ log
unfolding ints_at
done log to i t e = rw e

pub ruleset one_by_one = (next, done)

-- ---- the bytes of a value

-- a slice in chunks of four has them one after the other
chunk : (k i : ℕ) (xs : List ℕ) → i < k → get_or (first_chunks 4 k xs) i [] ≡ take 4 (drop (4 * i) xs)
chunk zero i xs h = absurd (omega arith)
chunk (suc k) zero xs h = refl
chunk (suc k) (suc i) xs h =
    let e : 4 + 4 * i ≡ 4 * suc i = omega arith in
    chunk k i (drop 4 xs) (omega arith) ∙ ap (take 4) (drop-drop (4 * i) 4 xs ∙ ap (λ (n : ℕ). drop n xs) e)

abbrev figures : List ℕ → List ℕ
figures t = take 32 (drop 1 t)

long : (t : List ℕ) → 32 < length t → length (figures t) ≡ 32
long t h = length-take-le 32 (drop 1 t) (omega (arith, length-drop 1 t))

in_place : (t : List ℕ) (j k : ℕ) → j < 32 → k ≡ 1 + j → get_or (figures t) j 0 ≡ get_or t k 0
in_place t j k h e = rw e (get_or-take 32 (drop 1 t) j 0 h ∙ get_or-drop 1 t j 0)

pub figure : (t : List ℕ) (i : ℕ) → 32 < length t → i < 8
    → get_or (first_chunks 4 (length (figures t) / 4) (figures t)) i []
    ≡ get_or t (1 + 4 * i) 0 ∷ get_or t (1 + 4 * i + 1) 0 ∷ get_or t (1 + 4 * i + 2) 0 ∷ get_or t (1 + 4 * i + 3) 0 ∷ []
figure t i h l =
    let c : get_or (first_chunks 4 (length (figures t) / 4) (figures t)) i [] ≡ take 4 (drop (4 * i) (figures t)) = rw (long t h) (chunk 8 i (figures t) l) in
    let f = four_at (figures t) (4 * i) (omega (arith, long t h)) in
    let at = 4 * i in
    let p = in_place t in
    let a = p at (1 + at) (omega arith) refl in
    let b = p (at + 1) (1 + at + 1) (omega arith) (omega arith) in
    let d = p (at + 2) (1 + at + 2) (omega arith) (omega arith) in
    let e = p (at + 3) (1 + at + 3) (omega arith) (omega arith) in
    c ∙ f ∙ rw (a, b, d, e) refl

-- and the number that they are is the value
pub value : (z : ℤ) (four t : List ℕ) (at : ℕ)
    → z ≡ to_z w32 (get_or four 0 0 + get_or four 1 0 * 256 + get_or four 2 0 * 65536 + get_or four 3 0 * 16777216)
    → four ≡ get_or t at 0 ∷ get_or t (at + 1) 0 ∷ get_or t (at + 2) 0 ∷ get_or t (at + 3) 0 ∷ []
    → mag z < 2147483648
    → to_z w32 (of_z w32 z) ≡ int_at t at
unfolding int_at word_at
value z four t at e f m =
    to_z-of_z w32 z (record { sfits = m }) ∙ e ∙ rw f (ap (to_z w32) (omega arith))
