-- Writes one after the other.
use Rattle.std.specs.Prelude.{◌≡◌, refl, ℕ, ◌+◌, ◌<◌, List, [], ◌∷◌, ◌++◌, length, get_or, take}
use Rattle.std.proofs.Common.{add-one}
use Rattle.std.proofs.lemmas.List.{take_more}
use Rattle.laws.specs.Lists.{joined}
use Rattle.output.specs.Writes.{Contents, with_byte, with_bytes}

pub with_none : (c : Contents) → with_bytes c [] ≡ c
unfolding with_bytes
with_none c = refl

pub with_more : (c : Contents) (b : ℕ) (x : List ℕ) → with_bytes c (b ∷ x) ≡ with_bytes (with_byte c b) x
unfolding with_bytes
with_more c b x = refl

pub with_then : (c : Contents) (x y : List ℕ) → with_bytes c (x ++ y) ≡ with_bytes (with_bytes c x) y
unfolding with_bytes
with_then c [] y = refl
with_then c (b ∷ x) y = with_then (with_byte c b) x y

-- one turn of a loop over bytes
pub with_next : (c : Contents) (x : List ℕ) (i : ℕ) → i < length x
    → with_bytes c (take (i + 1) x) ≡ with_byte (with_bytes c (take i x)) (get_or x i 0)
unfolding with_bytes
with_next c x i h = rw (take_more x i 0 h) (with_then c (take i x) (get_or x i 0 ∷ []))

-- one turn of a loop over pieces
pub with_turn : (c : Contents) (f : ℕ → List ℕ) (k : ℕ)
    → with_bytes c (joined f (k + 1)) ≡ with_bytes (with_bytes c (joined f k)) (f k)
unfolding joined
with_turn c f k = rw add-one (with_then c (joined f k) (f k))

pub with_start : (c : Contents) (f : ℕ → List ℕ) → with_bytes c (joined f 0) ≡ c
unfolding joined
with_start c f = with_none c

-- for texts, numbers and pieces of them put out one after the other
pub ruleset writing = (with_none, with_then, with_next, with_turn, with_start)

-- for single bytes put out before others
pub ruleset byte_by_byte = (with_more, with_none)
