-- The first index with a property: one search that counts up, which every loop that looks for something is about.
use Rattle.std.specs.Prelude.{ℕ, zero, suc, Bool, not, cond, ltb, eqb}

-- from a search below n that ended at k: k where it found one, else whether n is one
abbrev pub or_here : (ℕ → Bool) → ℕ → ℕ → ℕ
or_here p n k = cond (ltb k n) k (cond (p n) n (suc n))

-- the first k below n at which p holds, and n where there is none
unfoldable pub first_at : (ℕ → Bool) → ℕ → ℕ
first_at p zero = zero
first_at p (suc n) = or_here p n (first_at p n)

-- whether p holds anywhere below n
unfoldable pub any_below : (ℕ → Bool) → ℕ → Bool
any_below p n = ltb (first_at p n) n

abbrev pub is_refusal : (ℕ → ℕ) → ℕ → Bool
is_refusal f i = not (eqb (f i) 0)

-- checks one by one: the first of f 0 .. f (n - 1) that is not 0, and 0 where there is none
unfoldable pub first_refusal : (ℕ → ℕ) → ℕ → ℕ
first_refusal f n = cond (any_below (is_refusal f) n) (f (first_at (is_refusal f) n)) 0
