-- Lists made of lists, and tests over lists.
use Rattle.std.specs.Prelude.{ℕ, zero, suc, Bool, false, ◌||◌, cond, List, [], ◌∷◌, ◌++◌, ltb, length}
use Rattle.laws.specs.First.{first_at}

-- f 0, .., f (n - 1), one after the other
unfoldable pub joined : (ℕ → List ℕ) → ℕ → List ℕ
joined f zero = []
joined f (suc n) = joined f n ++ f n

-- which of f 0, .., f (n - 1) has element k of them all, put together; n where there are no more than k
abbrev pub list_with : (ℕ → List ℕ) → ℕ → ℕ → ℕ
list_with f n k = first_at (λ i. ltb k (length (joined f (suc i)))) n

-- the numbers below n that pass a test, in order
abbrev pub passing : (ℕ → Bool) → ℕ → List ℕ
passing p n = joined (λ i. cond (p i) (i ∷ []) []) n

-- whether a test passes at an element
unfoldable pub any_of : {A : Type 0} → (A → Bool) → List A → Bool
any_of p [] = false
any_of p (x ∷ xs) = p x || any_of p xs
