-- The text of a number: one figure more for each ten, and how long it is at most.
use Rattle.std.specs.Prelude.{◌≡◌, refl, ℕ, zero, suc, ◌/◌, ◌%◌, ◌^◌, ◌<◌, ◌≤◌, Bool, true, false, cond, List, [], ◌∷◌, ◌++◌, ltb, ℤ, pos, negsuc, nat_abs, length}
use Rattle.std.proofs.Common.{sym, ap, ◌∙◌, arith, pow-suc, length-append, lt-ltb, le-ltb, ltb-true, ltb-false}
use Rattle.std.specs.Int.Signed.{mag}
use Rattle.text.specs.Text.{figure, decimal_by, decimal, sign, signed, hundredths}

-- the next round's result matters only from ten on
round_same : (x y : List ℕ) (n : ℕ) → (10 ≤ n → x ≡ y) → (t : Bool) → ltb n 10 ≡ t
    → cond t (figure n ∷ []) (x ++ figure (n % 10) ∷ []) ≡ cond t (figure n ∷ []) (y ++ figure (n % 10) ∷ [])
round_same x y n h true e = refl
round_same x y n h false e = ap (λ (z : List ℕ). z ++ figure (n % 10) ∷ []) (h (ltb-false n 10 e))

-- rounds past the number change nothing
enough : (k j n : ℕ) → n ≤ k → n ≤ j → decimal_by k n ≡ decimal_by j n
unfolding decimal_by
enough zero zero n h i = refl
enough zero (suc j) n h i = let e : n ≡ 0 = omega arith in rw e
enough (suc k) zero n h i = let e : n ≡ 0 = omega arith in rw e
enough (suc k) (suc j) n h i =
    round_same (decimal_by k (n / 10)) (decimal_by j (n / 10)) n (λ b. enough k j (n / 10) (omega arith) (omega arith))
    (ltb n 10) refl

pub decimal_one : (n : ℕ) → n < 10 → decimal n ≡ figure n ∷ []
unfolding decimal decimal_by
decimal_one zero h = refl
decimal_one (suc n) h = rw (lt-ltb (suc n) 10 h)

pub decimal_more : (n : ℕ) → 10 ≤ n → decimal n ≡ decimal (n / 10) ++ figure (n % 10) ∷ []
unfolding decimal decimal_by
decimal_more zero h = let z : ⊥ = omega arith in absurd z
decimal_more (suc n) h =
    rw (le-ltb (suc n) 10 h)
    (ap (λ (x : List ℕ). x ++ figure (suc n % 10) ∷ [])
    (enough n (suc n / 10) (suc n / 10) (omega arith) (omega arith)))

pub ruleset figures = (decimal_one, decimal_more)

-- k rounds and one are enough for a number below 10 ^ (k + 1)
pub rounds_enough : (k n : ℕ) → n < 10 ^ suc k → decimal_by k n ≡ decimal n
unfolding decimal_by
rounds_enough zero n h = let e : n % 10 ≡ n = omega arith in rw e (sym (decimal_one n h))
rounds_enough (suc k) n h =
    round_same (decimal_by k (n / 10)) (decimal (n / 10)) n
    (λ b. rounds_enough k (n / 10) (let p = pow-suc 10 (suc k) in omega arith)) (ltb n 10) refl
    ∙ last (ltb n 10) refl
  where
    last : (t : Bool) → ltb n 10 ≡ t → cond t (figure n ∷ []) (decimal (n / 10) ++ figure (n % 10) ∷ []) ≡ decimal n
    last true e = sym (decimal_one n (ltb-true n 10 e))
    last false e = sym (decimal_more n (ltb-false n 10 e))

-- and at most so many figures come
by_short : (k n : ℕ) → length (decimal_by k n) ≤ suc k
unfolding decimal_by
by_short zero n = omega arith
by_short (suc k) n = go (decimal_by k (n / 10)) (by_short k (n / 10)) (ltb n 10)
  where
    go : (x : List ℕ) → length x ≤ suc k → (t : Bool)
        → length (cond t (figure n ∷ []) (x ++ figure (n % 10) ∷ [])) ≤ suc (suc k)
    go x h true = omega arith
    go x h false = omega (arith, length-append x (figure (n % 10) ∷ []))

pub decimal_short : (k n : ℕ) → n < 10 ^ suc k → length (decimal n) ≤ suc k
decimal_short k n h = rw (sym (rounds_enough k n h)) (by_short k n)

sign_short : (z : ℤ) → length (sign z) ≤ 1
unfolding sign
sign_short (pos n) = omega arith
sign_short (negsuc n) = omega arith

pub signed_short : (k : ℕ) (z : ℤ) → nat_abs z < 10 ^ suc k → length (signed z) ≤ suc (suc k)
unfolding signed
signed_short k z h =
    omega (arith, length-append (sign z) (decimal (nat_abs z)), sign_short z, decimal_short k (nat_abs z) h)

-- every number of 32 bits
pub value_short : (z : ℤ) → mag z < 2147483648 → length (signed z) ≤ 11
value_short (pos n) h = signed_short 9 (pos n) (omega arith)
value_short (negsuc n) h = signed_short 9 (negsuc n) (omega arith)

pub hundredths_short : (z : ℤ) → mag z < 2147483648 → length (hundredths z) ≤ 12
unfolding hundredths sign
hundredths_short (pos n) h = simp length-append (omega (arith, decimal_short 7 (n / 100) (omega arith)))
hundredths_short (negsuc n) h = simp length-append (omega (arith, decimal_short 7 (suc n / 100) (omega arith)))
