-- Different numbers below m are no more than m.
use Rattle.std.specs.Prelude.{◌≡◌, ◌⊎◌, ℕ, zero, suc, ◌-◌, ◌<◌, ◌≤◌, cond, ltb}
use Rattle.std.proofs.Common.{inl, inr, ⊎_elim, arith, lt-ltb, le-ltb}
use Rattle.std.proofs.Math.Decide.{dec_lt}
use Rattle.stream_format.specs.Midway.{Low, Apart}

-- the numbers other than v, moved together
unfoldable without : ℕ → ℕ → ℕ
without v x = cond (ltb v x) (x - 1) x

moved : (v x : ℕ) → (x ≡ v → ⊥) → ((v < x) × (without v x ≡ x - 1)) ⊎ ((x < v) × (without v x ≡ x))
unfolding without
moved v x h = elim (dec_lt v x) [
  | yes l ↦ inl (l, rw (lt-ltb v x l))
  | no g ↦ inr
      (elim (dec_lt x v) [ yes l ↦ l | no k ↦ absurd (h (omega (arith, g, k))) ], rw (le-ltb v x (omega (arith, g))))
]

module _ (f : ℕ → ℕ) (n m v : ℕ) (low : Low f n (suc m)) (other : (i : ℕ) → i < n → f i ≡ v → ⊥)
    (within : v < suc m) where
  moved_low : Low (λ i. without v (f i)) n m
  moved_low i h =
      ⊎_elim (λ p. omega (arith, p.0, p.1, low i h)) (λ p. omega (arith, p.0, p.1, within))
      (moved v (f i) (other i h))

  moved_apart : Apart f n → Apart (λ i. without v (f i)) n
  moved_apart apart i j h k e =
      ⊎_elim
      (λ p. ⊎_elim (λ q. apart i j h k (omega (arith, p.0, p.1, q.0, q.1, e)))
      (λ q. absurd (omega (arith, p.0, p.1, q.0, q.1, e))) (moved v (f j) (other j k)))
      (λ p. ⊎_elim (λ q. absurd (omega (arith, p.0, p.1, q.0, q.1, e)))
      (λ q. apart i j h k (omega (arith, p.1, q.1, e))) (moved v (f j) (other j k)))
      (moved v (f i) (other i (omega arith)))

pub pigeons : (m n : ℕ) (f : ℕ → ℕ) → Low f n m → Apart f n → n ≤ m
pigeons m zero f low apart = omega arith
pigeons zero (suc n) f low apart = absurd (omega (arith, low n (omega arith)))
pigeons (suc m) (suc n) f low apart =
    let low' : Low f n (suc m) = λ i h. low i (omega arith) in
    let other : (i : ℕ) → i < n → f i ≡ f n → ⊥ = λ i h. apart i n h (omega arith) in
    let within = low n (omega arith) in
    omega (
      arith,
      pigeons m n (λ i. without (f n) (f i)) (moved_low f n m (f n) low' other within)
          (moved_apart f n m (f n) low' other within (λ i j h k. apart i j h (omega arith))),
    )

-- one more number below m is not among them: there are fewer than m
pub fewer : (m n v : ℕ) (f : ℕ → ℕ) → Low f n m → Apart f n → v < m → ((i : ℕ) → i < n → f i ≡ v → ⊥) → n < m
fewer zero n v f low apart within other = absurd (omega arith)
fewer (suc m) n v f low apart within other =
    omega (
      arith,
      pigeons m n (λ i. without v (f i)) (moved_low f n m v low other within)
          (moved_apart f n m v low other within apart),
    )
