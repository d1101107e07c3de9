-- How many edges a lattice of so many nodes has at most, whatever the number of its parts: a part with M + 1 levels
-- multiplies the nodes by M + 1 and adds M / (M + 1) edges to each, which is at most half of log2 (M + 1). Powers stay
-- as they are: none is computed.
use Rattle.std.specs.Prelude.{◌≡◌, List, [], ◌∷◌, ℕ, zero, suc, ◌+◌, ◌*◌, ◌^◌, ◌≤◌}
use Rattle.std.proofs.Common.{ap, ap₂, ◌∙◌, mul-zero, mul-suc, mul_comm, mul_assoc, mul_left_comm, pow-suc, le_trans, mul-le-mul, lt_irrefl, pow-add}
use Rattle.std.proofs.Math.Nat.{pow-zero, pow-le-pow_left, pow-le-pow_right}
use Rattle.std.proofs.Math.Decide.{dec_lt}
use native.Mathlib.Omega.{arith}
use Rattle.std.proofs.Math.Pow.{pow-lt}
use Rattle.lattice_nodes.specs.Lattice.{node_count, crossings, bound_from, bound}
use Rattle.lattice_nodes.specs.Laws.Bound.{bound_cons, crossings_bound}

-- ---- powers

pow_mul : (a i j : ℕ) → a ^ (i * j) ≡ (a ^ i) ^ j
pow_mul a i zero = rw (mul-zero i, pow-zero a, pow-zero (a ^ i))
pow_mul a i (suc j) = rw (mul-suc i j, pow-add a (i * j) i, pow-suc (a ^ i) j, pow_mul a i j)

mul_pow : (a b k : ℕ) → (a * b) ^ k ≡ a ^ k * b ^ k
mul_pow a b zero = rw (pow-zero (a * b), pow-zero a, pow-zero b)
mul_pow a b (suc k) =
    rw (
      pow-suc (a * b) k,
      pow-suc a k,
      pow-suc b k,
      mul_pow a b k,
      mul_assoc (a ^ k) (b ^ k) (a * b),
      mul_left_comm (b ^ k) a b,
      mul_assoc (a ^ k) a (b ^ k * b),
    )

-- ---- one part

-- m / (m + 1) is at most half of log2 (m + 1)
part_few : (m : ℕ) → 4 ^ m ≤ (m + 1) ^ (m + 1)
part_few zero = omega arith
part_few (suc zero) = omega arith
part_few (suc (suc zero)) = omega arith
part_few (suc (suc (suc k))) =
    let m = suc (suc (suc k)) in
    le_trans (pow-le-pow_left {n = 4} {m = m + 1} (omega arith) m)
    (pow-le-pow_right {n = m + 1} (omega arith) {i = m} {j = m + 1} (omega arith))

-- ---- all parts

module _ (m n b : ℕ) where
  left_side : 4 ^ (n * m + (m + 1) * b) ≡ (4 ^ m) ^ n * (4 ^ b) ^ (m + 1)
  left_side = rw (pow-add 4 (n * m) ((m + 1) * b), mul_comm n m, mul_comm (m + 1) b, pow_mul 4 m n, pow_mul 4 b (m + 1))

  right_side : ((m + 1) * n) ^ ((m + 1) * n) ≡ ((m + 1) ^ (m + 1)) ^ n * (n ^ n) ^ (m + 1)
  right_side =
      mul_pow (m + 1) n ((m + 1) * n)
      ∙ ap₂ (λ (x y : ℕ). x * y) (pow_mul (m + 1) (m + 1) n)
      (ap (λ (k : ℕ). n ^ k) (mul_comm (m + 1) n) ∙ pow_mul n n (m + 1))

  more_parts : 4 ^ b ≤ n ^ n → 4 ^ (n * m + (m + 1) * b) ≤ ((m + 1) * n) ^ ((m + 1) * n)
  more_parts h = rw (left_side, right_side) (mul-le-mul (pow-le-pow_left (part_few m) n) (pow-le-pow_left h (m + 1)))

edges_few : (tops : List ℕ) → 4 ^ bound tops ≤ node_count tops ^ node_count tops
unfolding node_count
edges_few [] = unfold bound bound_from in omega arith
edges_few (m ∷ ms) = rw (bound_cons m ms) (more_parts m (node_count ms) (bound ms) (edges_few ms))

-- ---- in figures

exponents : (i j : ℕ) → 2 ^ i ≤ 2 ^ j → i ≤ j
exponents i j h = elim (dec_lt j i) [ yes l ↦ absurd (lt_irrefl (2 ^ j) (le_trans (pow-lt l) h)) | no g ↦ omega arith ]

-- at most 2 ^ p nodes: at most p / 2 edges to a node
bound_log : (tops : List ℕ) (p : ℕ) → node_count tops ≤ 2 ^ p → 2 * bound tops ≤ p * node_count tops
bound_log tops p h =
    let n = node_count tops in
    exponents (2 * bound tops) (p * n)
    (rw (pow_mul 2 2 (bound tops), pow_mul 2 p n) (le_trans (edges_few tops) (pow-le-pow_left h n)))

-- at most 32,768 nodes: 245,760 crossings are always enough
pub crossings_small : (tops : List ℕ) (rows : List (List ℕ)) → node_count tops ≤ 32768 → crossings tops rows ≤ 245760
crossings_small tops rows h = omega (arith, crossings_bound tops rows, bound_log tops 15 h)
