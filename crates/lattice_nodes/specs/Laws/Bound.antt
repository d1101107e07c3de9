-- The crossings are at most the edges of the whole lattice, whose number is `bound` (000, Theorem 11).
use Rattle.std.specs.Prelude.{◌≡◌, Bool, true, false, cond, List, [], ◌∷◌, ℕ, zero, suc, ◌+◌, ◌*◌, ◌/◌, ◌%◌, ◌<◌, ◌≤◌, ltb, length}
use Rattle.std.proofs.Math.Path.{refl}
use Rattle.std.proofs.Common.{sym, ap, ◌∙◌, zero-le, add-zero, add-suc, add_assoc, zero-mul, mul-zero, suc-mul, mul-suc, add-mul, mul-add, one-mul, mul_comm, mul_assoc, mul_left_comm, le_refl, add-le-add, le_of_lt, lt-suc_self, arith, length-append, lt-ltb, le-ltb}
use Rattle.std.proofs.Math.Nat.{mul-div_right, le_step}
use Rattle.std.proofs.Math.Arith.{digits_div, digits_mod}
use Rattle.laws.specs.Lists.{joined, any_of}
use Rattle.lattice_nodes.specs.Lattice.{node_count, held, dominated_node, reached, edges_from, edges, crossed_at}
use Rattle.lattice_nodes.specs.Lattice.{crossings, bound_from, bound}
use Rattle.lattice_nodes.specs.Laws.Some.{All}

-- f 0 + .. + f (n - 1)
unfoldable sum_below : ℕ → (ℕ → ℕ) → ℕ
sum_below zero f = 0
sum_below (suc n) f = sum_below n f + f n

length_joined : (f : ℕ → List ℕ) (n : ℕ) → length (joined f n) ≡ sum_below n (λ x. length (f x))
unfolding joined sum_below
length_joined f zero = refl
length_joined f (suc n) = rw (length-append (joined f n) (f n), length_joined f n)

sum_ext : (n : ℕ) (f g : ℕ → ℕ) → ((i : ℕ) → i < n → f i ≡ g i) → sum_below n f ≡ sum_below n g
unfolding sum_below
sum_ext zero f g h = refl
sum_ext (suc n) f g h = rw (sum_ext n f g (λ i l. h i (le_step l)), h n (lt-suc_self n))

sum_le : (n : ℕ) (f g : ℕ → ℕ) → ((i : ℕ) → f i ≤ g i) → sum_below n f ≤ sum_below n g
unfolding sum_below
sum_le zero f g h = le_refl 0
sum_le (suc n) f g h = add-le-add (sum_le n f g h) (h n)

sum_add : (a n : ℕ) (f : ℕ → ℕ) → sum_below (a + n) f ≡ sum_below a f + sum_below n (λ r. f (a + r))
unfolding sum_below
sum_add a zero f = rw (add-zero a) (sym (add-zero (sum_below a f)))
sum_add a (suc n) f =
    rw (add-suc a n, sum_add a n f) (add_assoc (sum_below a f) (sum_below n (λ r. f (a + r))) (f (a + n)))

sum_shift : (n c : ℕ) (g : ℕ → ℕ) → sum_below n (λ r. c + g r) ≡ c * n + sum_below n g
unfolding sum_below
sum_shift zero c g = omega (arith, mul-zero c)
sum_shift (suc n) c g = rw (sum_shift n c g, mul-suc c n) (omega arith)

-- ---- the edges of the whole lattice, block by block

-- how many edges a node has for the last parts, where r is what is left of its number for them
unfoldable pub degree : List ℕ → ℕ → ℕ
degree [] r = 0
degree (m ∷ ms) r = cond (ltb (r / node_count ms) m) 1 0 + degree ms (r % node_count ms)

pub length_edges : (ms : List ℕ) (x r : ℕ) → length (edges_from ms x r) ≡ degree ms r
unfolding edges_from degree
length_edges [] x r = refl
length_edges (m ∷ ms) x r =
    length-append (cond (ltb (r / node_count ms) m) ((x + node_count ms) ∷ []) []) (edges_from ms x (r % node_count ms))
    ∙ rw (length_edges ms x (r % node_count ms))
    (ap (λ (k : ℕ). k + degree ms (r % node_count ms)) (one (ltb (r / node_count ms) m)))
  where
    one : (b : Bool) → length (cond b ((x + node_count ms) ∷ []) []) ≡ cond b 1 0
    one true = refl
    one false = refl

-- the edges from one block of the lattice, at level q of the first part
block : (m q : ℕ) (ms : List ℕ)
    → sum_below (node_count ms) (λ r. degree (m ∷ ms) (q * node_count ms + r))
    ≡ cond (ltb q m) 1 0 * node_count ms + sum_below (node_count ms) (degree ms)
unfolding degree
block m q ms =
    sum_ext (node_count ms) (λ r. degree (m ∷ ms) (q * node_count ms + r)) (λ r. cond (ltb q m) 1 0 + degree ms r)
    (λ r l. rw (digits_div q l, digits_mod q l))
    ∙ sum_shift (node_count ms) (cond (ltb q m) 1 0) (degree ms)

-- the edges from the first q blocks
blocks : (m q : ℕ) (ms : List ℕ) → q ≤ m
    → sum_below (q * node_count ms) (degree (m ∷ ms)) ≡ q * node_count ms + q * sum_below (node_count ms) (degree ms)
blocks m zero ms h =
    rw (zero-mul (node_count ms), zero-mul (sum_below (node_count ms) (degree ms))) (unfold sum_below in refl)
blocks m (suc q) ms h =
    let w = node_count ms in
    rw (
      suc-mul q w,
      sum_add (q * w) w (degree (m ∷ ms)),
      blocks m q ms (le_of_lt h),
      block m q ms,
      lt-ltb q m h,
      one-mul w,
      suc-mul q (sum_below w (degree ms)),
    )
    (omega arith)

-- all blocks: the last has no edge of the first part
whole : (m : ℕ) (ms : List ℕ)
    → sum_below (node_count (m ∷ ms)) (degree (m ∷ ms))
    ≡ node_count ms * m + (m + 1) * sum_below (node_count ms) (degree ms)
unfolding node_count
whole m ms =
    let w = node_count ms in
    let s = sum_below w (degree ms) in
    rw (
      add-mul m 1 w,
      one-mul w,
      sum_add (m * w) w (degree (m ∷ ms)),
      blocks m m ms (le_refl m),
      block m m ms,
      le-ltb m m (le_refl m),
      add-mul m 1 s,
      one-mul s,
      mul_comm w m,
      zero-mul w,
    )
    (omega arith)

-- ---- the bound, part by part

-- each m + 1 divides n
abbrev Divides : ℕ → List ℕ → Type 0
Divides n ms = All (λ m. (k : ℕ) × (n ≡ (m + 1) * k)) ms

divides_scale : (c n : ℕ) (ms : List ℕ) → Divides n ms → Divides (c * n) ms
divides_scale c n [] h = tt
divides_scale c n (m ∷ ms) h =
    ((c * h.0.0, ap (λ (k : ℕ). c * k) h.0.1 ∙ mul_left_comm c (m + 1) h.0.0), divides_scale c n ms h.1)

nodes_divides : (ms : List ℕ) → Divides (node_count ms) ms
unfolding node_count
nodes_divides [] = tt
nodes_divides (m ∷ ms) = ((node_count ms, refl), divides_scale (m + 1) (node_count ms) ms (nodes_divides ms))

bound_scale : (c n : ℕ) (ms : List ℕ) → Divides n ms → bound_from (c * n) ms ≡ c * bound_from n ms
unfolding bound_from
bound_scale c n [] h = sym (mul-zero c)
bound_scale c n (m ∷ ms) h =
    let k = h.0.0 in
    let one-part : n / (m + 1) ≡ k =
    ap (λ (j : ℕ). j / (m + 1)) h.0.1 ∙ mul-div_right k {m = m + 1} (omega arith) in
    let all-part : (c * n) / (m + 1) ≡ c * k =
    ap (λ (j : ℕ). j / (m + 1)) (ap (λ (j : ℕ). c * j) h.0.1 ∙ mul_left_comm c (m + 1) k)
    ∙ mul-div_right (c * k) {m = m + 1} (omega arith) in
    rw (one-part, all-part, bound_scale c n ms h.1, mul-add c (k * m) (bound_from n ms), mul_assoc c k m)

pub bound_cons : (m : ℕ) (ms : List ℕ) → bound (m ∷ ms) ≡ node_count ms * m + (m + 1) * bound ms
unfolding bound bound_from node_count
bound_cons m ms =
    rw (
      mul-div_right (node_count ms) {m = m + 1} (omega arith),
      bound_scale (m + 1) (node_count ms) ms (nodes_divides ms),
    )

degree_sum : (ms : List ℕ) → sum_below (node_count ms) (degree ms) ≡ bound ms
degree_sum [] = unfold node_count sum_below degree bound bound_from in refl
degree_sum (m ∷ ms) =
    whole m ms ∙ ap (λ (s : ℕ). node_count ms * m + (m + 1) * s) (degree_sum ms) ∙ sym (bound_cons m ms)

-- ---- the laws

-- the bound is the number of edges of the whole lattice
pub bound_edges : (tops : List ℕ) → length (joined (edges tops) (node_count tops)) ≡ bound tops
unfolding edges
bound_edges tops =
    length_joined (λ x. edges_from tops x x) (node_count tops)
    ∙ sum_ext (node_count tops) (λ x. length (edges_from tops x x)) (degree tops) (λ x l. length_edges tops x x)
    ∙ degree_sum tops

pub crossings_bound : (tops : List ℕ) (rows : List (List ℕ)) → crossings tops rows ≤ bound tops
unfolding crossings crossed_at
crossings_bound tops rows =
    rw (
      ← bound_edges tops,
      length_joined (crossed_at tops rows) (node_count tops),
      length_joined (edges tops) (node_count tops),
    )
    (sum_le (node_count tops) (λ x. length (crossed_at tops rows x)) (λ x. length (edges tops x))
    (λ x. at_most (reached tops rows x) (edges tops x)))
  where
    at_most : (b : Bool) (l : List ℕ) → length (cond b l []) ≤ length l
    at_most true l = le_refl (length l)
    at_most false l = zero-le

none_crossed : (tops : List ℕ) (n : ℕ) → joined (crossed_at tops []) n ≡ []
unfolding joined crossed_at reached held dominated_node any_of
none_crossed tops zero = refl
none_crossed tops (suc n) = rw (none_crossed tops n)

-- no row, no crossing
pub no_rows : (tops : List ℕ) → crossings tops [] ≡ 0
unfolding crossings
no_rows tops = rw (none_crossed tops (node_count tops))
