-- A block whose first node is reached: all its nodes are, since an edge leads to each of the others from a node of the
-- block before it; its edges part by part.
use Rattle.std.specs.Prelude.{◌≡◌, true, cond, List, [], ◌∷◌, ◌++◌, ltb, length, get_or}
use Rattle.std.proofs.Math.Path.{refl, sym}
use Rattle.std.proofs.Common.{ap, ◌∙◌, append-nil, append_assoc, add-suc, add-zero, mul_assoc, one-mul, suc-mul, zero-mul, mod-eq_of_lt, lt_trans, le_refl, le_of_lt}
use Prim.Native.Nat.{ℕ, zero, suc, ◌+◌, ◌-◌, ◌*◌, ◌%◌, ◌<◌, ◌≤◌}
use Rattle.std.proofs.Math.Nat.{mod-mod_of_dvd, dvd-mul_left}
use Rattle.std.proofs.Math.Decide.{dec_lt}
use native.Mathlib.Omega.{arith}
use Rattle.std.proofs.Math.Arith.{digits_mod}
use borrow.Author.Tests.{lt-ltb, le-ltb, ne_eqb}
use Rattle.laws.specs.Lists.{joined}
use Rattle.laws.specs.Laws.Joined.{joined_cong}
use Rattle.lattice_nodes.specs.Lattice.{node_count}
use Rattle.lattice_nodes.specs.Steps.{weights_of, edges_by, stretch, part_edges, updated, entered_byte, trail}
use Rattle.lattice_nodes.specs.Laws.Ids.{nodes_some}
use Rattle.lattice_nodes.specs.Laws.Some.{among, among_head, among_tail, joined_among}
use Rattle.lattice_nodes.specs.Laws.Steps.{entered_there, nodes_grow}
use Rattle.lattice_nodes.specs.Laws.Alike.{Alike, alike_equal, alike_then, alike_both, alike_swap}
use Rattle.lattice_nodes.specs.Laws.Stretch.{stretch_more}

-- ---- all nodes are reached

-- an edge to each node but the first
edge_in : (ms : List ℕ) (y : ℕ) → 0 < y → y < node_count ms
    → (z : ℕ) × (z < y) × (among y (edges_by (node_count ms) (weights_of ms) z z) ≡ true)
unfolding node_count weights_of edges_by
edge_in [] y h k = let w : ⊥ = omega arith in absurd w
edge_in (m ∷ ms) y h k = go (dec_lt y (node_count ms)) (edge_in ms y h)
  where
    go : Dec (y < node_count ms)
        → (y < node_count ms → (z : ℕ) × (z < y) × (among y (edges_by (node_count ms) (weights_of ms) z z) ≡ true))
        → (z : ℕ) × (z < y) × (among y (edges_by (node_count (m ∷ ms)) (weights_of (m ∷ ms)) z z) ≡ true)
    go (yes l) more =
        let r = more l in
        let same : r.0 % node_count ms ≡ r.0 = mod-eq_of_lt (lt_trans r.1 l) in (
          r.0,
          r.1,
          among_tail y (ltb (r.0 + node_count ms) ((m + 1) * node_count ms)) (r.0 + node_count ms) _ (rw same r.2),
        )
    go (no n) more =
        let w = node_count ms in
        let some = nodes_some ms in
        let e : y - w + w ≡ y = omega (arith, n) in (
          y - w,
          omega (arith, some, h),
          among_head y (ltb (y - w + w) ((m + 1) * w)) (y - w + w) _ (rw e (lt-ltb y ((m + 1) * w) k)) e,
        )

module _ (ms b : List ℕ) (size : length b ≡ node_count ms) (found : get_or b 0 0 ≡ 0 → ⊥) where
  abbrev edges_of : ℕ → List ℕ
  edges_of y = edges_by (node_count ms) (weights_of ms) y y

  there : (x : ℕ) → x < node_count ms → trail (weights_of ms) b x ≡ joined edges_of x
      → get_or (updated entered_byte (trail (weights_of ms) b x) b) x 0 ≡ 0 → ⊥
  there zero h e = unfold trail updated in found
  there (suc x) h e =
      let z = edge_in ms (suc x) (omega arith) h in
      entered_there (trail (weights_of ms) b (suc x)) b (suc x) (rw size h)
      (rw e (joined_among edges_of (suc x) (suc x) z.0 z.1 z.2))

  all_reached : (x : ℕ) → x ≤ node_count ms → trail (weights_of ms) b x ≡ joined edges_of x
  all_reached zero h = unfold trail joined in refl
  all_reached (suc x) h = let e = all_reached x (le_of_lt h) in step e (there x h e)
    where
      step : trail (weights_of ms) b x ≡ joined edges_of x
          → (get_or (updated entered_byte (trail (weights_of ms) b x) b) x 0 ≡ 0 → ⊥)
          → trail (weights_of ms) b (suc x) ≡ joined edges_of (suc x)
      step e t = unfold trail joined in rw (ne_eqb _ _ t, size, e)

-- ---- the edges of all nodes, part by part

pub joined_none : (f : ℕ → List ℕ) (n : ℕ) → ((i : ℕ) → f i ≡ []) → joined f n ≡ []
unfolding joined
joined_none f zero h = refl
joined_none f (suc n) h = rw (joined_none f n h, h n)

joined_both : (f g : ℕ → List ℕ) (n : ℕ) → Alike (joined (λ i. f i ++ g i) n) (joined f n ++ joined g n)
unfolding joined
joined_both f g zero = alike_equal [] [] refl
joined_both f g (suc n) =
    alike_then _ _ _ (alike_both _ _ _ _ (joined_both f g n) (alike_equal (f n ++ g n) (f n ++ g n) refl))
    (alike_swap (joined f n) (joined g n) (f n) (g n))

-- one run of numbers after the other
pub joined_add : (f : ℕ → List ℕ) (a n : ℕ) → joined f (a + n) ≡ joined f a ++ joined (λ i. f (a + i)) n
unfolding joined
joined_add f a zero = rw (add-zero a) (sym (append-nil (joined f a)))
joined_add f a (suc n) =
    rw (add-suc a n, joined_add f a n) (append_assoc (joined f a) (joined (λ i. f (a + i)) n) (f (a + n)))

joined_blocks : (f : ℕ → List ℕ) (s c : ℕ) → joined f (c * s) ≡ joined (λ q. joined (λ r. f (q * s + r)) s) c
joined_blocks f s zero = rw (zero-mul s) (unfold joined in refl)
joined_blocks f s (suc c) = rw (suc-mul c s, joined_add f (c * s) s, joined_blocks f s c) (unfold joined in refl)

-- the edges of one block for its first part
module _ (x w : ℕ) where
  opened : (d k : ℕ) → k ≤ d → joined (λ r. cond (ltb (r + w) (d + w)) ((x + r + w) ∷ []) []) k ≡ stretch (x + w) k
  unfolding joined
  opened d zero h = unfold stretch in refl
  opened d (suc k) h =
      let at : x + k + w ≡ x + w + k = omega arith in
      rw (stretch_more (x + w) k) (rw (opened d k (le_of_lt h), lt-ltb (k + w) (d + w) (omega arith), at))

  shut : (d k : ℕ) → joined (λ r. cond (ltb (d + r + w) (d + w)) ((x + (d + r) + w) ∷ []) []) k ≡ []
  shut d k = joined_none _ k (λ r. rw (le-ltb (d + r + w) (d + w) (omega arith)))

  -- of d + w nodes, the first d have an edge
  part_block : (d : ℕ) → joined (λ r. cond (ltb (r + w) (d + w)) ((x + r + w) ∷ []) []) (d + w) ≡ stretch (x + w) d
  part_block d = joined_add _ d w ∙ rw (opened d d (le_refl d), shut d w) (append-nil (stretch (x + w) d))

-- the edges of all nodes of c blocks, part by part
unfoldable pub all_parts : ℕ → List ℕ → List ℕ
all_parts c [] = []
all_parts c (m ∷ ms) = part_edges (node_count (m ∷ ms)) (node_count ms) c ++ all_parts (c * (m + 1)) ms

-- those for the first part
first_edges : (c s w : ℕ) → w ≤ s → joined (λ x. cond (ltb (x % s + w) s) ((x + w) ∷ []) []) (c * s) ≡ part_edges s w c
unfolding part_edges
first_edges c s w h =
    let e : s - w + w ≡ s = omega arith in
    joined_blocks _ s c
    ∙ joined_cong _ _ c
    (λ q k.
    joined_cong _ (λ r. cond (ltb (r + w) (s - w + w)) ((q * s + r + w) ∷ []) []) s (λ r l. rw (digits_mod q l, e))
    ∙ ap (joined (λ r. cond (ltb (r + w) (s - w + w)) ((q * s + r + w) ∷ []) [])) (sym e)
    ∙ part_block (q * s) w (s - w))

no_parts : (c : ℕ)
    → Alike (joined (λ x. edges_by (node_count []) (weights_of []) x (x % node_count [])) (c * node_count []))
    (all_parts c [])
unfolding weights_of edges_by all_parts
no_parts c = alike_equal _ _ (joined_none _ (c * node_count []) (λ i. refl))

by_parts : (c : ℕ) (ms : List ℕ)
    → Alike (joined (λ x. edges_by (node_count ms) (weights_of ms) x (x % node_count ms)) (c * node_count ms))
    (all_parts c ms)
by_parts c [] = no_parts c
by_parts c (m ∷ ms) = go (by_parts (c * (m + 1)) ms)
  where
    w : ℕ
    w = node_count ms

    s : ℕ
    s = node_count (m ∷ ms)

    onward : ℕ → List ℕ
    onward x = cond (ltb (x % s + w) s) ((x + w) ∷ []) []

    inside : ℕ → List ℕ
    inside x = edges_by w (weights_of ms) x (x % w)

    both_kinds : joined (λ x. edges_by s (weights_of (m ∷ ms)) x (x % s)) (c * s)
        ≡ joined (λ x. onward x ++ inside x) (c * s)
    both_kinds =
        joined_cong _ _ (c * s)
        (λ x k. unfold node_count weights_of edges_by in
        rw (mod-mod_of_dvd w {b = (m + 1) * w} x (dvd-mul_left w (m + 1))))

    count : c * s ≡ c * (m + 1) * w
    count = unfold node_count in sym (mul_assoc c (m + 1) w)

    go : Alike (joined inside (c * (m + 1) * w)) (all_parts (c * (m + 1)) ms)
        → Alike (joined (λ x. edges_by s (weights_of (m ∷ ms)) x (x % s)) (c * s)) (all_parts c (m ∷ ms))
    go a =
        unfold all_parts in
        rw both_kinds
        (alike_then _ _ _ (joined_both onward inside (c * s))
        (alike_both _ _ _ _ (alike_equal _ _ (first_edges c s w (nodes_grow m ms))) (rw count a)))

-- the walk over a block whose first node is reached
pub whole_walked : (ws ms b : List ℕ) → ws ≡ weights_of ms → length b ≡ node_count ms → (get_or b 0 0 ≡ 0 → ⊥)
    → Alike (trail ws b (length b)) (all_parts 1 ms)
whole_walked ws ms b e size found =
    rw e (alike_then _ _ _
    (alike_equal _ _ (rw size (all_reached ms b size found (node_count ms) (le_refl (node_count ms))) ∙ every))
    (by_parts 1 ms))
  where
    every : joined (λ x. edges_by (node_count ms) (weights_of ms) x x) (node_count ms)
        ≡ joined (λ x. edges_by (node_count ms) (weights_of ms) x (x % node_count ms)) (1 * node_count ms)
    every = rw (one-mul (node_count ms)) (joined_cong _ _ (node_count ms) (λ x k. rw (mod-eq_of_lt k)))
