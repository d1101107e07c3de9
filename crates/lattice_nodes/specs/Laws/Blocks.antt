-- The walk over a block of nodes: the block's own walk, and then the edges from its reached nodes to the block after
-- it.
use Rattle.std.specs.Prelude.{◌≡◌, ◌||◌, ltb, eqb, get_or, take, drop}
use Rattle.std.proofs.Math.Path.{refl}
use Rattle.std.proofs.Common.{sym, ap, ◌∙◌, add-suc, add-zero, le_of_lt, lt-suc_self, le_refl, length-drop, get_or-take, get_or-drop, length-take-le}
use Rattle.std.proofs.Math.Bool.{Bool, true, false, cond}
use mathlib.Core.List.{List, [], ◌∷◌, ◌++◌, map-append, append-nil}
use Prim.Native.Nat.{ℕ, zero, suc, ◌+◌, ◌-◌, ◌*◌, ◌%◌, ◌<◌, ◌≤◌}
use Rattle.std.proofs.Math.Nat.{mul-div_left, le_step, suc-mul, mul-le-mul_right, lt_of_mul-lt-mul_right}
use native.Mathlib.Omega.{arith}
use Rattle.std.proofs.Math.Arith.{digits_div, digits_mod}
use Rattle.std.proofs.Math.ListN.{length, length-append}
use borrow.Author.Tests.{ne_eqb}
use Rattle.laws.specs.Lists.{joined, any_of}
use Rattle.laws.specs.Laws.Bools.{false_true}
use Rattle.laws.specs.Laws.Joined.{joined_cong}
use Rattle.lattice_nodes.specs.Lattice.{node_count}
use Rattle.lattice_nodes.specs.Steps.{weights_of, Weights, edges_by, stage_edges, shifted, onward_edges, updated}
use Rattle.lattice_nodes.specs.Steps.{entered_byte, trail}
use Rattle.lattice_nodes.specs.Laws.Some.{All, all_append, among, among_append, among_one}
use Rattle.lattice_nodes.specs.Laws.Ids.{nodes_some}
use Rattle.lattice_nodes.specs.Laws.Edges.{edge_above}
use Rattle.lattice_nodes.specs.Laws.Steps.{open_test, edges_by_lem, targets_inside, length_updated, updated_append}
use Rattle.lattice_nodes.specs.Laws.Steps.{get_or_updated, entered_once}
use Rattle.lattice_nodes.specs.Laws.Alike.{Alike, alike_equal, alike_then, alike_more, alike_turn, same_updated}
use Rattle.lattice_nodes.specs.Laws.Stretch.{among_shifted}

-- ---- the edges of a node of a block

edges_shift : (n : ℕ) (ws : List ℕ) (x y r : ℕ) → edges_by n ws (x + y) r ≡ shifted x (edges_by n ws y r)
unfolding edges_by
edges_shift n [] x y r = refl
edges_shift n (w ∷ ws) x y r = rw (edges_shift w ws x y (r % w)) (go (ltb (r + w) n))
  where
    go : (t : Bool)
        → cond t ((x + y + w) ∷ []) [] ++ shifted x (edges_by w ws y (r % w))
        ≡ shifted x (cond t ((y + w) ∷ []) [] ++ edges_by w ws y (r % w))
    go true = ap (λ (k : ℕ). k ∷ shifted x (edges_by w ws y (r % w))) (omega arith)
    go false = refl

-- those of the node at place r of the q-th block
edges_at : (m : ℕ) (ms : List ℕ) (q r : ℕ) → r < node_count ms
    → edges_by (node_count (m ∷ ms)) (weights_of (m ∷ ms)) (q * node_count ms + r) (q * node_count ms + r)
    ≡ cond (ltb (q * node_count ms + node_count ms) (node_count (m ∷ ms)))
    ((q * node_count ms + (node_count ms + r)) ∷ []) []
    ++ shifted (q * node_count ms) (edges_by (node_count ms) (weights_of ms) r r)
unfolding node_count weights_of edges_by
edges_at m ms q r h =
    let w = node_count ms in
    let some = nodes_some ms in
    let test : ltb (q * w + r + w) ((m + 1) * w) ≡ ltb (q * w + w) ((m + 1) * w) =
    open_test m w (q * w + r) some
    ∙ rw (digits_div q h) (sym (open_test m w (q * w) some ∙ rw (mul-div_left q some))) in
    let to : q * w + r + w ≡ q * w + (w + r) = omega arith in
    rw (test, to, digits_mod q h, edges_shift w (weights_of ms) (q * w) r r)

-- ---- a walk goes upward

or_never : (a b : Bool) → (b ≡ true → ⊥) → a || b ≡ a
or_never true b h = refl
or_never false true h = absurd (h refl)
or_never false false h = refl

module _ (ms b : List ℕ) (size : length b ≡ node_count ms) where
  -- what is crossed at nodes above r leads above r
  above : (r d : ℕ) → among r (trail (weights_of ms) b (r + d)) ≡ among r (trail (weights_of ms) b r)
  unfolding trail
  above r zero = rw (add-zero r)
  above r (suc d) =
      rw (add-suc r d)
      (among_append r (trail (weights_of ms) b (r + d))
      (at_node (eqb (get_or (updated entered_byte (trail (weights_of ms) b (r + d)) b) (r + d) 0) 0))
      ∙ or_never _ _ (never (eqb (get_or (updated entered_byte (trail (weights_of ms) b (r + d)) b) (r + d) 0) 0))
      ∙ above r d)
    where
      at_node : Bool → List ℕ
      at_node t = cond t [] (edges_by (length b) (weights_of ms) (r + d) (r + d))

      never : (t : Bool) → among r (at_node t) ≡ true → ⊥
      never true e = unfold among any_of in false_true e
      never false e =
          let k = edge_above ms (r + d) (r + d) r (rw (size, edges_by_lem ms (r + d) (r + d)) at e) in omega arith

  -- so a node's byte is final once the walk is there
  settled : (r s : ℕ) → r ≤ s → r < length b
      → get_or (updated entered_byte (trail (weights_of ms) b s) b) r 0
      ≡ get_or (updated entered_byte (trail (weights_of ms) b r) b) r 0
  settled r s h k =
      let e : r + (s - r) ≡ s = omega arith in
      get_or_updated entered_byte entered_once (trail (weights_of ms) b s) b r k
      ∙ rw (← e, above r (s - r)) (sym (get_or_updated entered_byte entered_once (trail (weights_of ms) b r) b r k))

  -- and stays inside
  pub trail_inside : (x : ℕ) → x ≤ length b → All (λ t. t < length b) (trail (weights_of ms) b x)
  unfolding trail
  trail_inside zero h = tt
  trail_inside (suc x) h =
      all_append (λ t. t < length b) (trail (weights_of ms) b x) _ (trail_inside x (le_of_lt h))
      (at_node (eqb (get_or (updated entered_byte (trail (weights_of ms) b x) b) x 0) 0))
    where
      at_node : (t : Bool) → All (λ t. t < length b) (cond t [] (edges_by (length b) (weights_of ms) x x))
      at_node true = tt
      at_node false =
          targets_inside (weights_of ms) (length b) (record { tops = ms; weights_are = refl; count_is = size }) x h

-- nothing is crossed at nodes that are not reached
pub trail_none : (ws b : List ℕ) (f : ℕ) → ((i : ℕ) → i < f → get_or b i 0 ≡ 0) → trail ws b f ≡ []
unfolding trail updated
trail_none ws b zero h = refl
trail_none ws b (suc f) h = rw (trail_none ws b f (λ i k. h i (le_step k)), h f (lt-suc_self f))

-- ---- the walk over a block

-- the byte at place r of the w nodes from x on, after crossings of which those to it are among ts
pub part_byte : (x w : ℕ) (b us ts : List ℕ) → x + w ≤ length b → (r : ℕ) → r < w → among (x + r) us ≡ among r ts
    → get_or (updated entered_byte us b) (x + r) 0
    ≡ cond (among r ts) (entered_byte (get_or (take w (drop x b)) r 0)) (get_or (take w (drop x b)) r 0)
part_byte x w b us ts fits r h e =
    get_or_updated entered_byte entered_once us b (x + r) (omega arith)
    ∙ rw (e, get_or-take w (drop x b) r 0 h, get_or-drop x b r 0)

-- edges to nodes w further on lead past the first w
pub stage_beyond : (w : ℕ) (b : List ℕ) (r k : ℕ) → r < w → among r (stage_edges w b k) ≡ false
unfolding stage_edges joined
stage_beyond w b r zero h = unfold among any_of in refl
stage_beyond w b r (suc k) h =
    among_append r (stage_edges w b k) (at_node (eqb (get_or b k 0) 0))
    ∙ rw (stage_beyond w b r k h) (go (eqb (get_or b k 0) 0))
  where
    at_node : Bool → List ℕ
    at_node t = cond t [] ((w + k) ∷ [])

    go : (t : Bool) → among r (at_node t) ≡ false
    go true = unfold among any_of in refl
    go false = among_one r (w + k) ∙ ne_eqb (w + k) r (λ e. omega arith)

pub stage_inside : (w : ℕ) (b : List ℕ) (d k : ℕ) → d ≤ k → All (λ t. t < w + k) (stage_edges w b d)
unfolding stage_edges joined
stage_inside w b zero k h = tt
stage_inside w b (suc d) k h =
    all_append (λ t. t < w + k) (stage_edges w b d) _ (stage_inside w b d k (le_of_lt h))
    (at_node (eqb (get_or b d 0) 0))
  where
    at_node : (t : Bool) → All (λ t. t < w + k) (cond t [] ((w + d) ∷ []))
    at_node true = tt
    at_node false = (omega arith, tt)

-- only the first d bytes matter
pub stage_front : (w k : ℕ) (b : List ℕ) (d : ℕ) → d ≤ k → stage_edges w (take k b) d ≡ stage_edges w b d
unfolding stage_edges
stage_front w k b d h = joined_cong _ _ d (λ j l. rw (get_or-take k b j 0 (omega arith)))

-- no edge leaves nodes that are not reached
module _ (w : ℕ) (b : List ℕ) where
  pub stage_none : (f : ℕ) → ((i : ℕ) → i < f → get_or b i 0 ≡ 0) → stage_edges w b f ≡ []
  unfolding stage_edges joined
  stage_none zero h = refl
  stage_none (suc f) h = rw (stage_none f (λ i k. h i (le_step k)), h f (lt-suc_self f))

  pub stage_more : (k : ℕ)
      → length (stage_edges w b (suc k)) ≡ length (stage_edges w b k) + cond (eqb (get_or b k 0) 0) 0 1
  unfolding stage_edges joined
  stage_more k = length-append (stage_edges w b k) _ ∙ rw (go (eqb (get_or b k 0) 0))
    where
      go : (t : Bool) → length (cond t [] ((w + k) ∷ [])) ≡ cond t 0 1
      go true = refl
      go false = refl

-- so as many leave the nodes from f on
pub stage_later : (w : ℕ) (b : List ℕ) (f : ℕ) → ((i : ℕ) → i < f → get_or b i 0 ≡ 0) → (d : ℕ)
    → length (stage_edges w b (f + d)) ≡ length (stage_edges w (drop f b) d)
stage_later w b f h zero = rw (add-zero f, stage_none w b f h) (unfold stage_edges joined in refl)
stage_later w b f h (suc d) =
    rw (add-suc f d)
    (stage_more w b (f + d) ∙ rw (stage_later w b f h d, ← get_or-drop f b d 0) (sym (stage_more w (drop f b) d)))

module _ (x : ℕ) where
  -- the edges of a node: the one to the next block, and those inside
  pieces : (e z : Bool) (k : ℕ) (is : List ℕ)
      → cond e [] (cond z ((x + k) ∷ []) [] ++ shifted x is)
      ≡ cond z (shifted x (cond e [] (k ∷ []))) [] ++ shifted x (cond e [] is)
  pieces true true k is = refl
  pieces true false k is = refl
  pieces false true k is = refl
  pieces false false k is = refl

  split : (z : Bool) (s c : List ℕ)
      → cond z (shifted x (s ++ c)) [] ≡ cond z (shifted x s) [] ++ cond z (shifted x c) []
  split true s c = map-append (λ t. x + t) s c
  split false s c = refl

  no_stage : (z : Bool) → cond z (shifted x []) [] ≡ []
  no_stage true = refl
  no_stage false = refl

module _ (m : ℕ) (ms b : List ℕ) (size : length b ≡ node_count (m ∷ ms)) (q : ℕ) (low : q ≤ m) where
  abbrev w : ℕ
  w = node_count ms

  abbrev x : ℕ
  x = q * w

  abbrev steps : ℕ → List ℕ
  steps y = trail (weights_of (m ∷ ms)) b y

  -- the bytes once the walk is there, those of the block, and the block's own walk
  abbrev here : List ℕ
  here = updated entered_byte (steps x) b

  abbrev block : List ℕ
  block = take w (drop x here)

  abbrev own : ℕ → List ℕ
  own r = trail (weights_of ms) block r

  -- the bytes once the block is walked, and the edges from its first r nodes to the next
  abbrev done : List ℕ
  done = updated entered_byte (shifted x (own w)) here

  abbrev stage : ℕ → List ℕ
  stage r = cond (ltb (x + w) (length done)) (shifted x (stage_edges w (drop x done) r)) []

  fits : x + w ≤ node_count (m ∷ ms)
  unfolding node_count
  fits = omega (arith, mul-le-mul_right {m = suc q} {n = m + 1} w (omega arith), suc-mul q w)

  here_size : length here ≡ node_count (m ∷ ms)
  here_size = length_updated entered_byte (steps x) b ∙ size

  done_size : length done ≡ node_count (m ∷ ms)
  done_size = length_updated entered_byte (shifted x (own w)) here ∙ here_size

  block_size : length block ≡ w
  block_size = length-take-le w (drop x here) (omega (arith, length-drop x here, here_size, fits))

  module _ (r : ℕ) (h : r < w) where
    -- bytes of the block after crossings of which those in the block are ts
    byte_after : (us ts : List ℕ) → among (x + r) us ≡ among r ts
        → get_or (updated entered_byte us here) (x + r) 0 ≡ get_or (updated entered_byte ts block) r 0
    byte_after us ts e =
        part_byte x w here us ts (omega (arith, here_size, fits)) r h e
        ∙ sym (get_or_updated entered_byte entered_once ts block r (rw block_size h))

    final : get_or (drop x done) r 0 ≡ get_or (updated entered_byte (own r) block) r 0
    final =
        get_or-drop x done r 0 ∙ byte_after (shifted x (own w)) (own w) (among_shifted x r (own w))
        ∙ settled ms block block_size r w (le_of_lt h) (rw block_size h)

    only_own : among (x + r) (stage r ++ shifted x (own r)) ≡ among r (own r)
    only_own =
        among_append (x + r) (stage r) (shifted x (own r))
        ∙ rw (go (ltb (x + w) (length done))) (among_shifted x r (own r))
      where
        go : (z : Bool) → among (x + r) (cond z (shifted x (stage_edges w (drop x done) r)) []) ≡ false
        go true = among_shifted x r (stage_edges w (drop x done) r) ∙ stage_beyond w (drop x done) r r h
        go false = unfold among any_of in refl

    step : Alike (steps (x + r)) (steps x ++ (stage r ++ shifted x (own r)))
        → Alike (steps (x + suc r)) (steps x ++ (stage (suc r) ++ shifted x (own (suc r))))
    step a =
        rw (path, more, own_more)
        (alike_more (steps (x + r)) (steps x) (stage r) (shifted x (own r)) onward inside (stage r ++ onward) a
        (alike_equal _ _ refl))
      where
        there : Bool
        there = eqb (get_or (updated entered_byte (own r) block) r 0) 0

        onward : List ℕ
        onward = cond (ltb (x + w) (node_count (m ∷ ms))) (shifted x (cond there [] ((w + r) ∷ []))) []

        inside : List ℕ
        inside = shifted x (cond there [] (edges_by w (weights_of ms) r r))

        byte : get_or (updated entered_byte (steps (x + r)) b) (x + r) 0
            ≡ get_or (updated entered_byte (own r) block) r 0
        byte =
            ap (λ (l : List ℕ). get_or l (x + r) 0)
            (same_updated (steps (x + r)) _ b a.same
            ∙ updated_append entered_byte (steps x) (stage r ++ shifted x (own r)) b)
            ∙ byte_after (stage r ++ shifted x (own r)) (own r) only_own

        path : steps (x + suc r) ≡ steps (x + r) ++ (onward ++ inside)
        path =
            rw (add-suc x r)
            (unfold trail in rw (byte, size, edges_at m ms q r h)
            (ap (λ (l : List ℕ). steps (x + r) ++ l)
            (pieces x there (ltb (x + w) (node_count (m ∷ ms))) (w + r) (edges_by w (weights_of ms) r r))))

        more : stage (suc r) ≡ stage r ++ onward
        more =
            unfold stage_edges joined in
            rw (final, done_size)
            (split x (ltb (x + w) (node_count (m ∷ ms))) (stage_edges w (drop x done) r) (cond there [] ((w + r) ∷ [])))

        own_more : shifted x (own (suc r)) ≡ shifted x (own r) ++ inside
        own_more =
            unfold trail in
            rw block_size (map-append (λ t. x + t) (own r) (cond there [] (edges_by w (weights_of ms) r r)))

  along : (r : ℕ) → r ≤ w → Alike (steps (x + r)) (steps x ++ (stage r ++ shifted x (own r)))
  along zero h =
      alike_equal _ _
      (rw (add-zero x)
      (unfold trail stage_edges joined in rw (no_stage x (ltb (x + w) (length done))) (sym (append-nil (steps x)))))
  along (suc r) h = step r h (along r (le_of_lt h))

  walked : Alike (steps (x + w)) ((steps x ++ shifted x (own w)) ++ onward_edges w done x)
  unfolding onward_edges
  walked = alike_then _ _ _ (along w (le_refl w)) (alike_turn (steps x) (stage w) (shifted x (own w)))

-- ---- the same by weights: the block of the parts after the first that begins at a

-- a lattice of more than one node has a part
pub record First (ws : List ℕ) (n : ℕ) : Type 0 where
  pub top : ℕ
  pub rest : List ℕ
  pub weights_are : ws ≡ weights_of (top ∷ rest)
  pub count_is : n ≡ node_count (top ∷ rest)

pub first_part : (ws : List ℕ) (n : ℕ) → Weights ws n → 1 < n → First ws n
unfolding node_count
first_part ws n g h = go g.tops g.weights_are g.count_is
  where
    go : (tops : List ℕ) → ws ≡ weights_of tops → n ≡ node_count tops → First ws n
    go [] e k = absurd (omega (arith, k))
    go (m ∷ ms) e k = record { top = m; rest = ms; weights_are = e; count_is = k }

module _ (ws b : List ℕ) (p : First ws (length b)) where
  pub weight_is : get_or ws 0 0 ≡ node_count p.rest
  unfolding weights_of
  weight_is = rw p.weights_are

  pub later_are : drop 1 ws ≡ weights_of p.rest
  unfolding weights_of
  later_are = rw p.weights_are

  -- a part whose weight is not 1 is not the last
  pub not_last : (get_or ws 0 0 ≡ 1 → ⊥) → 1 < length ws
  unfolding node_count weights_of
  not_last h = go p.rest refl
    where
      go : (ms : List ℕ) → p.rest ≡ ms → 1 < length ws
      go [] e = absurd (h (weight_is ∙ rw e))
      go (m ∷ ms) e = rw (p.weights_are, e) (omega arith)

  module _ (a q : ℕ) (at : a ≡ q * get_or ws 0 0) (inside : a < length b) where
    place : a ≡ q * node_count p.rest
    place = at ∙ rw weight_is

    below : q ≤ p.top
    unfolding node_count
    below =
        let l : q < p.top + 1 =
        lt_of_mul-lt-mul_right (node_count p.rest) (omega (arith, place, p.count_is)) in omega arith

    pub block_ends : a + get_or ws 0 0 ≤ length b
    block_ends = rw (place, weight_is) (omega (arith, fits p.top p.rest b p.count_is q below, p.count_is))

    pub block_walked :
        let here = updated entered_byte (trail ws b a) b in
        let own = trail (drop 1 ws) (take (get_or ws 0 0) (drop a here)) (get_or ws 0 0) in
        Alike (trail ws b (a + get_or ws 0 0))
        ((trail ws b a ++ shifted a own) ++ onward_edges (get_or ws 0 0) (updated entered_byte (shifted a own) here) a)
    block_walked = rw (place, weight_is, later_are, p.weights_are) (walked p.top p.rest b p.count_is q below)
