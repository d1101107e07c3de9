-- The walk over a block, block by block of the parts after the first.
use mathlib.Core.Path.{◌≡◌, refl, sym, ◌∙◌}
use mathlib.Core.Logic.{⊎_elim}
use mathlib.Core.Bool.{false}
use mathlib.Core.List.{List, ◌++◌}
use Prim.Native.Nat.{ℕ, zero, suc, ◌+◌, ◌-◌, ◌*◌, ◌/◌, ◌<◌, ◌≤◌}
use native.Mathlib.Nat.{le_refl, le_antisymm, eq-or-lt_of_le, le_of_suc-le-suc, le_of_lt, suc-mul, lt_of_mul-lt-mul_right, mul-le-mul_right, mul-div_left, div-mul-le_self, add-sub_cancel_left}
use native.Mathlib.Omega.{arith}
use lib.Arith.{le-zero}
use lib.ListN.{length, get_or, take, drop, length-append, length-drop}
use lib.Seq.{length-take-le, take_all}
use Rattle.std.proofs.Common.{Result, Ok, Err, add-one}
use Rattle.std.specs.Result.{is_ok}
use Rattle.lattice_nodes.specs.Lattice.{node_count}
use Rattle.lattice_nodes.specs.Steps.{weights_of, stretch, first_reached, shifted, onward_edges, row_edges, updated, entered_byte, trail}
use Rattle.lattice_nodes.specs.Laws.Some.{All}
use Rattle.lattice_nodes.specs.Laws.Ids.{nodes_some}
use Rattle.lattice_nodes.specs.Laws.Alike.{Alike}
use Rattle.lattice_nodes.specs.Laws.FirstReached.{first_zero}
use Rattle.lattice_nodes.specs.Laws.Blocks.{First, first_part, weight_is, later_are, block_ends, block_walked, trail_none, trail_inside}
use Rattle.lattice_nodes.specs.Laws.Rows.{row_walked, row_passed}
use Rattle.lattice_stretch.specs.declared.Budget.{Budget}
use Rattle.lattice_stretch.specs.declared.OverBudget.{OverBudget}
use Rattle.lattice_stretch.specs.Crossed.{Crosses}
use Rattle.lattice_stretch.specs.Laws.Crossing.{none_crossed, kept, reordered, cut_off, then_more, of_part}
use Rattle.lattice_crossing.specs.Block.{BlockAt}
use Rattle.lattice_walk.specs.Blocks.{Small}

-- a walk crosses no fewer edges by going on
trail_grows : (ws b : List ℕ) (x n : ℕ) → x ≤ n → length (trail ws b x) ≤ length (trail ws b n)
unfolding trail
trail_grows ws b x zero h = rw (le-zero h) (le_refl _)
trail_grows ws b x (suc n) h =
    ⊎_elim (λ e. rw e (le_refl _)) (λ (l : x < suc n). rw length-append (omega (arith, trail_grows ws b x n (le_of_suc-le-suc l)))) (eq-or-lt_of_le h)

pub rest_is : (ws : List ℕ) → take (length ws - 1) (drop 1 ws) ≡ drop 1 ws
rest_is ws = take_all (length ws - 1) (drop 1 ws) (omega (arith, length-drop 1 ws))

-- a lattice of which a node after the first is reached has a part
pub parts : (ws nodes : List ℕ) (f : ℕ) → Small ws (length nodes) → zero < f → f < length nodes → First ws (length nodes)
parts ws nodes f g later reached = first_part ws (length nodes) g.lattice (omega arith)

pub part_some : (ws : List ℕ) (n : ℕ) → First ws n → zero < length ws
unfolding weights_of
part_some ws n p = rw p.weights_are (omega arith)

pub weight_some : (ws nodes : List ℕ) → First ws (length nodes) → zero < get_or ws 0 0
weight_some ws nodes p = rw (weight_is ws nodes p) (nodes_some p.rest)

module _ (ws : List ℕ) (budget : Budget) (nodes₀ : List ℕ) where
  -- no node is reached
  pub unreached : first_reached nodes₀ ≡ length nodes₀ → Crosses (trail ws nodes₀ (length nodes₀)) budget nodes₀ nodes₀ (Ok budget)
  unreached e = rw (trail_none ws nodes₀ (length nodes₀) (λ i k. first_zero nodes₀ i (rw e k))) (none_crossed budget nodes₀)

  module _ (p : First ws (length nodes₀)) where
    abbrev w : ℕ
    w = get_or ws 0 0

    -- the parts after the first have one level each
    pub row : w ≡ 1 → (f : ℕ) → f ≡ first_reached nodes₀ → (after : List ℕ) (r : Result Budget OverBudget)
        → Crosses (stretch (f + 1) (length nodes₀ - f - 1)) budget nodes₀ after r
        → Crosses (trail ws nodes₀ (length nodes₀)) budget nodes₀ after r
    row one f e after r c = rw all c
      where
        all : trail ws nodes₀ (length nodes₀) ≡ stretch (f + 1) (length nodes₀ - f - 1)
        all = rw (p.weights_are, e) (row_walked p.top p.rest nodes₀ p.count_is (sym (weight_is ws nodes₀ p) ∙ one))

    -- from the block of the first reached node on
    pub begin : (f : ℕ) → f ≡ first_reached nodes₀ → Crosses (trail ws nodes₀ (f / w * w)) budget nodes₀ nodes₀ (Ok budget)
    begin f e =
        let under = div-mul-le_self f w in
        rw (trail_none ws nodes₀ (f / w * w) (λ i k. first_zero nodes₀ i (omega arith))) (none_crossed budget nodes₀)

    -- the nodes are whole blocks
    blocks : length nodes₀ / w * w ≡ length nodes₀
    unfolding node_count
    blocks = rw (p.count_is, weight_is ws nodes₀ p, mul-div_left (p.top + 1) (nodes_some p.rest))

    -- to the end, from the block of a node on
    pub finish : (budget' : Budget) (nodes : List ℕ) (f q : ℕ) → f < length nodes₀ → (f / w ≤ length nodes₀ / w → q ≤ length nodes₀ / w) → length nodes₀ / w ≤ q
        → Crosses (trail ws nodes₀ (q * w)) budget nodes₀ nodes (Ok budget')
        → Crosses (trail ws nodes₀ (length nodes₀)) budget nodes₀ nodes (Ok budget')
    finish budget' nodes f q h low high c = rw (le_antisymm (low (le_of_lt from)) high, blocks) at c
      where
        from : f / w < length nodes₀ / w
        from = lt_of_mul-lt-mul_right w (rw blocks (omega (arith, div-mul-le_self f w)))

    module _ (q : ℕ) (h : q < length nodes₀ / w) where
      abbrev a : ℕ
      a = q * w

      pub ends : a + w ≤ length nodes₀
      ends = rw (← suc-mul q w, ← blocks) (mul-le-mul_right {m = suc q} {n = length nodes₀ / w} w h)

      inside : a < length nodes₀
      inside = omega (arith, ends, weight_some ws nodes₀ p)

      -- if it is not the last, another stands after it
      pub next_fits : length nodes₀ ≤ 32768 → (m : ℕ) → m ≡ length nodes₀ → BlockAt m a w
      next_fits few m e = record { few = rw e few; ends = rw e ends; next = λ k. rw e (next_ends (rw e at k)) }
        where
          next_ends : a + w < length nodes₀ → a + w + w ≤ length nodes₀
          next_ends k = block_ends ws nodes₀ p (a + w) (suc q) (sym (suc-mul q w)) k

      grows : length (trail ws nodes₀ (a + w)) ≤ length (trail ws nodes₀ (length nodes₀))
      grows = trail_grows ws nodes₀ (a + w) (length nodes₀) ends

      module _ (budget' : Budget) (nodes : List ℕ) (size : length nodes ≡ length nodes₀)
          (c : Crosses (trail ws nodes₀ a) budget nodes₀ nodes (Ok budget'))
        where
          abbrev block : List ℕ
          block = take w (drop a nodes)

          block_size : length block ≡ w
          block_size = length-take-le w (drop a nodes) (omega (arith, length-drop a nodes, ends, size))

          abbrev own : List ℕ
          own = trail (drop 1 ws) block w

          own_inside : All (λ t. t < w) own
          own_inside =
              rw (later_are ws nodes₀ p)
              (rw block_size at (trail_inside p.rest block (block_size ∙ weight_is ws nodes₀ p) (length block) (le_refl (length block))))

          walked : Alike (trail ws nodes₀ (a + w)) ((trail ws nodes₀ a ++ shifted a own) ++ onward_edges w (updated entered_byte (shifted a own) nodes) a)
          walked = rw (c.entered refl) (block_walked ws nodes₀ p a q refl inside)

          -- the block is a row, and its edges are crossed
          module _ (rows : get_or ws 1 0 ≡ 1) (nodes' : List ℕ) (r : Result Budget OverBudget) (d : Crosses (row_edges w nodes a) budget' nodes nodes' r) where
            passed : Crosses (trail ws nodes₀ (a + w)) budget nodes₀ nodes' r
            passed =
                reordered _ _ _ _ _ (then_more _ _ _ _ _ c _ nodes' r d) _
                (rw (c.entered refl) (row_passed ws nodes₀ p rows a q refl inside))

            pub row_stops : is_ok r ≡ false → (y : OverBudget) → Crosses (trail ws nodes₀ (length nodes₀)) budget nodes₀ nodes' (Err y)
            row_stops e y = cut_off _ _ _ _ _ passed e y _ nodes' grows

            pub row_on : Crosses (trail ws nodes₀ ((q + 1) * w)) budget nodes₀ nodes' r
            row_on = rw (add-one q, suc-mul q w) passed

          -- as the code has the block, and the weights of its parts
          abbrev taken : List ℕ
          taken = take (a + w - a) (drop a nodes)

          abbrev rest : List ℕ
          rest = take (length ws - 1) (drop 1 ws)

          pub block_lattice : Small ws (length nodes₀) → Small rest (length taken)
          block_lattice g =
              rw (rest_is ws, add-sub_cancel_left a w, block_size)
              (record {
                lattice = record { tops = p.rest; weights_are = later_are ws nodes₀ p; count_is = weight_is ws nodes₀ p };
                nodes = omega (arith, ends, g.nodes);
              })

          -- its own walk
          module _ (last : List ℕ) where
            abbrev nodes' : List ℕ
            nodes' = take a nodes ++ (last ++ drop (a + w - a) (drop a nodes))

            here : (r : Result Budget OverBudget) → Crosses (trail rest taken (length taken)) budget' taken last r
                → Crosses (shifted a own) budget' nodes nodes' r
            here r d =
                rw (add-sub_cancel_left a w)
                (of_part a w nodes own budget' last r (omega (arith, ends, size)) own_inside (rw (rest_is ws, add-sub_cancel_left a w, block_size) at d))

            so_far : (r : Result Budget OverBudget) → Crosses (trail rest taken (length taken)) budget' taken last r
                → Crosses (trail ws nodes₀ a ++ shifted a own) budget nodes₀ nodes' r
            so_far r d = then_more _ _ _ _ _ c _ nodes' r (here r d)

            pub block_stops : (r : Result Budget OverBudget) → Crosses (trail rest taken (length taken)) budget' taken last r
                → is_ok r ≡ false → (y : OverBudget) → Crosses (trail ws nodes₀ (length nodes₀)) budget nodes₀ nodes' (Err y)
            block_stops r d e y =
                cut_off _ _ _ _ _ (so_far r d) e y _ nodes'
                (omega (
                  arith,
                  walked.size,
                  length-append (trail ws nodes₀ a ++ shifted a own) (onward_edges w (updated entered_byte (shifted a own) nodes) a),
                  grows,
                ))

            -- and then the edges to the next
            module _ (budget'' : Budget) (d : Crosses (trail rest taken (length taken)) budget' taken last (Ok budget'')) where
              pub size' : length nodes' ≡ length nodes₀
              size' = kept _ _ _ _ _ (so_far (Ok budget'') d) refl

              module _ (nodes'' : List ℕ) (r : Result Budget OverBudget) (o : Crosses (onward_edges w nodes' a) budget'' nodes' nodes'' r) where
                longer : Crosses (trail ws nodes₀ (a + w)) budget nodes₀ nodes'' r
                longer = reordered _ _ _ _ _ (then_more _ _ _ _ _ (so_far (Ok budget'') d) _ nodes'' r o) _ (rw ((here (Ok budget'') d).entered refl) walked)

                pub next_stops : is_ok r ≡ false → (y : OverBudget) → Crosses (trail ws nodes₀ (length nodes₀)) budget nodes₀ nodes'' (Err y)
                next_stops e y = cut_off _ _ _ _ _ longer e y _ nodes'' grows

                pub go_on : Crosses (trail ws nodes₀ ((q + 1) * w)) budget nodes₀ nodes'' r
                go_on = rw (add-one q, suc-mul q w) longer
