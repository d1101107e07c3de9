-- A row of nodes: the parts after its first have one level each. From its first reached node on all are, so its edges
-- are stretches: along it, and to the row after it.
use Rattle.std.specs.Prelude.{◌≡◌, Bool, true, false, cond, List, [], ◌∷◌, ◌++◌, ltb, length, take, drop}
use Rattle.std.proofs.Math.Path.{refl}
use Rattle.std.proofs.Common.{sym, ap, ◌∙◌, append-nil, append_assoc, add-zero, length-drop, get_or-drop, length-take-le}
use Prim.Native.Nat.{ℕ, zero, suc, ◌+◌, ◌-◌, ◌*◌, ◌%◌, ◌<◌, ◌≤◌}
use Rattle.std.proofs.Math.Nat.{add-suc}
use Rattle.std.proofs.Math.Decide.{dec_lt}
use native.Mathlib.Omega.{arith}
use Rattle.std.proofs.Math.ListN.{get_or}
use borrow.Author.Tests.{lt-ltb, le-ltb, ne_eqb}
use Rattle.laws.specs.Lists.{joined}
use Rattle.lattice_nodes.specs.Lattice.{node_count}
use Rattle.lattice_nodes.specs.Steps.{weights_of, edges_by, stretch, first_reached, stage_edges, shifted, onward_edges}
use Rattle.lattice_nodes.specs.Steps.{row_edges, updated, entered_byte, trail}
use Rattle.lattice_nodes.specs.Laws.Ids.{nodes_some}
use Rattle.lattice_nodes.specs.Laws.Some.{among}
use Rattle.lattice_nodes.specs.Laws.Steps.{entered_there, entered_some, length_updated, nodes_grow}
use Rattle.lattice_nodes.specs.Laws.Alike.{Alike, alike_equal, alike_then}
use Rattle.lattice_nodes.specs.Laws.Stretch.{stretch_more, shift_stretch, stretch_has, stretch_beyond}
use Rattle.lattice_nodes.specs.Laws.Stretch.{among_shifted}
use Rattle.lattice_nodes.specs.Laws.FirstReached.{first_low, first_zero, first_found}
use Rattle.lattice_nodes.specs.Laws.Blocks.{First, weight_is, later_are, block_ends, block_walked, trail_none}
use Rattle.lattice_nodes.specs.Laws.Blocks.{part_byte, stage_none}

-- ---- the walk along a row

one_level : (ms : List ℕ) (x r : ℕ) → node_count ms ≡ 1 → edges_by 1 (weights_of ms) x r ≡ []
unfolding weights_of edges_by
one_level [] x r h = refl
one_level (m ∷ ms) x r h =
    let one : node_count ms ≡ 1 = omega (arith, nodes_some ms, nodes_grow m ms) in
    rw (one, le-ltb (r + 1) 1 (omega arith)) (one_level ms x (r % 1) one)

module _ (m : ℕ) (ms b : List ℕ) (size : length b ≡ node_count (m ∷ ms)) (one : node_count ms ≡ 1)
    (f : ℕ) (zeros : (i : ℕ) → i < f → get_or b i 0 ≡ 0) (found : get_or b f 0 ≡ 0 → ⊥)
  where
    abbrev steps : ℕ → List ℕ
    steps x = trail (weights_of (m ∷ ms)) b x

    edge : (y : ℕ) → edges_by (length b) (weights_of (m ∷ ms)) y y ≡ cond (ltb (y + 1) (length b)) ((y + 1) ∷ []) []
    unfolding weights_of edges_by
    edge y = rw (one, one_level ms y (y % 1) one) (append-nil (cond (ltb (y + 1) (length b)) ((y + 1) ∷ []) []))

    -- at the node at f + d, which is reached
    on : (d : ℕ) → (get_or (updated entered_byte (steps (f + d)) b) (f + d) 0 ≡ 0 → ⊥)
        → steps (f + suc d) ≡ steps (f + d) ++ cond (ltb (f + d + 1) (length b)) ((f + d + 1) ∷ []) []
    on d t = rw (add-suc f d) (unfold trail in rw (ne_eqb _ _ t, edge (f + d)))

    record Reached (d : ℕ) : Type 0 where
      crossed : steps (f + d) ≡ stretch (f + 1) d
      there : get_or (updated entered_byte (steps (f + d)) b) (f + d) 0 ≡ 0 → ⊥

    further : (d : ℕ) → f + suc d < length b → Reached d → Reached (suc d)
    further d h r = record { crossed = path; there = entered_there (steps (f + suc d)) b (f + suc d) h (rw path last) }
      where
        path : steps (f + suc d) ≡ stretch (f + 1) (suc d)
        path =
            on d r.there
            ∙ (let at : f + d + 1 ≡ f + 1 + d = omega arith in
            rw (lt-ltb (f + d + 1) (length b) (omega arith), r.crossed, stretch_more (f + 1) d, at))

        last : among (f + suc d) (stretch (f + 1) (suc d)) ≡ true
        last = stretch_has (f + 1) (suc d) (f + suc d) (omega arith) (omega arith)

    going : (d : ℕ) → f + d < length b → Reached d
    going zero h =
        record {
          crossed = rw (add-zero f) (trail_none (weights_of (m ∷ ms)) b f zeros ∙ unfold stretch in refl);
          there = rw (add-zero f, trail_none (weights_of (m ∷ ms)) b f zeros) (unfold updated in found);
        }
    going (suc d) h = further d h (going d (omega arith))

    -- d nodes stand after the first reached one
    walked : (d : ℕ) → f + d + 1 ≡ length b → steps (length b) ≡ stretch (f + 1) d
    walked d e =
        let r = going d (omega arith) in
        let end : length b ≡ f + suc d = omega arith in
        ap steps end ∙ on d r.there
        ∙ rw (le-ltb (f + d + 1) (length b) (omega arith), r.crossed) (append-nil (stretch (f + 1) d))

pub row_walked : (m : ℕ) (ms b : List ℕ) → length b ≡ node_count (m ∷ ms) → node_count ms ≡ 1
    → trail (weights_of (m ∷ ms)) b (length b) ≡ stretch (first_reached b + 1) (length b - first_reached b - 1)
row_walked m ms b size one = go (dec_lt (first_reached b) (length b))
  where
    go : Dec (first_reached b < length b)
        → trail (weights_of (m ∷ ms)) b (length b) ≡ stretch (first_reached b + 1) (length b - first_reached b - 1)
    go (yes h) =
        walked m ms b size one (first_reached b) (first_zero b) (first_found b h) (length b - first_reached b - 1)
        (omega arith)
    go (no n) =
        let none : length b - first_reached b - 1 ≡ 0 = omega (arith, n) in
        rw none (trail_none (weights_of (m ∷ ms)) b (length b) (λ i h. first_zero b i (omega (arith, n)))
        ∙ unfold stretch in refl)

-- ---- and on to the next

-- the stage from nodes that are reached from f on
module _ (w f : ℕ) (c : List ℕ) (zeros : (r : ℕ) → r < f → get_or c r 0 ≡ 0)
    (some : (r : ℕ) → f ≤ r → r < w → get_or c r 0 ≡ 0 → ⊥) where
  from_there : (d : ℕ) → f + d ≤ w → stage_edges w c (f + d) ≡ stretch (w + f) d
  unfolding stage_edges joined
  from_there zero h = rw (add-zero f) (stage_none w c f zeros ∙ unfold stretch in refl)
  from_there (suc d) h =
      let at : w + f + d ≡ w + (f + d) = omega arith in
      rw (
        add-suc f d,
        stretch_more (w + f) d,
        from_there d (omega arith),
        ne_eqb (get_or c (f + d) 0) 0 (some (f + d) (omega arith) (omega arith)),
        at,
      )

  row_stage : f ≤ w → stage_edges w c w ≡ stretch (w + f) (w - f)
  row_stage h = let e : f + (w - f) ≡ w = omega arith in ap (stage_edges w c) (sym e) ∙ from_there (w - f) (omega arith)

-- the row of w nodes at a
module _ (w a : ℕ) (here : List ℕ) (fits : a + w ≤ length here) where
  abbrev row : List ℕ
  row = take w (drop a here)

  abbrev f : ℕ
  f = first_reached row

  -- along it
  abbrev along : List ℕ
  along = stretch (f + 1) (w - f - 1)

  -- the bytes once it is walked
  abbrev done : List ℕ
  done = updated entered_byte (shifted a along) here

  row_size : length row ≡ w
  row_size = length-take-le w (drop a here) (omega (arith, length-drop a here))

  low : f ≤ w
  low = omega (arith, first_low row, row_size)

  byte : (r : ℕ) → r < w
      → get_or (drop a done) r 0 ≡ cond (among r along) (entered_byte (get_or row r 0)) (get_or row r 0)
  byte r h = get_or-drop a done r 0 ∙ part_byte a w here (shifted a along) along fits r h (among_shifted a r along)

  zeros : (r : ℕ) → r < f → get_or (drop a done) r 0 ≡ 0
  zeros r h = byte r (omega (arith, low)) ∙ rw (stretch_beyond (f + 1) (w - f - 1) r (omega arith)) (first_zero row r h)

  some : (r : ℕ) → f ≤ r → r < w → get_or (drop a done) r 0 ≡ 0 → ⊥
  some r h k e = go (dec_lt f r)
    where
      there : (t : Bool) → (get_or row r 0 ≡ 0 → ⊥) → cond t (entered_byte (get_or row r 0)) (get_or row r 0) ≡ 0 → ⊥
      there true n z = entered_some (get_or row r 0) z
      there false n z = n z

      go : Dec (f < r) → ⊥
      go (yes l) =
          entered_some (get_or row r 0)
          (sym (byte r k ∙ rw (stretch_has (f + 1) (w - f - 1) r (omega arith) (omega arith))) ∙ e)
      go (no n) =
          let same : r ≡ f = omega (arith, n) in
          there (among r along) (rw same (first_found row (omega (arith, row_size)))) (sym (byte r k) ∙ e)

  row_edges_lem : shifted a along ++ onward_edges w done a ≡ row_edges w here a
  unfolding onward_edges row_edges
  row_edges_lem =
      let first : a + (f + 1) ≡ a + f + 1 = omega arith in
      let next : a + (w + f) ≡ a + f + w = omega arith in
      rw (
        length_updated entered_byte (shifted a along) here,
        row_stage w f (drop a done) zeros some low,
        shift_stretch a (f + 1) (w - f - 1),
        shift_stretch a (w + f) (w - f),
        first,
        next,
      )

-- a block whose sub-blocks are rows
module _ (ws b : List ℕ) (p : First ws (length b)) (rows : get_or ws 1 0 ≡ 1) where
  -- the parts of a row
  record Parts : Type 0 where
    top : ℕ
    rest : List ℕ
    all : p.rest ≡ top ∷ rest
    one : node_count rest ≡ 1

  parts : Parts
  unfolding weights_of
  parts = go p.rest refl
    where
      weight : get_or ws 1 0 ≡ get_or (weights_of p.rest) 0 0
      weight = rw p.weights_are

      go : (ms : List ℕ) → p.rest ≡ ms → Parts
      go [] e = let z : ◌≡◌ {A = ℕ} 0 1 = sym (weight ∙ rw e) ∙ rows in let bad : ⊥ = omega arith in absurd bad
      go (m ∷ ms) e = record { top = m; rest = ms; all = e; one = sym (weight ∙ rw e) ∙ rows }

  module _ (a q : ℕ) (at : a ≡ q * get_or ws 0 0) (inside : a < length b) where
    abbrev w : ℕ
    w = get_or ws 0 0

    abbrev bytes : List ℕ
    bytes = updated entered_byte (trail ws b a) b

    ends : a + w ≤ length bytes
    ends = omega (arith, length_updated entered_byte (trail ws b a) b, block_ends ws b p a q at inside)

    own_is : trail (drop 1 ws) (row w a bytes ends) w ≡ along w a bytes ends
    own_is =
        let size : length (row w a bytes ends) ≡ w = row_size w a bytes ends in
        rw (later_are ws b p, parts.all)
        (rw size at
        (row_walked parts.top parts.rest (row w a bytes ends)
        (size ∙ weight_is ws b p ∙ ap node_count parts.all) parts.one))

    pub row_passed : Alike (trail ws b (a + w)) (trail ws b a ++ row_edges w bytes a)
    row_passed =
        alike_then _ _ _ (rw own_is at (block_walked ws b p a q at inside))
        (alike_equal _ _
        (append_assoc (trail ws b a) _ _ ∙ ap (λ (l : List ℕ). trail ws b a ++ l) (row_edges_lem w a bytes ends)))
