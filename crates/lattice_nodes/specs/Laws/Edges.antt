-- The edges of the lattice: an edge raises one level by one, and leads to a higher number.
-- A node is dominated exactly where an edge leads to it that leaves a reached node.
use Rattle.std.specs.Prelude.{◌≡◌, ◌⊎◌, Bool, false, ◌&&◌, ◌||◌, cond, List, [], ◌∷◌, ℕ, zero, suc, ◌+◌, ◌*◌, ◌/◌, ◌%◌, ◌<◌, ◌≤◌, leb, ltb}
use Rattle.std.proofs.Math.Path.{refl, ap}
use Rattle.std.proofs.Common.{sym, ◌∙◌, inl, inr, div-lt_iff_lt-mul, div-add-mod', mod-lt, add-mul, one-mul, suc-mul, eq-or-lt_of_le, le_refl, lt_trans, lt_of_lt_of_le, not-suc-le-zero, le_of_suc-le-suc, add-one, arith, lt-ltb, ltb-true, le-leb, leb-true, eqb-true, eq-eqb}
use Rattle.std.proofs.Math.Logic.{⊎_elim}
use Rattle.std.proofs.Math.Bool.{true}
use Rattle.std.proofs.Math.Nat.{add-div_right, add-mod_right}
use Rattle.std.proofs.Math.Arith.{digits_lt, digits_div, digits_mod}
use Rattle.std.proofs.Math.Dec.{eqb}
use Rattle.laws.specs.First.{any_below}
use Rattle.laws.specs.Lists.{joined, any_of}
use Rattle.laws.specs.Laws.Bools.{both, false_true, either, or_right, both_ways}
use Rattle.laws.specs.Laws.First.{any_found, any_at}
use Rattle.preference.specs.Laws.Parts.{Within}
use Rattle.pareto.specs.Dominance.{none_above, some_below, dominates}
use Rattle.lattice_nodes.specs.Lattice.{node_count, node_id, levels_of, held, dominated_node, reached, edges_from}
use Rattle.lattice_nodes.specs.Lattice.{edges, crossed_at}
use Rattle.lattice_nodes.specs.Laws.Some.{All, Witness, any_elim, among, among_cases, among_head, among_tail}
use Rattle.lattice_nodes.specs.Laws.Some.{joined_cases, joined_among}
use Rattle.lattice_nodes.specs.Laws.Ids.{nodes_some, id_small, levels_id, levels_of_within, id_levels}

-- b is a with one level raised by one, to at most its part's greatest
abbrev pub Raised : List ℕ → List ℕ → List ℕ → Type 0
Raised [] as' bs = ⊥
Raised (m ∷ ms) [] bs = ⊥
Raised (m ∷ ms) (a ∷ as') [] = ⊥
Raised (m ∷ ms) (a ∷ as') (b ∷ bs) = ((suc a ≡ b) × (a < m) × (as' ≡ bs)) ⊎ ((a ≡ b) × Raised ms as' bs)

-- ---- from numbers to vectors and back

pub edge_above : (ms : List ℕ) (x r y : ℕ) → among y (edges_from ms x r) ≡ true → x < y
unfolding edges_from
edge_above [] x r y t = unfold among any_of in false_true t
edge_above (m ∷ ms) x r y t =
    ⊎_elim (λ h. omega (arith, h.1, nodes_some ms)) (λ s. edge_above ms x (r % node_count ms) y s)
    (among_cases y (ltb (r / node_count ms) m) (x + node_count ms) (edges_from ms x (r % node_count ms)) t)

-- where an edge leads to, as the offset `off` in the part of the lattice over ms
pub record End (ms : List ℕ) (x r y : ℕ) : Type 0 where
  pub off : ℕ
  pub inside : off < node_count ms
  pub place : y + r ≡ x + off
  pub raised : Raised ms (levels_of ms r) (levels_of ms off)

end_here : (m : ℕ) (ms : List ℕ) (x r y : ℕ) → r / node_count ms < m → x + node_count ms ≡ y → End (m ∷ ms) x r y
unfolding node_count levels_of
end_here m ms x r y h e =
    let w = node_count ms in
    let below : r < m * w = (div-lt_iff_lt-mul (nodes_some ms)).0 h in
    record {
      off = r + w;
      inside = rw add-mul (omega (arith, below, one-mul w));
      place = omega arith;
      raised =
          inl (
            sym (add-div_right r (nodes_some ms) ∙ add-one (r / w)),
            h,
            ap (λ (k : ℕ). levels_of ms k) (sym (add-mod_right r w)),
          );
    }

end_below : (m : ℕ) (ms : List ℕ) (x r y : ℕ) → r < node_count (m ∷ ms) → End ms x (r % node_count ms) y
    → End (m ∷ ms) x r y
unfolding node_count levels_of
end_below m ms x r y h e =
    let w = node_count ms in
    let q : r / w < m + 1 = (div-lt_iff_lt-mul (nodes_some ms)).1 h in
    record {
      off = r / w * w + e.off;
      inside = digits_lt q e.inside;
      place = omega (arith, e.place, div-add-mod' r w);
      raised = inr (sym (digits_div (r / w) e.inside), rw (digits_mod (r / w) e.inside) e.raised);
    }

-- an edge raises one level
pub edge_raises : (ms : List ℕ) (x r y : ℕ) → r < node_count ms → among y (edges_from ms x r) ≡ true → End ms x r y
unfolding edges_from
edge_raises [] x r y h t = unfold among any_of in false_true t
edge_raises (m ∷ ms) x r y h t =
    ⊎_elim (λ e. end_here m ms x r y (ltb-true (r / node_count ms) m e.0) e.1)
    (λ s. end_below m ms x r y h (edge_raises ms x (r % node_count ms) y (mod-lt r (nodes_some ms)) s))
    (among_cases y (ltb (r / node_count ms) m) (x + node_count ms) (edges_from ms x (r % node_count ms)) t)

-- an edge leads to the node with one level raised
pub raised_edge : (ms as' bs : List ℕ) (x y : ℕ) → Within ms as' → Raised ms as' bs
    → y + node_id ms as' ≡ x + node_id ms bs
    → among y (edges_from ms x (node_id ms as')) ≡ true
unfolding edges_from node_id
raised_edge [] as' bs x y h r e = absurd r
raised_edge (m ∷ ms) [] bs x y h r e = absurd r
raised_edge (m ∷ ms) (a ∷ as') [] x y h r e = absurd r
raised_edge (m ∷ ms) (a ∷ as') (b ∷ bs) x y h (inl r) e =
    let w = node_count ms in
    let above : b * w ≡ a * w + w = ap (λ (k : ℕ). k * w) (sym r.0) ∙ suc-mul a w in
    let rest : node_id ms as' ≡ node_id ms bs = ap (node_id ms) r.2 in
    rw (digits_div a (id_small ms as' h.1)) (among_head y (ltb a m) (x + w) _ (lt-ltb a m r.1) (omega (arith, e)))
raised_edge (m ∷ ms) (a ∷ as') (b ∷ bs) x y h (inr r) e =
    let w = node_count ms in
    let level : a * w ≡ b * w = ap (λ (k : ℕ). k * w) r.0 in
    rw (digits_div a (id_small ms as' h.1), digits_mod a (id_small ms as' h.1))
    (among_tail y (ltb a m) (x + w) _ (raised_edge ms as' bs x y h.1 r.1 (omega (arith, e))))

-- ---- one step in the order of vectors

-- where no level of v is above a's, v is a or dominates it
pub above_cases : (ms v as' : List ℕ) → Within ms v → Within ms as' → none_above v as' ≡ true
    → (v ≡ as') ⊎ (some_below v as' ≡ true)
unfolding none_above some_below
above_cases [] [] [] h k t = inl refl
above_cases [] [] (a ∷ as') h k t = absurd k
above_cases [] (l ∷ v) as' h k t = absurd h
above_cases (m ∷ ms) [] as' h k t = absurd h
above_cases (m ∷ ms) (l ∷ v) [] h k t = absurd k
above_cases (m ∷ ms) (l ∷ v) (a ∷ as') h k t =
    let p = both (leb l a) (none_above v as') t in
    above_cons (leb-true l a p.0) (above_cases ms v as' h.1 k.1 p.1)
  where
    above_cons : l ≤ a → (v ≡ as') ⊎ (some_below v as' ≡ true)
        → (l ∷ v ≡ a ∷ as') ⊎ (ltb l a || some_below v as' ≡ true)
    above_cons q (inr s) = inr (or_right (ltb l a) (some_below v as') s)
    above_cons q (inl e) = ⊎_elim (λ (p : l ≡ a). inl (cc)) (λ p. inr (rw (lt-ltb l a p))) (eq-or-lt_of_le q)

pub above_refl : (v : List ℕ) → none_above v v ≡ true
unfolding none_above
above_refl [] = refl
above_refl (l ∷ v) = rw (le-leb l l (le_refl l)) (above_refl v)

-- a vector that is nowhere above a node dominates each node that one more level makes of it
pub raised_dominated : (ms v as' bs : List ℕ) → Within ms v → none_above v as' ≡ true → Raised ms as' bs
    → (none_above v bs ≡ true) × (some_below v bs ≡ true)
unfolding none_above some_below
raised_dominated [] v as' bs h t e = absurd e
raised_dominated (m ∷ ms) [] as' bs h t e = absurd h
raised_dominated (m ∷ ms) (l ∷ v) [] bs h t e = absurd e
raised_dominated (m ∷ ms) (l ∷ v) (a ∷ as') [] h t e = absurd e
raised_dominated (m ∷ ms) (l ∷ v) (a ∷ as') (b ∷ bs) h t (inl e) =
    let p = both (leb l a) (none_above v as') t in
    let low : l ≤ a = leb-true l a p.0 in
    (rw (le-leb l b (omega (arith, e.0))) (rw e.2 at p.1), rw (lt-ltb l b (omega (arith, e.0))))
raised_dominated (m ∷ ms) (l ∷ v) (a ∷ as') (b ∷ bs) h t (inr e) =
    let p = both (leb l a) (none_above v as') t in
    let low : l ≤ a = leb-true l a p.0 in
    let more = raised_dominated ms v as' bs h.1 p.1 e.1 in
    (rw (le-leb l b (omega (arith, e.0))) more.0, or_right (ltb l b) (some_below v bs) more.1)

-- a node that v dominates is one level above a node that v is nowhere above
pub record Before (ms v bs : List ℕ) : Type 0 where
  pub levels : List ℕ
  pub within : Within ms levels
  pub raised : Raised ms levels bs
  pub under : none_above v levels ≡ true

before_here : (m l b : ℕ) (ms v bs : List ℕ) → b ≤ m → Within ms bs → l < b → none_above v bs ≡ true
    → Before (m ∷ ms) (l ∷ v) (b ∷ bs)
unfolding none_above
before_here m l zero ms v bs k w h t = absurd (not-suc-le-zero h)
before_here m l (suc b) ms v bs k w h t =
    record {
      levels = b ∷ bs;
      within = (omega arith, w);
      raised = inl (refl, k, refl);
      under = rw (le-leb l b (le_of_suc-le-suc h)) t;
    }

before_below : (m l b : ℕ) (ms v bs : List ℕ) → b ≤ m → l ≤ b → Before ms v bs → Before (m ∷ ms) (l ∷ v) (b ∷ bs)
unfolding none_above
before_below m l b ms v bs k h e =
    record {
      levels = b ∷ e.levels;
      within = (k, e.within);
      raised = inr (refl, e.raised);
      under = rw (le-leb l b h) e.under;
    }

pub dominated_before : (ms v bs : List ℕ) → Within ms v → Within ms bs → none_above v bs ≡ true → some_below v bs ≡ true
    → Before ms v bs
unfolding none_above some_below
dominated_before [] [] bs h k t s = false_true s
dominated_before [] (l ∷ v) bs h k t s = absurd h
dominated_before (m ∷ ms) [] bs h k t s = absurd h
dominated_before (m ∷ ms) (l ∷ v) [] h k t s = absurd k
dominated_before (m ∷ ms) (l ∷ v) (b ∷ bs) h k t s =
    let p = both (leb l b) (none_above v bs) t in
    ⊎_elim (λ q. before_here m l b ms v bs k.0 k.1 (ltb-true l b q) p.1)
    (λ q. before_below m l b ms v bs k.0 (leb-true l b p.0) (dominated_before ms v bs h.1 k.1 p.1 q))
    (either (ltb l b) (some_below v bs) s)

-- ---- reached nodes and the edges that leave them

module _ (tops : List ℕ) (rows : List (List ℕ)) (valid : All (Within tops) rows) where
  -- a reached node has a row that is nowhere above it
  reached_under : (z : ℕ) → reached tops rows z ≡ true
      → Witness (Within tops) (λ v. none_above v (levels_of tops z)) rows
  unfolding reached held dominated_node dominates
  reached_under z t =
      ⊎_elim
      (λ s.
      let w = any_elim (Within tops) (λ v. eqb (node_id tops v) z) rows valid s in
      let here : levels_of tops z ≡ w.it =
      ap (levels_of tops) (sym (eqb-true (node_id tops w.it) z w.passes)) ∙ levels_id tops w.it w.has in
      record { it = w.it; has = w.has; passes = rw here (above_refl w.it); among = w.among })
      (λ s.
      let w = any_elim (Within tops) (λ v. dominates v (levels_of tops z)) rows valid s in
      record {
        it = w.it;
        has = w.has;
        passes =
            (both (none_above w.it (levels_of tops z)) (some_below w.it (levels_of tops z)) w.passes).0;
        among =
            w.among;
      })
      (either (held tops rows z) (dominated_node tops rows z) t)

  -- a node that a row is nowhere above is reached
  under_reached : (v : List ℕ) (z : ℕ) → Within tops v → ((q : List ℕ → Bool) → q v ≡ true → any_of q rows ≡ true)
      → z < node_count tops
      → none_above v (levels_of tops z) ≡ true → reached tops rows z ≡ true
  unfolding reached held dominated_node dominates
  under_reached v z k mem h t =
      ⊎_elim
      (λ e. rw (mem (λ s. eqb (node_id tops s) z)
      (eq-eqb (node_id tops v) z (ap (node_id tops) e ∙ id_levels tops z h))))
      (λ s. or_right (held tops rows z) (dominated_node tops rows z)
      (mem (λ q. dominates q (levels_of tops z)) (rw t s)))
      (above_cases tops v (levels_of tops z) k (levels_of_within tops z h) t)

  -- an edge from a reached node leads to a dominated one
  pub edge_dominated : (z y : ℕ) → z < node_count tops → reached tops rows z ≡ true → among y (edges tops z) ≡ true
      → dominated_node tops rows y ≡ true
  unfolding dominated_node dominates edges
  edge_dominated z y h t e =
      let far = edge_raises tops z z y h e in
      let at : far.off ≡ y = omega (arith, far.place) in
      let w = reached_under z t in
      let more =
      raised_dominated tops w.it (levels_of tops z) (levels_of tops y) w.has w.passes
      (rw at at far.raised) in
      w.among (λ v. dominates v (levels_of tops y)) (rw more.0 more.1)

  -- a dominated node has an edge from a reached node, whose number is smaller
  pub dominated_edge : (y : ℕ) → y < node_count tops → dominated_node tops rows y ≡ true
      → (z : ℕ) × (z < y) × (reached tops rows z ≡ true) × (among y (edges tops z) ≡ true)
  unfolding dominated_node dominates edges
  dominated_edge y h t =
      let w = any_elim (Within tops) (λ v. dominates v (levels_of tops y)) rows valid t in
      let v = w.it in
      let p = both (none_above v (levels_of tops y)) (some_below v (levels_of tops y)) w.passes in
      let b = dominated_before tops v (levels_of tops y) w.has (levels_of_within tops y h) p.0 p.1 in
      let z = node_id tops b.levels in
      let e : among y (edges_from tops z z) ≡ true =
      raised_edge tops b.levels (levels_of tops y) z y b.within b.raised
      (omega (arith, id_levels tops y h)) in
      let under : none_above v (levels_of tops z) ≡ true = rw (levels_id tops b.levels b.within) b.under in (
        z,
        edge_above tops z z y e,
        under_reached v z w.has w.among (id_small tops b.levels b.within) under,
        e,
      )

  at_reached : (y z : ℕ) (t : Bool) → reached tops rows z ≡ t → among y (cond t (edges tops z) []) ≡ true
      → (t ≡ true) × (among y (edges tops z) ≡ true)
  at_reached y z true e h = (refl, h)
  at_reached y z false e h = unfold among any_of in false_true h

  -- once all nodes below y are passed: a node is dominated exactly where an edge leads to it that leaves a reached node
  pub dominated_crossed : (x y : ℕ) → y < node_count tops → y ≤ x
      → among y (joined (crossed_at tops rows) x) ≡ dominated_node tops rows y
  unfolding crossed_at edges
  dominated_crossed x y h k =
      both_ways (among y (joined (crossed_at tops rows) x)) (dominated_node tops rows y)
      (λ t.
      let j = joined_cases (crossed_at tops rows) y x t in
      let e = at_reached y j.0 (reached tops rows j.0) refl j.2 in
      let low : j.0 < y = edge_above tops j.0 j.0 y e.1 in
      edge_dominated j.0 y (lt_trans low h) e.0 e.1)
      (λ t.
      let w = dominated_edge y h t in
      joined_among (crossed_at tops rows) y x w.0 (lt_of_lt_of_le w.1 k) (rw w.2 w.3))

  -- a node is dominated exactly where some reached node has an edge to it
  pub dominated_by_edge : (y : ℕ) → y < node_count tops
      → dominated_node tops rows y ≡ any_below (λ z. reached tops rows z && among y (edges tops z)) (node_count tops)
  dominated_by_edge y h =
      let leads : ℕ → Bool = λ z. reached tops rows z && among y (edges tops z) in
      both_ways (dominated_node tops rows y) (any_below leads (node_count tops))
      (λ t. let w = dominated_edge y h t in any_at leads (node_count tops) w.0 (lt_trans w.1 h) (rw w.2 w.3))
      (λ t.
      let f = any_found leads (node_count tops) t in
      let e = both (reached tops rows f.0) (among y (edges tops f.0)) f.2 in
      edge_dominated f.0 y f.1 e.0 e.1)
