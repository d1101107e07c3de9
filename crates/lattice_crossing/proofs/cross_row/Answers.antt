use Rattle.std.proofs.Common.{◌≡◌, ℕ, ◌+◌, ◌-◌, ◌<◌, ◌≤◌, Bool, true, false, cond, List, [], ◌++◌, Result, Ok, Err, refl, sym, ◌∙◌, append-nil, arith, ltb, lt-ltb, le-ltb, length, take, drop, length-append}
use Rattle.std.proofs.Math.Nat.{add-sub_cancel_left}
use Rattle.std.specs.Result.{is_ok}
use Rattle.lattice_nodes.specs.Steps.{stretch, first_reached, row_edges}
use Rattle.lattice_stretch.specs.declared.Budget.{Budget}
use Rattle.lattice_stretch.specs.declared.OverBudget.{OverBudget}
use Rattle.lattice_stretch.specs.Crossed.{Crosses}
use Rattle.lattice_stretch.specs.Laws.Crossing.{exit, none_crossed, kept, cut_off, then_more}
use Rattle.lattice_crossing.proofs.cross_row.Goals as goal

module _ (w a : ℕ) (nodes : List ℕ) (f : ℕ) (e : f ≡ first_reached (take (a + w - a) (drop a nodes))) where
  abbrev along : List ℕ
  along = stretch (a + f + 1) (w - f - 1)

  abbrev onward : List ℕ
  onward = stretch (a + f + w) (w - f)

  edges_are : row_edges w nodes a ≡ along ++ cond (ltb (a + w) (length nodes)) onward []
  unfolding row_edges
  edges_are = rw (sym (rw (add-sub_cancel_left a w) at e))

  -- no node of the row is reached
  none : f ≡ w → row_edges w nodes a ≡ []
  unfolding stretch
  none h =
      let no_step : w - f - 1 ≡ 0 = omega arith in
      let no_more : w - f ≡ 0 = omega arith in
      edges_are ∙ rw (no_step, no_more) (go (ltb (a + w) (length nodes)))
    where
      go : (t : Bool) → ◌≡◌ {A = List ℕ} (cond t [] []) []
      go true = refl
      go false = refl

  stops : (budget : Budget) (after : List ℕ) (r : Result Budget OverBudget) → Crosses along budget nodes after r → is_ok r ≡ false → (y : OverBudget)
      → Crosses (row_edges w nodes a) budget nodes after (Err y)
  stops budget after r c t y = cut_off _ _ _ _ _ c t y _ after (rw (edges_are, length-append along) (omega arith))

  module _ (budget m : Budget) (after : List ℕ) (c : Crosses along budget nodes after (Ok m)) where
    -- it is the last row
    last : length after ≤ a + w → Crosses (row_edges w nodes a) budget nodes after (Ok m)
    last h = rw (edges_are, le-ltb (a + w) (length nodes) (omega (arith, kept _ _ _ _ _ c refl)), append-nil along) c

    next : a + w < length after → (after' : List ℕ) (r : Result Budget OverBudget) → Crosses onward m after after' r
        → Crosses (row_edges w nodes a) budget nodes after' r
    next h after' r d =
        rw (edges_are, lt-ltb (a + w) (length nodes) (omega (arith, kept _ _ _ _ _ c refl))) (then_more _ _ _ _ _ c onward after' r d)

pub returns-then-f-w : goal.returns-then-f-w
returns-then-f-w c = rw (none _ _ _ _ c.first_reached-f.ensures c.if-f-w.true) (none_crossed _ _)

pub returns-in_err-along : goal.returns-in_err-along
returns-in_err-along c =
    exit _ _ c.from_residual.ensures.1 (stops _ _ _ _ c.first_reached-f.ensures _ _ _ c.in_err-along.ensures refl _)

pub returns-then-nodes-end : goal.returns-then-nodes-end
returns-then-nodes-end c = last _ _ _ _ c.first_reached-f.ensures _ _ _ c.in_ok-along.ensures c.if-nodes-end.true

pub returns : goal.returns
returns c = next _ _ _ _ c.first_reached-f.ensures _ _ _ c.in_ok-along.ensures c.if-nodes-end.false _ _ c.cross_stretch-2.ensures
