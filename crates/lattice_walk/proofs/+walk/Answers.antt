use mathlib.Core.Path.{◌≡◌, refl, sym, ap, ◌∙◌}
use mathlib.Core.List.{List}
use Prim.Native.Nat.{ℕ, ◌-◌, ◌<◌}
use native.Mathlib.Nat.{pos_of_ne-zero}
use native.Mathlib.Omega.{arith}
use lib.Arith.{lt_of_le-ne}
use lib.ListN.{length, take, drop, length-drop}
use Rattle.lattice_nodes.specs.Steps.{first_reached}
use Rattle.lattice_nodes.specs.Laws.FirstReached.{first_low, first_found}
use Rattle.lattice_nodes.specs.Laws.Blocks.{First, not_last}
use Rattle.lattice_stretch.specs.Laws.Crossing.{exit}
use Rattle.lattice_walk.proofs.Onward.{rest_is, parts, part_some, weight_some, unreached, row, begin, finish}
use Rattle.lattice_walk.proofs.Onward.{block_lattice, block_stops, size', next_fits, next_stops, go_on}
use Rattle.lattice_walk.proofs.+walk.Goals.{Else-f-eq0}
use Rattle.lattice_walk.proofs.+walk.Goals as goal

-- some node is reached
found_low : (nodes : List ℕ) (f : ℕ) → f ≡ first_reached nodes → (f ≡ length nodes → ⊥) → f < length nodes
found_low nodes f e ne = lt_of_le-ne (omega (arith, e, first_low nodes)) ne

-- and it is not the first, so that there is a first part
parts_of : (t : _) (c : Else-f-eq0 t) → First c.args.weights.now (length c.args.nodes.now)
parts_of t c =
    parts _ _ _ c.requires (pos_of_ne-zero c.if-f-eq0.false) (found_low _ _ c.first_reached-f.ensures c.if-f-nodes.false)

-- the parts after the first are fewer
fewer : (ws : List ℕ) → 0 < length ws → length (take (length ws - 1) (drop 1 ws)) < length ws
fewer ws h = omega (arith, ap length (rest_is ws), length-drop 1 ws)

pub returns-then-f-nodes : goal.returns-then-f-nodes
returns-then-f-nodes t c = unreached _ _ _ (sym c.first_reached-f.ensures ∙ c.if-f-nodes.true)

pub cross_whole-requires-clause-reached : goal.cross_whole-requires-clause-reached
cross_whole-requires-clause-reached t c =
    let nodes = c.args.nodes.now in
    let first : first_reached nodes ≡ 0 = sym c.first_reached-f.ensures ∙ c.if-f-eq0.true in
    let some : first_reached nodes < length nodes =
    lt_of_le-ne (first_low nodes) (λ q. c.if-f-nodes.false (c.first_reached-f.ensures ∙ q)) in
    rw first at (first_found nodes some)

pub bounds-weights-0 : goal.bounds-weights-0
bounds-weights-0 t c = part_some _ _ (parts_of t (goal.at.bounds-weights-0 t c).Else-f-eq0)

pub returns-then-weight-eq1 : goal.returns-then-weight-eq1
returns-then-weight-eq1 t c =
    row _ _ _ (parts_of t (goal.at.returns-then-weight-eq1 t c).Else-f-eq0)
    c.if-weight-eq1.true _ c.first_reached-f.ensures _ _ c.cross_stretch.ensures

pub bounds-weights-1 : goal.bounds-weights-1
bounds-weights-1 t c = not_last _ c.args.nodes.now (parts_of t (goal.at.bounds-weights-1 t c).Else-f-eq0) c.if-weight-eq1.false

pub overflow_step-block : goal.overflow_step-block
overflow_step-block t c = weight_some _ _ (parts_of t (goal.at.overflow_step-block t c).Else-f-eq0)

pub nonzero_div-block-end : goal.nonzero_div-block-end
nonzero_div-block-end t c = weight_some _ _ (parts_of t (goal.at.nonzero_div-block-end t c).Else-f-eq0)

pub loop-block-init : goal.loop-block-init
loop-block-init t c = begin _ _ _ (parts_of t (goal.at.loop-block-init t c).Else-f-eq0) _ c.first_reached-f.ensures

pub walk-requires : goal.walk-requires
walk-requires t c =
    let p = parts_of t (goal.at.walk-requires t c).Else-f-eq0 in
    let ws = c.args.weights.now in (
      omega (arith, fewer ws (part_some _ _ p), c.decreases),
      block_lattice _ _ _ p _ c.loop-block-test.true _ _ c.loop-block.auto.nodes c.loop-block.invariant c.requires,
    )

pub returns-in_err-budget : goal.returns-in_err-budget
returns-in_err-budget t c =
    let p = parts_of t (goal.at.returns-in_err-budget t c).Else-f-eq0 in
    exit _ _ c.from_residual.ensures.1
    (block_stops _ _ _ p _ c.loop-block-test.true _ _ c.loop-block.auto.nodes c.loop-block.invariant _ _ c.in_err-budget.ensures refl _)

pub cross_onward-requires : goal.cross_onward-requires
cross_onward-requires t c =
    let p = parts_of t (goal.at.cross_onward-requires t c).Else-f-eq0 in
    next_fits _ c.args.budget _ p _ c.loop-block-test.true c.requires.nodes _
    (size' _ _ _ p _ c.loop-block-test.true _ _ c.loop-block.auto.nodes c.loop-block.invariant _ _ c.in_ok-budget.ensures)

pub returns-in_err-budget-2 : goal.returns-in_err-budget-2
returns-in_err-budget-2 t c =
    let p = parts_of t (goal.at.returns-in_err-budget-2 t c).Else-f-eq0 in
    exit _ _ c.from_residual-in_err-budget-2.ensures.1
    (next_stops _ _ _ p _ c.loop-block-test.true _ _ c.loop-block.auto.nodes c.loop-block.invariant _ _ c.in_ok-budget.ensures
    _ _ c.in_err-budget-2.ensures refl _)

pub loop-block-preserved : goal.loop-block-preserved
loop-block-preserved t c =
    let p = parts_of t (goal.at.loop-block-preserved t c).Else-f-eq0 in
    go_on _ _ _ p _ c.loop-block-test.true _ _ c.loop-block.auto.nodes c.loop-block.invariant _ _ c.in_ok-budget.ensures
    _ _ c.in_ok-budget-2.ensures

pub returns : goal.returns
returns t c =
    finish _ _ _ (parts_of t (goal.at.returns t c).Else-f-eq0)
    _ _ _ _ (found_low _ _ c.first_reached-f.ensures c.if-f-nodes.false) c.loop-block.auto.block-end c.loop-block-test.false c.loop-block.invariant
