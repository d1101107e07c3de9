use Rattle.std.proofs.Common.{◌≡◌, ℕ, ◌+◌, ◌-◌, le_refl, arith, length, drop, lt-ltb, le-ltb}
use Rattle.lattice_nodes.specs.Steps.{stage_edges, onward_edges}
use Rattle.lattice_nodes.specs.Laws.Blocks.{stage_front, stage_inside}
use Rattle.lattice_stretch.specs.Laws.Crossing.{none_crossed, of_part}
use Rattle.lattice_crossing.proofs.cross_onward.Goals as goal

both_is : (a w : ℕ) → a + w + w - a ≡ w + w
both_is a w = omega arith

pub returns-then-nodes-a : goal.returns-then-nodes-a
unfolding onward_edges
returns-then-nodes-a c = rw (le-ltb (c.args.a + c.args.w) (length c.args.nodes.now) (omega arith)) (none_crossed _ _)

pub returns : goal.returns
unfolding onward_edges
returns c =
    let a = c.args.a in
    let w = c.args.w in
    let nodes = c.args.nodes.now in
    let next = c.requires.next (omega arith) in
    rw (lt-ltb (a + w) (length nodes) (omega arith), both_is a w)
    (of_part a (w + w) nodes (stage_edges w (drop a nodes) w) _ _ _ (omega arith) (stage_inside w (drop a nodes) w w (le_refl w))
    (rw (both_is a w, stage_front w (w + w) (drop a nodes) w (omega arith)) at c.cross_stage.ensures))
