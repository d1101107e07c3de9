use Rattle.std.proofs.Common.{sym, ◌∙◌}
use Rattle.pareto.specs.Laws.Planes.{lower_plane, compared_plane}
use Rattle.window_step.proofs.Comparing.{same_bools, apart_undropped, apart_spared}
use Rattle.window_step.proofs.Compares.{apart_more}
use Rattle.window_step.proofs.scanning.Window.apart.Goals as goal

pub returns-then-lower : goal.returns-then-lower
returns-then-lower c =
    let e = c.plane_levels-lower.ensures in
    record {
      is_entry = c.loop-at-test.true;
      apart = c.loop-at.invariant;
      relation_is =
          c.relation-relation.ensures ∙ rw (← c.row_at.ensures, e.first_is, e.second_is) (compared_plane c.args.self.table.now c.requires _ c.args.row);
    }

pub loop-at-preserved : goal.loop-at-preserved
loop-at-preserved c =
    let a = c.args in
    let l = c.plane_levels-lower in
    let first = rw c.row_at.ensures at (l.ensures.first_is ∙ sym (lower_plane a.self.table.now c.requires _ a.row)) in
    let second = rw c.row_at.ensures at (l.ensures.second_is ∙ sym (lower_plane a.self.table.now c.requires a.row _)) in
    let same = same_bools _ _ c.if-lower.false in
    apart_more _ a.row a.self.work.now _ c.loop-at.invariant c.loop-at-test.true
    (apart_undropped a.self.table.now a.self.work.now a.row c.loop-at.at _ first (same ∙ second))
    (apart_spared a.self.table.now a.self.work.now a.row c.loop-at.at _ first (same ∙ second))
