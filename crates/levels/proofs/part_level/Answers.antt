use Rattle.std.specs.Prelude.{◌<◌, length}
use Rattle.std.proofs.Common.{sym, ap, ◌∙◌}
use Rattle.arith.specs.Laws.Local.{num}
use Rattle.preference.specs.Level.{side_at}
use Rattle.preference.specs.Parts.{max_levels}
use Rattle.preference.specs.Laws.Held.{found_place, found_held}
use Rattle.preference.specs.Laws.Parts.{part_counted, part_past, level_by, level_past}
use Rattle.preference.specs.declared.Preference.{Preference}
use Rattle.levels.proofs.part_level.Goals as goal

pub returns-in_default : goal.returns-in_default
returns-in_default c =
    let a = c.args in
    let h = c.in_default.ensures.lookup.3 in
    sym (level_past a.list a.row.now a.k
    (part_past a.list a.k (rw (c.counted.ensures.places, c.part_at-place.ensures) at h)))

pub level_at-requires : goal.level_at-requires
level_at-requires c =
    let f = c.in-Some.ensures.lookup.3 in
    ap (λ (p : Preference). p.constructor)
    (found_held c.args.list _ c.counted.ensures.held c.counted.ensures.places _ _ f.0 f.1)

pub returns : goal.returns
unfolding side_at
returns c =
    let a = c.args in
    let f = c.in-Some.ensures.lookup.3 in
    let n = found_place a.list _ c.counted.ensures.held c.counted.ensures.places _ _ f.0 f.1 in
    let e = found_held a.list _ c.counted.ensures.held c.counted.ensures.places _ _ f.0 f.1 in
    let k : a.k < length (max_levels a.list) = part_counted a.list a.k (rw c.part_at-place.ensures at n) in
    c.part_in.ensures
    ∙ rw (
      c.half.ensures,
      c.level_at.ensures,
      c.side.ensures,
      num c.run_value-v.result c.run_value-v.type_inv,
      c.run_value-v.ensures,
      e,
      c.part_at-place.ensures,
    )
    (sym (level_by a.list a.k k a.row.now))
