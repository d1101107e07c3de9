use Rattle.std.proofs.Common.{sym, ap, ◌∙◌}
use Rattle.std.proofs.Math.ListN.{get_or-eq_default}
use Rattle.constructor.specs.Level.{max_level}
use Rattle.preference.specs.Level.{max_at}
use Rattle.preference.specs.Parts.{max_levels}
use Rattle.preference.specs.Laws.Held.{found_place, found_held}
use Rattle.preference.specs.Laws.Parts.{part_counted, part_past, max_counted}
use Rattle.preference.specs.declared.Preference.{Preference}
use Rattle.levels.proofs.part_max.Goals as goal

pub returns-in_default : goal.returns-in_default
returns-in_default c =
    let a = c.args in
    let h = c.in_default.ensures.lookup.3 in
    sym (get_or-eq_default (max_levels a.list) 0
    (part_past a.list a.k (rw (c.counted.ensures.places, c.part_at.ensures) at h)))

pub returns : goal.returns
unfolding max_at
returns c =
    let a = c.args in
    let f = c.in-Some.ensures.lookup.3 in
    let n = found_place a.list _ c.counted.ensures.held c.counted.ensures.places _ _ f.0 f.1 in
    let e = found_held a.list _ c.counted.ensures.held c.counted.ensures.places _ _ f.0 f.1 in
    c.max_level.ensures
    ∙ ap (λ (p : Preference). max_level p.constructor) (rw c.part_at.ensures at e)
    ∙ sym (max_counted a.list a.k (part_counted a.list a.k (rw c.part_at.ensures at n)))
