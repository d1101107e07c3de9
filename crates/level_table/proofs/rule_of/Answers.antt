use Rattle.std.specs.Prelude.{◌<◌, ◌≤◌, length}
use Rattle.std.proofs.lemmas.Bool.{lt-leb}
use Rattle.preference.specs.Parts.{max_levels}
use Rattle.preference.specs.Laws.Held.{found_place, found_held}
use Rattle.preference.specs.Laws.Parts.{part_counted, part_past}
use Rattle.level_table.specs.Rule.{rule_of}
use Rattle.level_table.proofs.rule_of.Goals as goal

pub returns-in_err-preference : goal.returns-in_err-preference
returns-in_err-preference c =
    let a = c.args in
    let e : length (max_levels a.list.now) ≤ a.k =
    part_past a.list.now a.k
    (rw (c.counted.ensures.places, c.part_at-place.ensures) at c.in_err-preference.ensures.lookup.3) in
    rw c.from_residual.ensures e

pub returns : goal.returns
unfolding rule_of
returns c =
    let a = c.args in
    let l = a.list.now in
    let f = c.in_ok-preference.ensures.lookup.3 in
    let n = found_place l _ c.counted.ensures.held c.counted.ensures.places _ _ f.0 f.1 in
    let e = found_held l _ c.counted.ensures.held c.counted.ensures.places _ _ f.0 f.1 in
    let k : a.k < length (max_levels l) = part_counted l a.k (rw c.part_at-place.ensures at n) in
    record {
      counted = k;
      rule =
          rw (
            lt-leb _ _ k,
            ← c.part_at-place.ensures,
            c.from.ensures,
            c.target.ensures,
            c.scale.ensures,
            c.layering.ensures,
            c.half.ensures,
            e,
          );
    }
