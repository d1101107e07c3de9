use Rattle.std.specs.Prelude.{◌≡◌, refl, ◌<◌, get_or, length}
use Rattle.std.proofs.Common.{rules, ap, ◌∙◌, arith}
use Rattle.laws.specs.Lists.{joined}
use Rattle.laws.specs.Laws.Joined.{joined_longer}
use Rattle.preference.specs.List.{preference_at, zero_preference, places}
use Rattle.preference.specs.Parts.{max_parts, max_levels}
use Rattle.preference.specs.Laws.Held.{place_held}
use Rattle.levels.proofs.parts.Goals as goal

pub loop-preference-init : goal.loop-preference-init
unfolding joined
loop-preference-init c = (search rules, refl)

pub loop-preference-preserved : goal.loop-preference-preserved
loop-preference-preserved c =
    let l = c.loop-preference in
    let a = c.args in
    let i = l.preference-index in
    let items = c.counted-preference-items in
    let t : i < places a.list = omega (arith, items.ensures.places) in
    let e : get_or items.result.now i zero_preference ≡ preference_at a.list i =
    rw items.ensures.held (place_held a.list i t) in
    let p = rw e at c.form_parts-total.ensures in (
      omega (arith, p.1),
      omega (arith, l.invariant.1, p.0, joined_longer (max_parts a.list) i),
    )

pub returns : goal.returns
unfolding max_levels
returns c =
    let l = c.loop-preference in
    let n = c.counted-preference-items.ensures.places in
    let e : l.preference-index ≡ places c.args.list = omega (arith, n) in
    l.invariant.1 ∙ ap (λ n. length (joined (max_parts c.args.list) n)) e
