use Rattle.std.specs.Prelude.{◌≡◌, refl, ℕ, ◌+◌, ◌<◌, min, Bool, true, false, cond, get_or, length}
use Rattle.std.proofs.Common.{rules, arith, to_z, of_z, w32}
use mir.Val.{bool_byte}
use Rattle.preference.specs.List.{named_at, named_places, zero_named}
use Rattle.preference.specs.Level.{layer_of}
use Rattle.preference.specs.Laws.Held.{name_held}
use Rattle.preference.specs.Laws.Names.{gathered_more}
use Rattle.layers.proofs.names_of.Goals as goal

-- a name is kept where it is one of the preference's
kept : (b : Bool) (m : ℕ) → m + bool_byte b ≡ cond b (m + 1) m
kept true m = refl
kept false m = omega arith

pub loop-naming-preserved : goal.loop-naming-preserved
loop-naming-preserved c =
    let a = c.args in
    let l = c.loop-naming in
    let k = l.naming-index in
    let names = c.counted_names-naming-items in
    let t : k < named_places a.list = omega (arith, names.ensures.places) in
    let e : get_or names.result.now k zero_named ≡ named_at a.list k =
    rw names.ensures.held (name_held a.list k t) in
    let f : to_z w32 (of_z w32 (get_or names.result.now k zero_named).value)
    ≡ (get_or names.result.now k zero_named).value = search rules in
    let n = l.invariant.2.few in (
      search rules,
      search rules,
      rw (c.from-next.ensures, c.from.ensures, f, e, kept)
          (gathered_more a.list a.i k l.next l.values l.layers l.invariant.2 (omega arith) (omega arith)),
    )

pub returns : goal.returns
unfolding layer_of
returns c =
    let l = c.loop-naming in
    let a = c.args in
    let n = c.counted_names-naming-items.ensures.places in
    let e : l.naming-index ≡ named_places a.list = omega (arith, n) in
    let m : min l.next (min (length l.values) (length l.layers)) ≡ l.next = omega (arith, l.invariant.2.few) in
    record { layer = λ v others. rw (m, ← e) (l.invariant.2.layer v others) }
