use Rattle.std.specs.Prelude.{◌≡◌, refl, ℕ, suc, ◌+◌, ◌-◌, ◌<◌, true, false, get_or, length}
use Rattle.std.proofs.Common.{rules, sym, ap, ◌∙◌, arith, add-one, lt-ltb, le-ltb}
use Rattle.laws.specs.First.{first_at}
use Rattle.laws.specs.Lists.{joined}
use Rattle.laws.specs.Laws.First.{search_on, search_hit}
use Rattle.laws.specs.Laws.Joined.{joined_longer}
use Rattle.preference.specs.List.{places, preference_at, zero_preference}
use Rattle.preference.specs.Parts.{max_parts, part_of}
use Rattle.preference.specs.Laws.Held.{place_held}
use Rattle.preference.specs.declared.PartAt.{PartAt}
use Rattle.preference.specs.declared.PreferenceList.{PreferenceList}
use Rattle.levels.proofs.part_at.Invariants.{more}
use Rattle.levels.proofs.part_at.Goals as goal

-- the place that the search ends at
found : (list : PreferenceList) (k i before : ℕ) → before ≡ length (joined (max_parts list) i)
    → first_at (more list k) (places list) ≡ i
    → ◌≡◌ {A = PartAt} (record { place = i; half = k - before }) (part_of list k)
unfolding part_of
found list k i before e f = rw (f, e)

-- the parts up to a place and with it
with_is : (list : PreferenceList) (i before n : ℕ) → before ≡ length (joined (max_parts list) i)
    → n ≡ length (max_parts list i)
    → before + n ≡ length (joined (max_parts list) (suc i))
with_is list i before n e f = rw (← add-one i) (omega (arith, e, f, joined_longer (max_parts list) i))

pub loop-place-init : goal.loop-place-init
unfolding joined first_at
loop-place-init c = (search rules, search rules, refl, refl)

pub returns-then-k-with : goal.returns-then-k-with
returns-then-k-with c =
    let l = c.loop-place in
    let a = c.args in
    let items = c.counted-preference-items in
    let t : l.place < places a.list = omega (arith, items.ensures.places) in
    let q : get_or items.result.now l.place zero_preference ≡ preference_at a.list l.place =
    rw items.ensures.held (place_held a.list l.place t) in
    let n = (rw q at c.form_parts.ensures).0 in
    let w = with_is a.list l.place l.before c.form_parts.result l.invariant.2 n in
    let e : more a.list a.k l.place ≡ true = lt-ltb a.k _ (omega (arith, w, c.if-k-with.true)) in
    found a.list a.k l.place l.before l.invariant.2
    (search_hit (more a.list a.k) l.place (places a.list) l.invariant.3 e t)

pub loop-place-preserved : goal.loop-place-preserved
loop-place-preserved c =
    let l = c.loop-place in
    let a = c.args in
    let items = c.counted-preference-items in
    let t : l.place < places a.list = omega (arith, items.ensures.places) in
    let q : get_or items.result.now l.place zero_preference ≡ preference_at a.list l.place =
    rw items.ensures.held (place_held a.list l.place t) in
    let n = (rw q at c.form_parts.ensures).0 in
    let w = with_is a.list l.place l.before c.form_parts.result l.invariant.2 n in
    let e : more a.list a.k l.place ≡ false = le-ltb a.k _ (omega (arith, w, c.if-k-with.false)) in (
      omega (arith, c.form_parts.ensures.1),
      c.if-k-with.false,
      w ∙ ap (λ n. length (joined (max_parts a.list) n)) (sym (add-one l.place)),
      search_on (more a.list a.k) l.place l.invariant.3 e,
    )

pub returns : goal.returns
returns c =
    let l = c.loop-place in
    let a = c.args in
    let e : l.place ≡ places a.list = omega (arith, c.counted-preference-items.ensures.places) in
    let n : length c.counted.result.now ≡ places a.list = c.counted.ensures.places in
    rw n (found a.list a.k (places a.list) l.before (rw e at l.invariant.2) (rw e at l.invariant.3))
