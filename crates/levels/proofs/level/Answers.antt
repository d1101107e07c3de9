use Rattle.std.proofs.Common.{rules, sym, arith}
use Rattle.arith.specs.Laws.Local.{num}
use Rattle.refusal.specs.Laws.Refusal.{call_exit, passes, stops, then_err, then_ok, refused_by, accepted_by}
use Rattle.refusal.specs.declared.Refusal.TheVariants.{NoRoom}
use Rattle.preference.specs.Level.{level_refusal, side_at, value_refusal}
use Rattle.preference.specs.Laws.Level.{level_small}
use Rattle.levels.proofs.level.Goals as goal

pub returns-in_err-check : goal.returns-in_err-check
unfolding level_refusal
returns-in_err-check c = call_exit _ _ _ _ c.from_residual.ensures.1 (then_err _ _ _ c.in_err-check.ensures)

pub returns-then-list-place : goal.returns-then-list-place
unfolding level_refusal
returns-then-list-place c =
    refused_by NoRoom _ _ (then_ok _ _ _ c.in_ok-check.ensures (stops NoRoom _ _ (search rules)))

pub returns-in_err-check_inside : goal.returns-in_err-check_inside
unfolding level_refusal value_refusal
returns-in_err-check_inside c =
    call_exit _ _ _ _ c.from_residual-in_err-check_inside.ensures.1
    (then_ok _ _ _ c.in_ok-check.ensures (passes _ _ _ _ (search rules)
    (rw (num c.args.value c.ranges.value.sfits, c.constructor_at-form.ensures) at c.in_err-check_inside.ensures)))

pub overflow_cast-result : goal.overflow_cast-result
unfolding value_refusal
overflow_cast-result c =
    let n = num c.args.value c.ranges.value.sfits in
    let inside = rw (n, c.constructor_at-form.ensures) at c.in_ok-check_inside.ensures in
    omega (
      arith,
      rw n at c.level_at.ensures,
      level_small c.args.list c.args.place (sym c.in_ok-check.ensures) (search rules) c.args.value (sym inside),
    )

pub returns : goal.returns
unfolding level_refusal value_refusal side_at
returns c =
    let n = num c.args.value c.ranges.value.sfits in
    let f = c.constructor_at-form.ensures in
    accepted_by _ _ _
    (sym (then_ok _ _ _ c.in_ok-check.ensures (passes _ _ _ _ (search rules) (rw (n, f) at c.in_ok-check_inside.ensures))))
    (rw (c.level_at.ensures, c.side.ensures, n, f))
