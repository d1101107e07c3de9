use Rattle.std.proofs.Common.{◌≡◌, refl, arith, rules, ◌+◌, ◌-◌}
use Rattle.window_passes.proofs.Running.{running_start, running_last, running_more, running_out}
use Rattle.window_passes.proofs.all_passes.Goals as goal

pub loop-pass-init : goal.loop-pass-init
loop-pass-init c = let e : c.args.fuel - 0 ≡ c.args.fuel = omega arith in rw e (running_start c.requires)

pub returns-then-waiting-eq0 : goal.returns-then-waiting-eq0
returns-then-waiting-eq0 c =
    running_last c.requires c.loop-pass.invariant (omega arith) c.one_pass.ensures (search rules) c.if-waiting-eq0.true c.release_all.ensures refl

pub loop-pass-preserved : goal.loop-pass-preserved
loop-pass-preserved c =
    let e : c.args.fuel - (c.loop-pass._pass + 1) ≡ c.args.fuel - c.loop-pass._pass - 1 = omega arith in
    rw e (running_more c.requires c.loop-pass.invariant (omega arith) c.one_pass.ensures (search rules) (omega arith) refl refl refl)

pub returns : goal.returns
returns c = running_out c.requires c.loop-pass.invariant (omega arith)
