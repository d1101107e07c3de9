use Rattle.std.proofs.Common.{◌≡◌, sym, ◌∙◌, arith, rules}
use Rattle.std.proofs.lemmas.Result.{err_from_is_err_and}
use Rattle.laws.specs.Laws.First.{refusal_on, refusal_hit, refusal_none}
use Rattle.laws.specs.First.{first_at}
use Rattle.refusal.specs.Laws.Refusal.{number_some}
use Rattle.refusal.proofs.check_each.Goals as goal

pub loop-i-init : goal.loop-i-init
unfolding first_at
loop-i-init g c f h = search rules

pub returns-in_err-check : goal.returns-in_err-check
returns-in_err-check g c f h =
    let e = h c.loop-i.i _ c.loop-i-test.true c.in_err-check.ensures in
    let p = err_from_is_err_and c.from_residual.result c.from_residual.ensures.1 in
    rw (p.1, p.2) (e ∙ sym (refusal_hit f c.loop-i.i c.args.n (c.loop-i.invariant f h) (λ z. number_some _ (e ∙ z)) c.loop-i-test.true))

pub loop-i-preserved : goal.loop-i-preserved
loop-i-preserved g c f h =
    refusal_on f c.loop-i.i (c.loop-i.invariant f h) (sym (h c.loop-i.i _ c.loop-i-test.true c.in_ok-check.ensures))

pub returns : goal.returns
returns g c f h =
    let e : c.loop-i.i ≡ c.args.n = omega arith in
    sym (refusal_none f c.args.n (rw e at c.loop-i.invariant f h))
