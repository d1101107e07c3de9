use Rattle.std.proofs.Common.{rules}
use Rattle.refusal.specs.Laws.Refusal.{exit, passes, then_err, then_ok}
use Rattle.preference.specs.Valid.{list_refusal, place_refusal, named_refusal}
use Rattle.preference.proofs.check.Goals as goal

pub returns-in_err-check_each : goal.returns-in_err-check_each
unfolding list_refusal
returns-in_err-check_each c =
    exit _ _ _ c.from_residual.ensures.1
    (passes _ _ _ _ (search rules) (passes _ _ _ _ (search rules)
    (then_err _ _ _ (c.in_err-check_each.ensures (place_refusal c.args.list) (λ i r l p. search rules)))))

pub returns : goal.returns
unfolding list_refusal
returns c =
    passes _ _ _ _ (search rules) (passes _ _ _ _ (search rules)
    (then_ok _ _ _ (c.in_ok-check_each.ensures (place_refusal c.args.list) (λ i r l p. search rules))
    (c.check_each-2.ensures (named_refusal c.args.list) (λ i r l p. search rules))))
