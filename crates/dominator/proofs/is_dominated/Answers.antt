use Rattle.std.proofs.Common.{refl, ◌∙◌, rules, tests, ◌||◌, ℕ, Bool}
use Rattle.std.specs.List.{list_any}
use Rattle.std.proofs.lemmas.Iterator.{YieldsList-from_slice}
use Rattle.std.proofs.lemmas.Iterator.Search.{any_from_yields_List}
use Rattle.std.proofs.lemmas.List.Recursion.{same_from_clauses}
use Rattle.laws.specs.Lists.{any_of}
use Rattle.dominator.specs.First.{beats}
use Rattle.dominator.proofs.is_dominated.Goals as goal

pub returns : goal.returns
unfolding any_of
returns c =
    let rows = c.args.rows.now in
    let p : ℕ → Bool = λ q. beats c.args.table.now q c.args.s in
    any_from_yields_List p _ _ _ c.any.ensures.ran (YieldsList-from_slice rows cc) (λ x b q k. search (rules, tests))
    ∙ same_from_clauses (list_any p) (any_of p) (λ x b. p x || b) refl (λ _ _. refl) (λ _ _. refl) rows
