use Rattle.std.specs.Prelude.{eqb}
use Rattle.std.proofs.Common.{rules, tests, ◌∙◌}
use Rattle.std.proofs.lemmas.Iterator.{YieldsList-from_slice}
use Rattle.std.proofs.lemmas.Iterator.Search.{any_from_yields_List}
use Rattle.laws.specs.Laws.Places.{list_any_below}
use Rattle.preference.specs.List.{zero_preference}
use Rattle.preference.specs.declared.Preference.{Preference}
use Rattle.preference.proofs.column_taken.Goals as goal

pub returns : goal.returns
returns c =
    let a = c.args in
    any_from_yields_List (λ (p : Preference). eqb p.column a.column) _ _ _ c.any.ensures.ran
    (YieldsList-from_slice _ c.iter.ensures.rest) (λ x b q k. search (rules, tests))
    ∙ list_any_below (λ (p : Preference). eqb p.column a.column) zero_preference a.list.now.preferences a.n (search rules)
