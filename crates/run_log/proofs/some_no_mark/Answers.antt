use Rattle.std.specs.Prelude.{ℕ, get_or}
use Rattle.std.proofs.Common.{rules, tests, ltb, ◌∙◌}
use Rattle.std.proofs.lemmas.Iterator.{YieldsList-from_range}
use Rattle.std.proofs.lemmas.Iterator.Search.{any_from_yields_List}
use Rattle.run_log.specs.Log.{row_count}
use Rattle.run_log.proofs.Rows.{list_any_range}
use Rattle.run_log.proofs.some_no_mark.Goals as goal

pub returns : goal.returns
returns c =
    let n = row_count c.args.log.now in
    let no_mark = λ (r : ℕ). ltb 1 (get_or c.args.marks.now r 0) in
    any_from_yields_List no_mark _ _ _ c.any.ensures.ran
    (YieldsList-from_range 0 n n (search rules) (search rules)) (λ x b q k. search (rules, tests))
    ∙ list_any_range no_mark n
