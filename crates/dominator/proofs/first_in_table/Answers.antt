use Rattle.std.specs.Prelude.{◌≡◌, ℕ, List}
use Rattle.std.specs.List.{find}
use Rattle.std.specs.Option.{unwrap_or}
use Rattle.std.proofs.Common.{ap, ◌∙◌}
use Rattle.run_log.specs.Log.{log_of}
use Rattle.pareto.specs.Best.{competing}
use Rattle.pareto.specs.Laws.Competing.{competing_whole}
use Rattle.dominator.specs.First.{best_beats}
use Rattle.dominator.specs.Laws.First.{found_in_table, first_found}
use Rattle.dominator.proofs.first_in_table.Goals as goal

same : {t t' rows rows' : List ℕ} (row none : ℕ) → t ≡ t' → rows ≡ rows'
    → unwrap_or (find (best_beats t rows row) rows) none ≡ unwrap_or (find (best_beats t' rows' row) rows') none
same row none e f = rw (e, f)

pub returns : goal.returns
returns c none =
    let log = log_of c.args.log.now in
    let rows = c.deref.ensures.0 ∙ c.competing_list.ensures ∙ competing_whole log c.requires.row_asked.few in
    ap (λ o. unwrap_or o none) c.first_dominator.ensures
    ∙ same c.args.row none c.requires.table_value rows
    ∙ first_found (best_beats _ (competing log) c.args.row) (competing log) none
    ∙ found_in_table c.args.list log c.args.row c.requires.row_asked none
