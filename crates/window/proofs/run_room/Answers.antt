use Rattle.std.proofs.Common.{◌∙◌, refl, arith}
use Rattle.run_log.specs.Log.{log_of}
use Rattle.level_table.specs.Laws.Table.{table_handed}
use Rattle.window.proofs.Table.{rows_handed, counted, count_fits, marked_all}
use Rattle.window.proofs.run_room.Goals as goal

pub run_rows-requires : goal.run_rows-requires
run_rows-requires g c =
    rows_handed c.args.list (log_of c.args.log.now) _ _ c.args.w c.requires.runnable
    (c.deref.ensures.0 ∙ c.competing_list-rows.ensures)

pub overflow_cast-result : goal.overflow_cast-result
overflow_cast-result g c =
    let a = c.args in
    let r = c.requires.table_length in
    let t = table_handed a.list a.log.now g.row.N a.size r.0 r.1 _ c.fill_table.ensures in
    let rows = c.deref.ensures.0 ∙ c.competing_list-rows.ensures in
    omega (
      arith,
      count_fits a.list (log_of a.log.now) _ _ a.w c.requires.runnable rows t a.marks.now refl c.row_count-n.ensures
          c.run_rows.ensures.0,
    )

pub returns : goal.returns
returns g c =
    let a = c.args in
    let r = c.requires.table_length in
    let t = table_handed a.list a.log.now g.row.N a.size r.0 r.1 _ c.fill_table.ensures in
    let rows = c.deref.ensures.0 ∙ c.competing_list-rows.ensures in (
      counted a.list (log_of a.log.now) _ _ a.w c.requires.runnable rows t a.marks.now refl c.row_count-n.ensures
          c.run_rows.ensures.0,
      marked_all a.list (log_of a.log.now) _ _ a.w c.requires.runnable rows t a.marks.now refl c.row_count-n.ensures
          c.run_rows.ensures.1,
    )
