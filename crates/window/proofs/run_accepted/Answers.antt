use Rattle.std.proofs.Common.{arith}
use Rattle.level_table.specs.Laws.Table.{table_fits}
use Rattle.window.proofs.run_accepted.Goals as goal

pub run_room-requires-2-clause-table_length : goal.run_room-requires-2-clause-table_length
run_room-requires-2-clause-table_length c =
    let a = c.args in
    let e = c.table_length-size.ensures in
    (e, omega (arith, e, table_fits a.list a.log.now c.requires.few), omega arith)
