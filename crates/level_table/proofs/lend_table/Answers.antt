use Rattle.std.proofs.Common.{arith, sym}
use Rattle.run_log.specs.Laws.Log.{accepted}
use Rattle.level_table.specs.Laws.Table.{table_fits}
use Rattle.level_table.proofs.lend_table.Goals as goal

pub lend_room-requires-2-clause-table_length : goal.lend_room-requires-2-clause-table_length
lend_room-requires-2-clause-table_length g c =
    let a = c.args in
    let e = c.table_length-length.ensures in
    let f = table_fits a.list a.log.now (accepted a.log.now (sym c.in_ok-check.ensures)).few in
    (e, omega (arith, e, f), omega arith)
