use Rattle.level_table.specs.Laws.Table.{table_handed}
use Rattle.level_table.proofs.lend_room.Goals as goal

pub use_table-requires : goal.use_table-requires
use_table-requires g c =
    let a = c.args in
    let r = c.requires.table_length in
    c.requires.callable _ (table_handed a.list a.log.now g.row.N a.length r.0 r.1 _ c.fill_table.ensures)

pub returns : goal.returns
returns g c =
    let a = c.args in
    let r = c.requires.table_length in
    (_, c.use_table.ensures, table_handed a.list a.log.now g.row.N a.length r.0 r.1 _ c.fill_table.ensures)
