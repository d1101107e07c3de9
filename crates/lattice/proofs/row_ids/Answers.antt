use Rattle.std.proofs.Common.{rules}
use Rattle.lattice.proofs.Ids.{in_table, by_table}
use Rattle.lattice.proofs.row_ids.Goals as goal

pub lend_table-requires : goal.lend_table-requires
lend_table-requires c = let t = in_table c.requires in record { callable = λ z p e. search rules }

pub returns : goal.returns
returns c = let t = by_table c.requires in search rules
