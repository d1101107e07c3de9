use Rattle.std.proofs.Common.{◌≡◌, rules}
use Rattle.run_log.specs.Log.{log_of}
use Rattle.lattice.specs.Ids.{row_nodes}
use Rattle.lattice.proofs.Ids.{nodes_long}
use Rattle.lattice.proofs.walk_rows.Goals.{After-deref}
use Rattle.lattice.proofs.walk_rows.Goals as goal

ids_are : (c : After-deref) → c.deref.result.now ≡ row_nodes c.args.list (log_of c.args.log.now)
ids_are c = search rules

pub settle-requires-clause-marks_len : goal.settle-requires-clause-marks_len
settle-requires-clause-marks_len c =
    let e = ids_are (goal.at.settle-requires-clause-marks_len c).After-deref in rw (e, nodes_long) c.requires.marks_len
