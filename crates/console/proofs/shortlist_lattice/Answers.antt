use Rattle.std.proofs.Common.{rules}
use Rattle.console.proofs.Flat.{lattice_refused, lattice_read}
use Rattle.console.proofs.shortlist_lattice.Goals as goal

pub returns-in-Ok : goal.returns-in-Ok
returns-in-Ok c =
    let h = c.in-Ok.ensures.held in
    lattice_read _ _ _ _ _ _ _ _ _ _ (search rules) c.by_lattice.ensures c.in-Ok.ensures.refused h.0 c.log.ensures h.1

pub returns-in-Err : goal.returns-in-Err
returns-in-Err c = lattice_refused _ _ _ _ _ _ (search rules) (search rules) c.in-Err.ensures.refused
