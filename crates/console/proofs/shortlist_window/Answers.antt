use Rattle.std.proofs.Common.{rules}
use Rattle.console.proofs.Flat.{window_refused, window_read}
use Rattle.console.proofs.shortlist_window.Goals as goal

pub returns-in-Ok : goal.returns-in-Ok
returns-in-Ok c =
    let h = c.in-Ok.ensures.held in
    window_read _ _ _ _ _ _ _ _ _ _ (search rules) c.by_window.ensures c.in-Ok.ensures.refused h.0 c.log.ensures h.1

pub returns-in-Err : goal.returns-in-Err
returns-in-Err c = window_refused _ _ _ _ _ _ (search rules) (search rules) c.in-Err.ensures.refused
