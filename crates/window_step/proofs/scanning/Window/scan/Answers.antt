use Rattle.window_step.proofs.Compares.{apart_all}
use Rattle.window_step.proofs.scanning.Window.scan.Goals as goal

pub returns-in_default : goal.returns-in_default
returns-in_default c = apart_all _ _ _ _ c.in_default.ensures
