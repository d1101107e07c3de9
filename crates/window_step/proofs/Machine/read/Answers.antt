use Rattle.std.proofs.Common.{refl, rules}
use Rattle.window_step.proofs.Releasing.{read_released}
use Rattle.window_step.proofs.Machine.read.Goals as goal

pub returns : goal.returns
returns c = read_released (search rules) c.release-self.ensures refl c.judge.ensures
