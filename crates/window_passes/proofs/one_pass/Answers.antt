use Rattle.window_passes.proofs.Passing.{passing_ready, passing_rising, passing_step, passing_end}
use Rattle.window_passes.proofs.one_pass.Goals as goal

pub read-requires : goal.read-requires
read-requires c = (passing_ready c.requires.0 c.loop-i.invariant c.loop-i-test.true, passing_rising c.requires.0 c.loop-i.invariant)

pub loop-i-preserved : goal.loop-i-preserved
loop-i-preserved c = passing_step c.requires.0 c.loop-i.invariant c.loop-i-test.true c.waiting-entry.ensures c.read.ensures

pub returns : goal.returns
returns c = passing_end c.requires.0 c.loop-i.invariant c.loop-i-test.false
