use Rattle.std.proofs.Common.{arith}
use Rattle.stream_reader.proofs.Runs.{midway_run, run_falls}
use Rattle.stream_reader.proofs.pass_runs.Goals as goal

-- a run stands here
pub loop-reading-preserved : goal.loop-reading-preserved
loop-reading-preserved c =
    let s = c.args.stream.now in
    let r = c.loop-reading.reading in
    let i = c.loop-reading.invariant in
    let h = c.run_stands.ensures c.loop-reading-test.true in (
      i.0,
      midway_run s r.place r.rows r.list i.0 h.0 h.1 h.2 i.1,
      omega (arith, run_falls s r.place r.rows r.list i.0 h.0 h.1 h.2, i.2),
    )
