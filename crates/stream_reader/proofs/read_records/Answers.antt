use Rattle.std.proofs.Common.{◌≡◌, ◌<◌, refl, sym, ◌∙◌, arith, rules}
use Rattle.stream_format.specs.Midway.{Midway, to_read}
use Rattle.stream_format.specs.Laws.Read.{midway_start}
use Rattle.stream_record_reader.specs.Reading.{so_far}
use Rattle.stream_reader.proofs.Placed.{placed, placed_ok, placed_err}
use Rattle.stream_reader.proofs.Records.{read_on, read_off, read_out}
use Rattle.stream_reader.proofs.read_records.Goals.{In_ok-map_err}
use Rattle.stream_reader.proofs.read_records.Goals as goal

pub loop-reading-init : goal.loop-reading-init
loop-reading-init c = rw c.new-reading.ensures (midway_start c.args.stream.now)

pub returns-in_err-map_err : goal.returns-in_err-map_err
returns-in_err-map_err c =
    let t : c.map_err.result ≡ placed c.loop-reading.reading.place c.add_record.result = search rules in
    let e = placed_err _ _ _ _ (sym c.in_err-map_err.was ∙ t) c.from_residual.ensures.1 in
    e.1 ∙ read_off _ _ c.loop-reading.invariant refl c.loop-reading-test.true _ _ (rw e.0 at c.add_record.ensures)

-- one record more
further : (c : In_ok-map_err) → Midway c.args.stream.now (so_far c.add_record.new.self)
    × (to_read c.args.stream.now (so_far c.add_record.new.self) < to_read c.args.stream.now (so_far c.loop-reading.reading))
further c =
    let t : c.map_err.result ≡ placed c.loop-reading.reading.place c.add_record.result = search rules in
    let e = placed_ok _ _ _ (sym c.in_ok-map_err.was ∙ t) in
    read_on _ _ c.loop-reading.invariant refl c.loop-reading-test.true _ (rw e at c.add_record.ensures)

pub pass_runs-requires : goal.pass_runs-requires
pass_runs-requires c = (further (goal.at.pass_runs-requires c).In_ok-map_err).0

pub loop-reading-smaller : goal.loop-reading-smaller
loop-reading-smaller c = omega (arith, (further (goal.at.loop-reading-smaller c).In_ok-map_err).1, c.pass_runs.ensures.1)

pub loop-reading-preserved : goal.loop-reading-preserved
loop-reading-preserved c = c.pass_runs.ensures.0

pub returns : goal.returns
returns c = read_out _ _ _ _ c.loop-reading.invariant c.loop-reading-test.false
