use Rattle.std.specs.Prelude.{◌≡◌}
use Rattle.std.proofs.Common.{arith, rules}
use Rattle.output.specs.Laws.Stored.{writes_then, writes_whole}
use Rattle.preference.specs.List.{places}
use Rattle.stream_format.specs.Write.{stream_of}
use Rattle.stream_writer.proofs.Short.{list_few, stream_short}
use Rattle.stream_writer.proofs.store.Goals as goal

pub returns : goal.returns
unfolding stream_of
returns c =
    let list = c.args.list.now in
    let held : places list ≡ list.count = omega (arith, list_few list c.requires.of_list) in
    let short = stream_short list c.args.log.now c.requires.of_list c.requires.of_log in
    let records = rw held at c.put_preferences.ensures in
    let puts = writes_whole (writes_then records c.put_runs.ensures) c.for_records-stream.ensures.start (omega arith) in
    let stored = rw c.for_records-stream.ensures.bytes at puts.last_is in
    rw (← stored) (search rules)
