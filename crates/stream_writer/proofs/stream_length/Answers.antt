use Rattle.std.specs.Prelude.{◌≡◌, ◌≤◌, length}
use Rattle.std.proofs.Common.{◌∙◌, arith, length-append}
use Rattle.laws.specs.Lists.{joined}
use Rattle.output.specs.Laws.Stored.{writes_whole}
use Rattle.preference.specs.List.{places}
use Rattle.run_log.specs.Log.{row_count}
use Rattle.run_log.specs.Laws.Log as logs
use Rattle.stream_format.specs.Write.{preference_records, row_bytes, stream_of}
use Rattle.stream_format.specs.Laws.Lengths.{parts_short}
use Rattle.stream_writer.proofs.Short.{list_few, list_few_named, rows_whole}
use Rattle.stream_writer.proofs.stream_length.Goals as goal
use Rattle.stream_writer.proofs.stream_length.Goals.{After-row_count}

-- the preferences are put out from place 0 on
put_out : (c : After-row_count)
    → (c.put_preferences.new.out.at ≡ length (joined (preference_records c.args.list.now) c.args.list.now.count))
    × (length (joined (preference_records c.args.list.now) c.args.list.now.count) ≤ 3248)
put_out c =
    let list = c.args.list.now in
    let few = list_few list c.requires.of_list in
    let held : places list ≡ list.count = omega (arith, few) in
    let short : length (joined (preference_records list) list.count) ≤ 3248 =
    omega (arith, few, parts_short list list.count (list_few_named list c.requires.of_list)) in
    let records = rw held at c.put_preferences.ensures in
    let s = c.for_records-stream.ensures in
    ((writes_whole records s.start (omega (arith, s.limit, short))).next_is ∙ omega arith, short)

pub overflow_add-result : goal.overflow_add-result
overflow_add-result c =
    let p = put_out (goal.at.overflow_add-result c).After-row_count in
    omega (arith, p.0, p.1, c.row_count.ensures, (logs.accepted c.args.log.now c.requires.of_log).few)

pub returns : goal.returns
unfolding stream_of
returns c =
    let list = c.args.list.now in
    let log = c.args.log.now in
    let p = put_out (goal.at.returns c).After-row_count in
    omega (
      arith,
      p.0,
      c.row_count.ensures,
      length-append (joined (preference_records list) list.count) (joined (row_bytes log) (row_count log)),
      rows_whole log (row_count log) (omega arith),
    )
